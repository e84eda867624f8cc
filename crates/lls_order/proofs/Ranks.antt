-- Ranks of variables, and what they say.
use Rattle.std.proofs.Common.{◌≡◌, ◌≢◌, ℕ, zero, suc, true, ◌+◌, ◌-◌, ◌*◌, ◌<◌, ◌≤◌, List, length, get_or, set, refl, sym, ap, ◌⊎◌, inl, inr, arith}
use Rattle.std.specs.Prelude.{◌↔◌, nat_lt}
use Rattle.std.proofs.lemmas.Bool.{cases_lt}
use Rattle.std.proofs.lemmas.Bool.Decides.{nat_tests}
use Rattle.std.proofs.lemmas.List.{get_or-set_other}
use Rattle.std.proofs.lemmas.Grind.{get_or-set_at}
use Rattle.lls_lit.specs.declared.var.TheConstants.Var.{MOST}
use Rattle.lls_order.specs.Queue.{rank_of}

pub rank_of-variable : (activities : List ℕ) (v : ℕ) → 0 < v → rank_of activities v ≡ get_or activities (v - 1) 0 * MOST + (MOST - (v - 1))
rank_of-variable activities zero some = absurd (omega (arith, some))
rank_of-variable activities (suc n) some =
    let place : suc n - 1 ≡ n = omega arith in
    rw place refl

-- variables of one rank are one
by_both : (a b m n : ℕ) → m < MOST → n < MOST → a * MOST + (MOST - m) ≡ b * MOST + (MOST - n) → m ≡ n
by_both a b m n m_fits n_fits same = elim (cases_lt a b) [
  | inl less ↦ omega arith
  | inr ge ↦ elim (cases_lt b a) [ inl more ↦ omega arith | inr le ↦ omega arith ]
]

pub rank_of-distinct : (activities : List ℕ) (v w : ℕ) → v ≤ MOST → w ≤ MOST → rank_of activities v ≡ rank_of activities w → v ≡ w
rank_of-distinct activities zero zero v_fits w_fits same = refl
rank_of-distinct activities zero (suc n) v_fits w_fits same = absurd (omega (arith, same, w_fits))
rank_of-distinct activities (suc m) zero v_fits w_fits same = absurd (omega (arith, same, v_fits))
rank_of-distinct activities (suc m) (suc n) v_fits w_fits same =
    ap suc (by_both (get_or activities m 0) (get_or activities n 0) m n (omega (arith, v_fits)) (omega (arith, w_fits)) same)

-- the greater rank is more activity, or as much and the smaller number
by_rank : (a b m n : ℕ) → m < MOST → n < MOST → a * MOST + (MOST - m) < b * MOST + (MOST - n) → (a < b) ⊎ ((a ≡ b) × (n < m))
by_rank a b m n m_fits n_fits less = elim (cases_lt a b) [
  | inl lower ↦ inl lower
  | inr ge ↦ inr (omega arith, omega arith)
]

pub from_rank : (activities : List ℕ) (v w : ℕ) → 0 < v → 0 < w → v ≤ MOST → w ≤ MOST → rank_of activities w < rank_of activities v
    → (get_or activities (w - 1) 0 < get_or activities (v - 1) 0) ⊎ ((get_or activities (w - 1) 0 ≡ get_or activities (v - 1) 0) × (v < w))
from_rank activities v w v_some w_some v_fits w_fits less =
    elim (by_rank (get_or activities (w - 1) 0) (get_or activities (v - 1) 0) (w - 1) (v - 1) (omega arith) (omega arith) (omega (arith, rank_of-variable activities v v_some, rank_of-variable activities w w_some, less))) [
      | inl lower ↦ inl lower
      | inr t ↦ inr (t.0, omega (arith, t.1))
    ]

pub to_rank : (activities : List ℕ) (v w : ℕ) → 0 < v → 0 < w → v ≤ MOST → w ≤ MOST
    → (get_or activities (w - 1) 0 < get_or activities (v - 1) 0) ⊎ ((get_or activities (w - 1) 0 ≡ get_or activities (v - 1) 0) × (v < w)) → rank_of activities w < rank_of activities v
to_rank activities v w v_some w_some v_fits w_fits (inl lower) = omega (arith, rank_of-variable activities v v_some, rank_of-variable activities w w_some, lower)
to_rank activities v w v_some w_some v_fits w_fits (inr t) = omega (arith, rank_of-variable activities v v_some, rank_of-variable activities w w_some, t.0, t.1)

-- a variable gets an activity that is greater than all
module _ (activities : List ℕ) (v activity : ℕ) (some : 0 < v) (within : v ≤ length activities) (few : length activities ≤ MOST) where
  pub rank_of-others : (w : ℕ) → w ≢ v → rank_of (set activities (v - 1) activity) w ≡ rank_of activities w
  rank_of-others zero other = refl
  rank_of-others (suc n) other = ap (λ a. a * MOST + (MOST - n)) (get_or-set_other activities (v - 1) n activity 0 (λ same. other (omega (arith, same, some))))

  rank_of-greatest_among : (w : ℕ) → w ≢ v → ((k : ℕ) → get_or activities k 0 < activity) → rank_of (set activities (v - 1) activity) w < activity * MOST + 1
  rank_of-greatest_among zero other greatest = omega arith
  rank_of-greatest_among (suc n) other greatest = omega (arith, get_or-set_other activities (v - 1) n activity 0 (λ same. other (omega (arith, same, some))), greatest n)

  pub rank_of-greatest : ((k : ℕ) → get_or activities k 0 < activity) → (w : ℕ) → w ≢ v → rank_of (set activities (v - 1) activity) w < rank_of (set activities (v - 1) activity) v
  rank_of-greatest greatest w other =
      let its : get_or (set activities (v - 1) activity) (v - 1) 0 ≡ activity = get_or-set_at activities (v - 1) (v - 1) activity 0 refl (omega arith) in
      omega (arith, rank_of-variable (set activities (v - 1) activity) v some, its, rank_of-greatest_among w other greatest)

-- 0 has the least rank
pub rank_of-none : (activities : List ℕ) (v : ℕ) → rank_of activities 0 ≤ rank_of activities v
rank_of-none activities v = omega arith

below_of : (a b : ℕ) → nat_lt a b ≡ true → a < b
below_of a b is = grind (arith, nat_tests)

is_below : (a b : ℕ) → a < b → nat_lt a b ≡ true
is_below a b less = grind (arith, nat_tests)

-- what the test of two ranks says
pub compared : (activities : List ℕ) (v w : ℕ) → 0 < v → 0 < w → v ≤ MOST → w ≤ MOST
    → (nat_lt (rank_of activities w) (rank_of activities v) ≡ true) ↔ ((get_or activities (w - 1) 0 < get_or activities (v - 1) 0) ⊎ ((get_or activities (w - 1) 0 ≡ get_or activities (v - 1) 0) × (v < w)))
compared activities v w v_some w_some v_fits w_fits = (
  λ is. from_rank activities v w v_some w_some v_fits w_fits (below_of (rank_of activities w) (rank_of activities v) is),
  λ before. is_below (rank_of activities w) (rank_of activities v) (to_rank activities v w v_some w_some v_fits w_fits before),
)

same_test : (a b m n : ℕ) → (a < b → m < n) → (b ≤ a → n ≤ m) → nat_lt a b ≡ nat_lt m n
same_test a b m n less le = elim (cases_lt a b) [
  | inl lower ↦ let more : m < n = less lower in grind (arith, nat_tests)
  | inr ge ↦ let no_more : n ≤ m = le ge in grind (arith, nat_tests)
]

-- the test of two ranks, told without them: by the activities where they differ, else by the numbers
pub told_by_activity : (activities : List ℕ) (v w : ℕ) → 0 < v → 0 < w → v ≤ MOST → w ≤ MOST → get_or activities (v - 1) 0 ≢ get_or activities (w - 1) 0
    → nat_lt (get_or activities (w - 1) 0) (get_or activities (v - 1) 0) ≡ nat_lt (rank_of activities w) (rank_of activities v)
told_by_activity activities v w v_some w_some v_fits w_fits differ =
    same_test (get_or activities (w - 1) 0) (get_or activities (v - 1) 0) (rank_of activities w) (rank_of activities v)
    (λ lower. to_rank activities v w v_some w_some v_fits w_fits (inl lower))
    (λ ge. below_or_same (to_rank activities w v w_some v_some w_fits v_fits (inl (strictly ge))))
  where
    strictly : get_or activities (v - 1) 0 ≤ get_or activities (w - 1) 0 → get_or activities (v - 1) 0 < get_or activities (w - 1) 0
    strictly ge = omega (arith, ge, differ)

    below_or_same : {a b : ℕ} → a < b → a ≤ b
    below_or_same less = omega (arith, less)

pub told_by_number : (activities : List ℕ) (v w : ℕ) → 0 < v → 0 < w → v ≤ MOST → w ≤ MOST → get_or activities (v - 1) 0 ≡ get_or activities (w - 1) 0
    → nat_lt v w ≡ nat_lt (rank_of activities w) (rank_of activities v)
told_by_number activities v w v_some w_some v_fits w_fits same =
    same_test v w (rank_of activities w) (rank_of activities v)
    (λ lower. to_rank activities v w v_some w_some v_fits w_fits (inr (sym same, lower)))
    (λ ge. omega (arith, rank_of-variable activities v v_some, rank_of-variable activities w w_some, same, ge, v_fits))

pub told_by_none : (activities : List ℕ) (v w : ℕ) → 0 < v → v ≤ MOST → w ≡ 0 → true ≡ nat_lt (rank_of activities w) (rank_of activities v)
told_by_none activities v w v_some v_fits none =
    let less : rank_of activities w < rank_of activities v = omega (arith, ap (rank_of activities) none, rank_of-variable activities v v_some, v_fits) in
    grind (arith, nat_tests)
