-- How many literals of the clause are of the current level.
use Rattle.std.proofs.Common.{◌≡◌, ℕ, zero, suc, ◌+◌, ◌-◌, ◌<◌, ◌≤◌, Bool, true, false, cond, List, [], ◌∷◌, length, get_or, set, refl, sym, ap, ◌∙◌, inl, inr, arith}
use Rattle.std.specs.Prelude.{ℤ, Contains, count_by, replicate}
use Rattle.std.proofs.lemmas.List.{length-set, length-replicate, get_or-set_other}
use Rattle.std.proofs.lemmas.Grind.{get_or-set_at}
use Rattle.std.proofs.lemmas.List.Folds.{sum_by-replicate}
use Rattle.std.proofs.lemmas.List.Sums.{get_or-le-sum_by, sum_by-cons}
use Rattle.std.proofs.lemmas.Bool.Decides.{eqb_tells}
use Rattle.lls_lit.specs.declared.var.TheConstants.Var.{MOST}
use Rattle.lls_lit.specs.Literal.{variable_of}
use Rattle.lls_analyse.specs.declared.visited.Seen.{Seen}
use Rattle.lls_analyse.specs.declared.visited.Seen.TheVariants.{No, Open, Kept, Followed}
use Rattle.lls_analyse.specs.Visited.{VisitedState, is_seen, is_open, status, AreVisited}
use Rattle.lls_analyse.specs.Marked.{nothing_seen}
use Rattle.lls_analyse.proofs.Visits.{count_by-set, unlike}

abbrev one_if : Bool → ℕ
one_if b = cond b 1 0

abbrev open_one : Seen → ℕ
open_one x = cond (is_open x) 1 0

pub open_is : (x : Seen) → is_open x ≡ true → x ≡ Open
open_is No is = absurd cc
open_is Open is = refl
open_is Kept is = absurd cc
open_is Followed is = absurd cc

-- where some are counted, one is found
pub found_open : (seen : List Seen) → 1 ≤ count_by is_open seen → (i : ℕ) × ((i < length seen) × (get_or seen i No ≡ Open))
found_open [] some = absurd (omega (arith, some))
found_open (x ∷ xs) some = by_test (is_open x) refl (found_open xs) where
  by_test : (b : Bool) → is_open x ≡ b → (1 ≤ count_by is_open xs → (i : ℕ) × ((i < length xs) × (get_or xs i No ≡ Open))) → (i : ℕ) × ((i < length (x ∷ xs)) × (get_or (x ∷ xs) i No ≡ Open))
  by_test true is later = (0, (omega arith, open_is x is))
  by_test false is later =
      let rest = later (omega (arith, some, sum_by-cons open_one x xs, ap one_if is)) in
      (suc rest.0, (omega (arith, rest.1.0), rest.1.1))

pub counts_open : (seen : List Seen) (i : ℕ) → i < length seen → get_or seen i No ≡ Open → 1 ≤ count_by is_open seen
counts_open seen i lt at = omega (arith, get_or-le-sum_by open_one seen i No lt, ap open_one at)

-- where one is counted, there is one alone
pub open_alone : (seen : List Seen) (i j : ℕ) → count_by is_open seen ≡ 1 → i < length seen → j < length seen → get_or seen i No ≡ Open → get_or seen j No ≡ Open → i ≡ j
open_alone seen i j one lt lt' at at' = elim (eqb_tells j i) [
  | inl t ↦ sym t.1
  | inr t ↦ absurd (omega (arith, one, count_by-set is_open seen i Followed lt, ap open_one at, counts_open (set seen i Followed) j (omega (arith, lt', length-set seen i Followed)) (get_or-set_other seen i j Followed No t.1 ∙ at')))
]

-- a literal that is open, where one is counted
pub record IsOpen (s : VisitedState) (l : ℤ) : Type 0 where
  pub contains : Contains s.lits l
  pub is_open : status s.seen l ≡ Open

pub some_open : (s : VisitedState) → AreVisited s → 1 ≤ count_by is_open s.seen → (l : ℤ) × IsOpen s l
some_open s h some =
    let at = found_open s.seen some in
    let listed = h.listed at.0 (ap is_seen at.1.1) in
    (listed.lit, record { contains = listed.stands; is_open = ap (λ n. get_or s.seen n No) (omega (arith, listed.of_variable)) ∙ at.1.1 })

-- an open literal gives way
pub AreVisited-follow : (s : VisitedState) (i : ℕ) → AreVisited s → i < length s.seen → get_or s.seen i No ≡ Open → AreVisited (record s { seen = set s.seen i Followed })
AreVisited-follow s i h lt at =
    let still : (j : ℕ) → is_seen (get_or (set s.seen i Followed) j No) ≡ is_seen (get_or s.seen j No) = λ j. elim (eqb_tells j i) [
      | inl t ↦ ap is_seen (get_or-set_at s.seen i j Followed No t.1 lt) ∙ sym (ap (λ n. is_seen (get_or s.seen n No)) t.1 ∙ ap is_seen at)
      | inr t ↦ ap is_seen (get_or-set_other s.seen i j Followed No t.1)
    ] in
    record {
      vars_fit = h.vars_fit;
      each = length-set s.seen i Followed ∙ h.each;
      within = h.within;
      once = h.once;
      all_seen = λ l stands. still (variable_of l - 1) ∙ h.all_seen l stands;
      listed = λ j is. h.listed j (sym (still j) ∙ is);
      counted = omega (arith, count_by-set is_seen s.seen i Followed lt, ap (λ x. one_if (is_seen x)) at, h.counted);
    }

pub opens-follow : (seen : List Seen) (i : ℕ) → i < length seen → get_or seen i No ≡ Open → count_by is_open (set seen i Followed) + 1 ≡ count_by is_open seen
opens-follow seen i lt at = omega (arith, count_by-set is_open seen i Followed lt, ap open_one at)

-- nothing is known
pub get_or-nothing : (n i : ℕ) → get_or (replicate n No) i No ≡ No
get_or-nothing zero i = refl
get_or-nothing (suc n) zero = refl
get_or-nothing (suc n) (suc i) = get_or-nothing n i

pub AreVisited-nothing : (vars : ℕ) → vars ≤ MOST → AreVisited (nothing_seen vars)
AreVisited-nothing vars few = record {
  vars_fit = few;
  each = length-replicate vars No;
  within = refl;
  once = refl;
  all_seen = λ l (k, lt, at). absurd (omega (arith, lt));
  listed = λ i is. absurd (unlike is (ap is_seen (get_or-nothing vars i)));
  counted = omega (arith, sum_by-replicate (λ (x : Seen). cond (is_seen x) 1 0) vars No);
}

-- where no literal was visited, nothing is known
none_seen : (seen : List Seen) → count_by is_seen seen ≡ 0 → seen ≡ replicate (length seen) No
none_seen [] none = refl
none_seen (x ∷ xs) none = by_case x refl (none_seen xs) where
  counted : count_by is_seen (x ∷ xs) ≡ cond (is_seen x) 1 0 + count_by is_seen xs
  counted = sum_by-cons (λ (y : Seen). cond (is_seen y) 1 0) x xs

  by_case : (y : Seen) → x ≡ y → (count_by is_seen xs ≡ 0 → xs ≡ replicate (length xs) No) → x ∷ xs ≡ replicate (length (x ∷ xs)) No
  by_case No is rest = ap (λ y. y ∷ xs) is ∙ ap (λ ys. No ∷ ys) (rest (omega (arith, counted, none, ap (λ y. one_if (is_seen y)) is)))
  by_case Open is rest = absurd (omega (arith, counted, none, ap (λ y. one_if (is_seen y)) is))
  by_case Kept is rest = absurd (omega (arith, counted, none, ap (λ y. one_if (is_seen y)) is))
  by_case Followed is rest = absurd (omega (arith, counted, none, ap (λ y. one_if (is_seen y)) is))

pub nothing_left : (s : VisitedState) → AreVisited s → s.lits ≡ [] → s ≡ nothing_seen s.vars
nothing_left s h none =
    let seen : s.seen ≡ replicate s.vars No = none_seen s.seen (omega (arith, h.counted, ap (λ (ls : List ℤ). length ls) none)) ∙ ap (λ n. replicate n No) h.each in
    ap (λ (xs : List Seen). record { vars = s.vars; seen = xs; lits = s.lits }) seen ∙ ap (λ (ls : List ℤ). record { vars = s.vars; seen = replicate s.vars No; lits = ls }) none
