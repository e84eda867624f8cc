-- What holds of the parts of an order, kept as it changes.
use Rattle.std.proofs.Common.{◌≡◌, ◌≢◌, ℕ, zero, suc, ◌+◌, ◌-◌, ◌*◌, ◌/◌, ◌^◌, ◌<◌, ◌≤◌, true, false, List, length, map, get_or, set, replicate, refl, sym, ap, ◌∙◌, inl, inr, arith}
use Rattle.std.specs.Prelude.{max}
use Rattle.std.proofs.Math.Nat.{div-le_self}
use Rattle.std.proofs.lemmas.List.{length-map, length-set, length-replicate, get_or-map, get_or_past, get_or-replicate, get_or-set_other, get_or-set_same, set-get_or}
use Rattle.std.proofs.lemmas.Grind.{get_or-set_at}
use Rattle.std.proofs.lemmas.Bool.{cases_lt}
use Rattle.std.proofs.lemmas.Bool.Decides.{eqb_tells}
use Rattle.lls_lit.specs.declared.var.TheConstants.Var.{MOST}
use Rattle.lls_order.specs.declared.order.TheConstants.{MOST_ACTIVITY}
use Rattle.lls_order.specs.Order.{is_in}
use Rattle.lls_order.specs.HeapOrder.{HeapState, put_in}
use Rattle.lls_order.specs.Heap.{AreTables, AreParts, IsHeap, IsHeapButAt, inside_of, parent_of, rank_of, ranks}
use Rattle.lls_order.proofs.Inside.{inside_of-is, get_or-inside_of, is_below}
use Rattle.lls_order.proofs.Sifts.{parent_of-lt}

scaled_fits : (activities : List ℕ) (power most : ℕ) → ((v : ℕ) → get_or activities v 0 ≤ most) → (v : ℕ) → get_or (map (λ a. a / 2 ^ power) activities) v 0 ≤ most
scaled_fits activities power most fits v =
    let scale = λ (a : ℕ). a / 2 ^ power in
    elim (cases_lt v (length activities)) [
      | inl within ↦ omega (arith, get_or-map scale activities v 0 0 within, div-le_self (get_or activities v 0) (2 ^ power), fits v)
      | inr past ↦ omega (arith, get_or_past (map scale activities) v 0 (omega (arith, past, length-map activities scale)))
    ]

pub AreParts-scaled : (vars count amount less power : ℕ) (activities heap places scaled new after : List ℕ) → AreParts vars activities count heap places amount
    → scaled ≡ map (λ a. a / 2 ^ power) activities → less ≡ max (amount / 2 ^ power) 1 → AreTables scaled new after → IsHeap (ranks scaled new) count → AreParts vars scaled count new after less
AreParts-scaled vars count amount less power activities heap places scaled new after h is lessened tables is_heap = record {
  tables = tables;
  activity_each = ap length is ∙ length-map activities (λ (a : ℕ). a / 2 ^ power) ∙ h.activity_each;
  within = h.within;
  is_heap = is_heap;
  least = omega (arith, lessened);
  most = omega (arith, lessened, div-le_self amount (2 ^ power), h.most);
  activities_fit = λ v. omega (arith, ap (λ xs. get_or xs v 0) is, scaled_fits activities power MOST_ACTIVITY h.activities_fit v);
}

-- each number at its own place
pub inside_of-all : (vars : ℕ) (places : List ℕ) → length places ≡ vars → ((k : ℕ) → k < vars → get_or places k 0 ≡ k) → inside_of vars places ≡ replicate vars true
inside_of-all vars places each own = inside_of-is vars places (replicate vars true) (length-replicate vars true ∙ sym each) (λ v v_in.
    let within : v < vars = omega (arith, v_in, each) in
    is_below (get_or places v 0) vars (omega (arith, own v within, within)) ∙ sym (get_or-replicate vars v true false within)
    )

-- a number that stands at the first places already
pub inside_of-put_again : (count v : ℕ) (places : List ℕ) → v < length places → get_or places v 0 < count → set (inside_of count places) v true ≡ inside_of count places
inside_of-put_again count v places within before =
    ap (set (inside_of count places) v) (sym (get_or-inside_of count places v within ∙ is_below (get_or places v 0) count before)) ∙ set-get_or (inside_of count places) v false

-- a variable's activity rises
module _ (vars count amount v : ℕ) (activities heap places : List ℕ) (h : AreParts vars activities count heap places amount) (v_in : v < vars) where
  risen : List ℕ
  risen = set activities v (get_or activities v 0 + amount)

  same_rank : (w : ℕ) → w ≢ v → rank_of risen w ≡ rank_of activities w
  unfolding risen
  same_rank w other = ap (λ a. a * MOST + (MOST - w)) (get_or-set_other activities v w (get_or activities v 0 + amount) 0 other)

  more_rank : rank_of activities v ≤ rank_of risen v
  unfolding risen
  more_rank = omega (arith, get_or-set_at activities v v (get_or activities v 0 + amount) 0 refl (omega (arith, v_in, h.activity_each)))

  -- another place has another number
  other_number : (k : ℕ) → k < length heap → k ≢ get_or places v 0 → get_or heap k 0 ≢ v
  other_number k k_in other same = other (sym (h.tables.inverse.place_back k k_in) ∙ ap (λ n. get_or places n 0) same)

  its_number : get_or heap (get_or places v 0) 0 ≡ v
  its_number = h.tables.inverse.number_back v (omega (arith, v_in, h.activity_each, h.tables.number_each))

  same_at : (k : ℕ) → k < length heap → k ≢ get_or places v 0 → ranks risen heap k ≡ ranks activities heap k
  same_at k k_in other = same_rank (get_or heap k 0) (other_number k k_in other)

  more_at : (k : ℕ) → k ≡ get_or places v 0 → ranks activities heap k ≤ ranks risen heap k
  more_at k at =
      let number : get_or heap k 0 ≡ v = ap (λ n. get_or heap n 0) at ∙ its_number in
      omega (arith, ap (rank_of activities) number, ap (rank_of risen) number, more_rank)

  count_fits : count ≤ length heap
  count_fits = omega (arith, h.within, h.activity_each, h.tables.number_each)

  not_less : (k : ℕ) → k < length heap → ranks activities heap k ≤ ranks risen heap k
  not_less k k_in = elim (eqb_tells k (get_or places v 0)) [ inl t ↦ more_at k t.1 | inr t ↦ omega (arith, same_at k k_in t.1) ]

  pub risen_inside : IsHeapButAt (ranks (set activities v (get_or activities v 0 + amount)) heap) count (get_or places v 0)
  unfolding risen
  risen_inside = record {
    others = λ k above within other.
        let low : parent_of k < k = parent_of-lt k above in
        let k_in : k < length heap = omega (arith, within, count_fits) in
        omega (arith, same_at k k_in other, not_less (parent_of k) (omega (arith, low, k_in)), h.is_heap.kept k above within);
    across = λ k above within child at_above.
        let place = get_or places v 0 in
        let low : parent_of k < k = parent_of-lt k above in
        let lower : parent_of place < place = parent_of-lt place at_above in
        let k_in : k < length heap = omega (arith, within, count_fits) in
        omega (arith, same_at k k_in (λ same. omega (arith, same, child, low)), same_at (parent_of place) (omega (arith, lower, low, child, k_in)) (λ same. omega (arith, same, lower)), h.is_heap.kept k above within, ap (ranks activities heap) child, h.is_heap.kept place at_above (omega (arith, low, child, within)));
  }

  pub risen_outside : count ≤ get_or places v 0 → IsHeap (ranks (set activities v (get_or activities v 0 + amount)) heap) count
  unfolding risen
  risen_outside behind = record {
    kept = λ k above within.
        let low : parent_of k < k = parent_of-lt k above in
        let k_in : k < length heap = omega (arith, within, count_fits) in
        omega (arith, same_at k k_in (λ same. omega (arith, same, within, behind)), same_at (parent_of k) (omega (arith, low, k_in)) (λ same. omega (arith, same, low, within, behind)), h.is_heap.kept k above within);
  }

  risen_fits : (most w : ℕ) → get_or activities v 0 + amount ≤ most → ((u : ℕ) → get_or activities u 0 ≤ most) → get_or risen w 0 ≤ most
  unfolding risen
  risen_fits most w sum fits = elim (eqb_tells w v) [
    | inl t ↦ omega (arith, get_or-set_at activities v w (get_or activities v 0 + amount) 0 t.1 (omega (arith, v_in, h.activity_each)), sum)
    | inr t ↦ omega (arith, get_or-set_other activities v w (get_or activities v 0 + amount) 0 t.1, fits w)
  ]

  pub AreParts-risen : (new after : List ℕ) → get_or activities v 0 + amount ≤ MOST_ACTIVITY → AreTables (set activities v (get_or activities v 0 + amount)) new after
      → IsHeap (ranks (set activities v (get_or activities v 0 + amount)) new) count → AreParts vars (set activities v (get_or activities v 0 + amount)) count new after amount
  unfolding risen
  AreParts-risen new after sum tables is_heap = record {
    tables = tables;
    activity_each = length-set activities v (get_or activities v 0 + amount) ∙ h.activity_each;
    within = h.within;
    is_heap = is_heap;
    least = h.least;
    most = h.most;
    activities_fit = λ w. risen_fits MOST_ACTIVITY w sum h.activities_fit;
  }

  pub AreTables-risen : AreTables (set activities v (get_or activities v 0 + amount)) heap places
  AreTables-risen =
      let same : length (set activities v (get_or activities v 0 + amount)) ≡ length activities = length-set activities v (get_or activities v 0 + amount) in
      record { few = omega (arith, same, h.tables.few); number_each = h.tables.number_each ∙ sym same; inverse = h.tables.inverse }

-- what is put in is in
pub is_in-put_in : (o : HeapState) (v : ℕ) → 1 ≤ v → v ≤ length o.order.inside → is_in (put_in o v).order v ≡ true
is_in-put_in o zero some within = absurd (omega (arith, some))
is_in-put_in o (suc n) some within =
    let place : suc n - 1 ≡ n = omega arith in
    rw place (get_or-set_same o.order.inside n true false (omega (arith, within)))
