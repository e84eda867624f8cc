-- A ring of links that is made of sorted numbers.
use Rattle.std.proofs.Common.{◌≡◌, ◌≢◌, ℕ, ◌+◌, ◌-◌, ◌<◌, ◌≤◌, List, length, get_or, sym, ap, subst, ◌∙◌, inl, inr, arith}
use Rattle.std.specs.List.{Contains, IsDistinct}
use Rattle.std.specs.List.Sorted.{IsNonDecreasingBy, IsPermutation}
use Rattle.std.specs.Prelude.{nat_eq, false}
use Rattle.std.proofs.lemmas.Bool.{cases_lt}
use Rattle.std.proofs.lemmas.Bool.Decides.{nat_tests}
use Rattle.std.proofs.lemmas.List.{get_or_default}
use Rattle.std.proofs.lemmas.List.Elements.{Contains-get_or}
use Rattle.std.proofs.lemmas.List.Sorted.{Contains-permutation, IsPermutation-sym, length_permutation}
use Rattle.std.proofs.lemmas.Map.Keys.{IsDistinct-IsPermutation, IsDistinct-from_apart, apart_from_distinct}
use Rattle.lls_order.specs.Queue.{AreInRing, AreLinks, HasEach, IsPrevious}
use Rattle.lls_order.proofs.Links.{AreDistinct, Follows, next_alone, previous_alone}

-- where a number stands
pub record IsAt (numbers : List ℕ) (v : ℕ) : Type 0 where
  pub place : ℕ
  pub within : place < length numbers
  pub is : get_or numbers place 0 ≡ v

pub is_at : (numbers : List ℕ) (v : ℕ) → Contains numbers v → IsAt numbers v
is_at numbers v (k, within, is) = record { place = k; within = within; is = sym (get_or_default numbers k v 0 within) ∙ is }

pub Contains-at : (numbers : List ℕ) (k v : ℕ) → k < length numbers → get_or numbers k 0 ≡ v → Contains numbers v
Contains-at numbers k v within is = (k, within, get_or_default numbers k v 0 within ∙ is)

-- numbers that differ do so in another order
apart : (a b : ℕ) → a ≢ b → nat_eq a b ≡ false
apart a b other = grind (arith, nat_tests)

differ : (a b : ℕ) → nat_eq a b ≡ false → a ≢ b
differ a b is same = grind (arith, nat_tests)

flips : (a b : ℕ) → nat_eq a b ≡ nat_eq b a
flips a b = grind (arith, nat_tests)

module _ (vars : ℕ) (numbers sorted : List ℕ) (h : HasEach vars numbers) (same : IsPermutation numbers sorted) where
  are_distinct : IsDistinct nat_eq sorted
  are_distinct =
      IsDistinct-IsPermutation nat_eq flips numbers sorted same
      (IsDistinct-from_apart nat_eq numbers (λ i k d less within.
      apart (get_or numbers i d) (get_or numbers k d) (λ equal.
      let i_in : i < length numbers = omega arith in
      let at : i ≡ k = h.once i k i_in within (sym (get_or_default numbers i d 0 i_in) ∙ equal ∙ get_or_default numbers k d 0 within) in
      omega arith
      )))

  pub HasEach-permutation : HasEach vars sorted
  HasEach-permutation = record {
    each = length_permutation numbers sorted same ∙ h.each;
    fits = λ k within.
        let at = is_at numbers (get_or sorted k 0) (Contains-permutation sorted numbers (get_or sorted k 0) (IsPermutation-sym numbers sorted same) (Contains-get_or sorted k 0 within)) in
        omega (arith, at.is, h.fits at.place at.within);
    once = λ i k i_in k_in equal. elim (cases_lt i k) [
      | inl less ↦ absurd (differ (get_or sorted i 0) (get_or sorted k 0) (apart_from_distinct nat_eq sorted i k 0 are_distinct less k_in) equal)
      | inr ge ↦ elim (cases_lt k i) [
        | inl more ↦ absurd (differ (get_or sorted k 0) (get_or sorted i 0) (apart_from_distinct nat_eq sorted k i 0 are_distinct more i_in) (sym equal))
        | inr le ↦ omega (arith, ge, le)
      ]
    ];
    there = λ v v_in. Contains-permutation numbers sorted v same (h.there v v_in);
  }

-- what links that are turned round have
pub HasEach-previous : (f : ℕ → ℕ) (vars : ℕ) (previous next : List ℕ) → AreDistinct f vars → AreLinks f vars previous next → HasEach vars previous
HasEach-previous f vars previous next distinct h = record {
  each = h.previous_each;
  fits = λ k within. (h.before k (omega (arith, within, h.previous_each))).fits;
  once = λ i k i_in k_in equal.
      let i_fits : i ≤ vars = omega (arith, i_in, h.previous_each) in
      let k_fits : k ≤ vars = omega (arith, k_in, h.previous_each) in
      next_alone f vars distinct i k (get_or previous k 0) i_fits k_fits (subst (λ w. IsPrevious f vars i w) equal (h.before i i_fits)) (h.before k k_fits);
  there = λ v v_in.
      let next_in : get_or next v 0 ≤ vars = h.next_fits v v_in in
      Contains-at previous (get_or next v 0) v (omega (arith, next_in, h.previous_each)) (previous_alone f vars distinct (get_or next v 0) (get_or previous (get_or next v 0) 0) v (h.before (get_or next v 0) next_in) (h.after v v_in));
}

-- what leads to a number
record IsLed (next : List ℕ) (vars v : ℕ) : Type 0 where
  from : ℕ
  fits : from ≤ vars
  is : get_or next from 0 ≡ v

module _ (f : ℕ → ℕ) (vars : ℕ) (distinct : AreDistinct f vars) (least : (x : ℕ) → f 0 ≤ f x) (numbers next : List ℕ)
    (h : HasEach vars numbers) (sorted : IsNonDecreasingBy f numbers) (ring : AreInRing numbers next) (next_each : length next ≡ vars + 1) where
  place_of : (v : ℕ) → v ≤ vars → IsAt numbers v
  place_of v v_in = is_at numbers v (h.there v v_in)

  le : (i k : ℕ) → i ≤ k → k < length numbers → f (get_or numbers i 0) ≤ f (get_or numbers k 0)
  le i k before within = sorted i k 0 before within

  fits_at : (k : ℕ) → k < length numbers → get_or numbers k 0 ≤ vars
  fits_at k within = h.fits k within

  rises : (i k : ℕ) → i < k → k < length numbers → f (get_or numbers i 0) < f (get_or numbers k 0)
  rises i k before within =
      let i_in : i < length numbers = omega arith in
      let no_more : f (get_or numbers i 0) ≤ f (get_or numbers k 0) = le i k (omega arith) within in
      let other : f (get_or numbers i 0) ≢ f (get_or numbers k 0) = λ equal.
      let at : i ≡ k = h.once i k i_in within (distinct (get_or numbers i 0) (get_or numbers k 0) (fits_at i i_in) (fits_at k within) equal) in
      omega (arith, at, before) in
      omega (arith, no_more, other)

  some_number : 0 < length numbers
  some_number = omega (arith, h.each)

  first_none : get_or numbers 0 0 ≡ 0
  first_none =
      let at = place_of 0 (omega arith) in
      let no_more : f (get_or numbers 0 0) ≤ f (get_or numbers at.place 0) = le 0 at.place (omega arith) at.within in
      distinct (get_or numbers 0 0) 0 (fits_at 0 some_number) (omega arith) (omega (arith, no_more, ap f at.is, least (get_or numbers 0 0)))

  some_at : (k : ℕ) → 0 < k → k < length numbers → 0 < get_or numbers k 0
  some_at k above within =
      let other : get_or numbers k 0 ≢ 0 = λ none.
      let at : k ≡ 0 = h.once k 0 within some_number (none ∙ sym first_none) in
      omega (arith, at, above) in
      omega (arith, other)

  previous_at : (k : ℕ) → k + 1 < length numbers → IsPrevious f vars (get_or numbers (k + 1) 0) (get_or numbers k 0)
  previous_at k within = record {
    fits = fits_at k (omega arith);
    lesser = λ some. rises k (k + 1) (omega arith) within;
    greatest = λ x x_in lower.
        let at = place_of x x_in in
        let less = lower (some_at (k + 1) (omega arith) within) in
        elim (cases_lt k at.place) [
          | inl behind ↦ absurd (omega (arith, less, ap f at.is, le (k + 1) at.place (omega (arith, behind)) at.within))
          | inr before ↦ omega (arith, ap f at.is, le at.place k before (omega (arith, within)))
        ];
  }

  previous_around : (k : ℕ) → k + 1 ≡ length numbers → IsPrevious f vars 0 (get_or numbers k 0)
  previous_around k last = record {
    fits = fits_at k (omega arith);
    lesser = λ none. absurd (omega (arith, none));
    greatest = λ x x_in lower.
        let at = place_of x x_in in
        omega (arith, ap f at.is, le at.place k (omega (arith, at.within, last)) (omega (arith, last)));
  }

  follows : (v : ℕ) → v ≤ vars → Follows f vars v (get_or next v 0)
  follows v v_in =
      let at = place_of v v_in in
      let P : ℕ → Type 0 = λ u. Follows f vars u (get_or next u 0) in
      let Q : ℕ → Type 0 = λ w. Follows f vars (get_or numbers at.place 0) w in
      subst P at.is (
      elim (cases_lt (at.place + 1) (length numbers)) [
        | inl within ↦ subst Q (sym (ring.behind at.place within)) (record { fits = fits_at (at.place + 1) within; is = previous_at at.place within })
        | inr past ↦
            let last : at.place + 1 ≡ length numbers = omega (arith, past, at.within) in
            subst Q (sym (ring.around at.place last ∙ first_none)) (record { fits = omega arith; is = previous_around at.place last })
      ]
      )

  led : (v : ℕ) → v ≤ vars → IsLed next vars v
  led v v_in =
      let at = place_of v v_in in
      elim (cases_lt 0 at.place) [
        | inl above ↦
            let back : at.place - 1 + 1 ≡ at.place = omega (arith, above) in
            record {
              from = get_or numbers (at.place - 1) 0;
              fits = fits_at (at.place - 1) (omega (arith, at.within));
              is = ring.behind (at.place - 1) (omega (arith, back, at.within)) ∙ ap (λ k. get_or numbers k 0) back ∙ at.is;
            }
        | inr first ↦ record {
          from = get_or numbers vars 0;
          fits = fits_at vars (omega (arith, h.each));
          is = ring.around vars (sym h.each) ∙ ap (λ k. get_or numbers k 0) (first_place at.place first) ∙ at.is;
        }
      ] where
        first_place : (k : ℕ) → k ≤ 0 → 0 ≡ k
        first_place k none = omega (arith, none)

  pub HasEach-next : HasEach vars next
  HasEach-next = record {
    each = next_each;
    fits = λ k within. (follows k (omega (arith, within, next_each))).fits;
    once = λ i k i_in k_in equal.
        let at_i = (follows i (omega (arith, i_in, next_each))).is in
        let at_k = (follows k (omega (arith, k_in, next_each))).is in
        previous_alone f vars distinct (get_or next k 0) i k (subst (λ w. IsPrevious f vars w i) equal at_i) at_k;
    there = λ v v_in.
        let from = led v v_in in
        Contains-at next from.from v (omega (arith, from.fits, next_each)) from.is;
  }

  pub AreLinks-sorted : (previous : List ℕ) → length previous ≡ vars + 1 → ((v : ℕ) → v < length next → get_or previous (get_or next v 0) 0 ≡ v) → AreLinks f vars previous next
  AreLinks-sorted previous previous_each back = record {
    previous_each = previous_each;
    next_each = next_each;
    next_fits = λ v v_in. (follows v v_in).fits;
    before = λ v v_in.
        let from = led v v_in in
        let u = from.from in
        let its : get_or previous v 0 ≡ u = ap (λ w. get_or previous w 0) (sym from.is) ∙ back u (omega (arith, from.fits, next_each)) in
        subst (λ w. IsPrevious f vars v w) (sym its) (subst (λ w. IsPrevious f vars w u) from.is (follows u from.fits).is);
    after = λ v v_in. (follows v v_in).is;
  }
