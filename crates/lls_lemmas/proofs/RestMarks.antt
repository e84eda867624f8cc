-- Marks of the ids that a log's last addition rests on, as a pass from the last step back sets them.
use Rattle.std.proofs.Common.{◌≡◌, ℕ, zero, suc, ◌+◌, ◌<◌, ◌≤◌, Bool, true, false, ◌||◌, ◌&&◌, ◌≢◌, cond, List, [], ◌∷◌, ◌++◌, length, take, Some, refl, sym, ap, subst, ◌∙◌, inl, inr, arith}
use Rattle.std.specs.Prelude.{ℤ, ◌⊎◌, ◌==◌, ◌↔◌, nat_lt, filter, slice_get, slice_index_or, slice_set}
use Rattle.std.specs.List.{list_all}
use Rattle.std.specs.Cmp.Derive.{both_true}
use Rattle.std.proofs.lemmas.Bool.{and_parts}
use Rattle.std.proofs.lemmas.Bool.Decides.{Decides-eqb, nat_tests}
use Rattle.std.proofs.lemmas.List.{get_or-set_other, get_or-set_same, take_more}
use Rattle.std.proofs.lemmas.List.Folds.{list_any-append}
use Rattle.std.proofs.lemmas.Option.{get_or_from_slice_get, same_Some, slice_get_within}
use Rattle.lls_lit.specs.Literal.{variable_of}
use Rattle.lls_lit.specs.Formula.{Clause}
use Rattle.lls_prooflog.specs.declared.step.Step.{Step}
use Rattle.lls_prooflog.specs.declared.step.Step.TheVariants.{Add, Del}
use Rattle.lls_lemmas.specs.Lemmas.{AreRising}
use Rattle.lls_lemmas.specs.Rest.{names, rests, IsLast, IsNeeded}
use Rattle.lls_lemmas.specs.Rest.IsNeeded.{last, named}

-- an id that hints name comes before the one that they are for
pub named_before : (hints : List ℤ) (id other : ℕ) → names hints id other ≡ true → other < id
named_before [] id other is = absurd cc
named_before (h ∷ hs) id other is = by (variable_of h == other) (nat_lt other id) refl is (λ there. named_before hs id other there) where
  by : (a b : Bool) → nat_lt other id ≡ b → ((a && b) || names hs id other) ≡ true → (names hs id other ≡ true → other < id) → other < id
  by true true below there rest = grind (arith, nat_tests)
  by true false below there rest = rest there
  by false b below there rest = rest there

-- the ids of a log that rises are above the first
pub rising_above : (n : ℕ) (steps : List Step) (j id : ℕ) (lits : Clause) (hints : List ℤ) → AreRising n steps → slice_get steps j ≡ Some (Add id lits hints) → n < id
rising_above n [] j id lits hints rising at = absurd cc
rising_above n (Add id' lits' hints' ∷ steps) zero id lits hints rising at = let same : id' ≡ id = cc in omega (arith, rising.0, same)
rising_above n (Add id' lits' hints' ∷ steps) (suc j) id lits hints rising at = omega (arith, rising.0, rising_above id' steps j id lits hints rising.1 at)
rising_above n (Del ids ∷ steps) zero id lits hints rising at = absurd cc
rising_above n (Del ids ∷ steps) (suc j) id lits hints rising at = rising_above n steps j id lits hints rising at

-- ids that rise from a number on do so from a lesser one
pub rising_from : (m n : ℕ) (steps : List Step) → m ≤ n → AreRising n steps → AreRising m steps
rising_from m n [] le rising = tt
rising_from m n (Add id lits hints ∷ steps) le rising = (omega (arith, le, rising.0), rising.1)
rising_from m n (Del ids ∷ steps) le rising = rising_from m n steps le rising

-- of two additions the later one has the greater id
rising_places : (n : ℕ) (steps : List Step) (i j a b : ℕ) (lits lits' : Clause) (hints hints' : List ℤ) → AreRising n steps → i < j → slice_get steps i ≡ Some (Add a lits hints) → slice_get steps j ≡ Some (Add b lits' hints') → a < b
rising_places n [] i j a b lits lits' hints hints' rising lt at at' = absurd cc
rising_places n (s ∷ steps) i zero a b lits lits' hints hints' rising lt at at' = absurd (omega (arith, lt))
rising_places n (Add id ls hs ∷ steps) zero (suc j) a b lits lits' hints hints' rising lt at at' = let same : id ≡ a = cc in omega (arith, rising_above id steps j b lits' hints' rising.1 at', same)
rising_places n (Del ids ∷ steps) zero (suc j) a b lits lits' hints hints' rising lt at at' = absurd cc
rising_places n (Add id ls hs ∷ steps) (suc i) (suc j) a b lits lits' hints hints' rising lt at at' = rising_places id steps i j a b lits lits' hints hints' rising.1 (omega (arith, lt)) at at'
rising_places n (Del ids ∷ steps) (suc i) (suc j) a b lits lits' hints hints' rising lt at at' = rising_places n steps i j a b lits lits' hints hints' rising (omega (arith, lt)) at at'

-- a pass that looked at the steps from a place on
pub record IsMarking (steps : List Step) (marks : List Bool) (place : ℕ) : Type 0 where
  pub within : place ≤ length steps
  pub needed : (id : ℕ) → slice_index_or marks id false ≡ true → IsNeeded steps id
  pub ended : (id : ℕ) → IsLast steps id → slice_index_or marks id false ≡ true
  pub closed : (j id other : ℕ) (lits : Clause) (hints : List ℤ) → place ≤ j → slice_get steps j ≡ Some (Add id lits hints) → slice_index_or marks id false ≡ true → names hints id other ≡ true → slice_index_or marks other false ≡ true

pub marking_starts : (steps : List Step) (marks : List Bool) (k : ℕ) → k ≡ length steps → ((id : ℕ) → (slice_index_or marks id false ≡ true) ↔ IsLast steps id) → IsMarking steps marks k
marking_starts steps marks k end marked = record {
  within = omega (arith, end);
  needed = λ id is. last id ((marked id).0 is);
  ended = λ id is. (marked id).1 is;
  closed = λ j id other lits hints le at is there. absurd (omega (arith, le, end, slice_get_within steps j (Add id lits hints) at));
}

either_of : (a b : Bool) → (a || b) ≡ true → (a ≡ true) ⊎ (b ≡ true)
either_of true b is = inl refl
either_of false b is = inr is

pub or_right : (a : Bool) {b : Bool} → b ≡ true → (a || b) ≡ true
or_right true is = refl
or_right false is = is

-- what a step rests on: it is a marked addition, which names it
record RestsOn (marks : List Bool) (step : Step) (other : ℕ) : Type 0 where
  id : ℕ
  lits : Clause
  hints : List ℤ
  is : step ≡ Add id lits hints
  marked : slice_index_or marks id false ≡ true
  there : names hints id other ≡ true

rests_on : (marks : List Bool) (step : Step) (other : ℕ) → rests marks step other ≡ true → RestsOn marks step other
rests_on marks (Add id lits hints) other is = let parts = and_parts (slice_index_or marks id false) (names hints id other) is in record { id = id; lits = lits; hints = hints; is = refl; marked = parts.0; there = parts.1 }
rests_on marks (Del ids) other is = absurd cc

-- the step before the place was looked at
module _ (n : ℕ) (steps : List Step) (marks marks' : List Bool) (place : ℕ) (step : Step) (rising : AreRising n steps) (m : IsMarking steps marks (place + 1)) (at : slice_get steps place ≡ Some step)
    (more : (id : ℕ) → slice_index_or marks' id false ≡ (slice_index_or marks id false || rests marks step id)) where
  stays : (id : ℕ) → slice_index_or marks id false ≡ true → slice_index_or marks' id false ≡ true
  stays id is = more id ∙ ap (λ b. b || rests marks step id) is

  -- an addition from the place on was marked before
  before : (j id : ℕ) (lits : Clause) (hints : List ℤ) → place ≤ j → slice_get steps j ≡ Some (Add id lits hints) → slice_index_or marks' id false ≡ true → slice_index_or marks id false ≡ true
  before j id lits hints le there is = elim (either_of (slice_index_or marks id false) (rests marks step id) (sym (more id) ∙ is)) [
    | inl old ↦ old
    | inr new ↦
        let r = rests_on marks step id new in
        let lt = named_before r.hints r.id id r.there in
        elim (place == j) as (λ b. (place == j) ≡ b → slice_index_or marks id false ≡ true) [
          | true ↦ λ same.
              let equal : step ≡ Add id lits hints = same_Some step (Add id lits hints) (sym at ∙ ap (slice_get steps) ((Decides-eqb place j).0 same) ∙ there) in
              let ids : r.id ≡ id = (let both : Add r.id r.lits r.hints ≡ Add id lits hints = sym r.is ∙ equal in cc) in
              absurd (omega (arith, lt, ids))
          | false ↦ λ other.
              let apart : place ≡ j → ⊥ = λ same. (let clash : false ≡ true = sym other ∙ (Decides-eqb place j).1 same in absurd cc) in
              let greater = rising_places n steps place j r.id id r.lits lits r.hints hints rising (omega (arith, le, apart)) (at ∙ ap (λ (s : Step). Some s) r.is) there in
              absurd (omega (arith, lt, greater))
        ] refl
  ]

  pub marking_goes_on : IsMarking steps marks' place
  marking_goes_on = record {
    within = omega (arith, m.within);
    needed = λ id is. elim (either_of (slice_index_or marks id false) (rests marks step id) (sym (more id) ∙ is)) [
      | inl old ↦ m.needed id old
      | inr new ↦ (let r = rests_on marks step id new in named r.id id (m.needed r.id r.marked) (record { place = place; lits = r.lits; hints = r.hints; step = at ∙ ap (λ (s : Step). Some s) r.is; named = r.there }))
    ];
    ended = λ id is. stays id (m.ended id is);
    closed = λ j id other lits hints le there is among.
        let was = before j id lits hints le there is in
        elim (place == j) as (λ b. (place == j) ≡ b → slice_index_or marks' other false ≡ true) [
          | true ↦ λ same.
              let equal : step ≡ Add id lits hints = same_Some step (Add id lits hints) (sym at ∙ ap (slice_get steps) ((Decides-eqb place j).0 same) ∙ there) in
              let here : rests marks step other ≡ true = ap (λ (s : Step). rests marks s other) equal ∙ ap (λ b. b && names hints id other) was ∙ among in
              more other ∙ or_right (slice_index_or marks other false) here
          | false ↦ λ differs.
              let apart : place ≡ j → ⊥ = λ same. (let clash : false ≡ true = sym differs ∙ (Decides-eqb place j).1 same in absurd cc) in
              stays other (m.closed j id other lits hints (omega (arith, le, apart)) there was among)
        ] refl;
  }

-- a pass over all steps marks just the needed ids
module _ (steps : List Step) (marks : List Bool) (m : IsMarking steps marks 0) where
  complete : (id : ℕ) → IsNeeded steps id → slice_index_or marks id false ≡ true
  complete id (last _ is) = m.ended id is
  complete id (named by _ needed there) = m.closed there.place by id there.lits there.hints (omega arith) there.step (complete by needed) there.named

  pub marking_ends : (id : ℕ) → (slice_index_or marks id false ≡ true) ↔ IsNeeded steps id
  marking_ends id = (m.needed id, complete id)

-- one more of the first elements of a list
pub take_one : {X : Type 0} (xs : List X) (k : ℕ) (x : X) → slice_get xs k ≡ Some x → take (k + 1) xs ≡ take k xs ++ x ∷ []
take_one xs k x at = take_more xs k x (slice_get_within xs k x at) ∙ ap (λ (y : _). take k xs ++ y ∷ []) (get_or_from_slice_get xs k x x at)

-- what one more hint names
module _ (hints : List ℤ) (k id : ℕ) (hint : ℤ) (at : slice_get hints k ≡ Some hint) where
  names_more : (i : ℕ) → names (take (k + 1) hints) id i ≡ (names (take k hints) id i || ((variable_of hint == i && nat_lt i id) || false))
  names_more i = ap (λ (hs : List ℤ). names hs id i) (take_one hints k hint at) ∙ list_any-append (λ h. variable_of h == i && nat_lt i id) (take k hints) (hint ∷ [])

  passed : (a b : Bool) → b ≡ false → (a || (b || false)) ≡ a
  passed true b is = refl
  passed false b is = ap (λ x. x || false) is

  module _ (start marks marks' : List Bool) (was : (i : ℕ) → slice_index_or marks i false ≡ (slice_index_or start i false || names (take k hints) id i)) where
    -- it comes before the id, and is marked
    pub marks_one : variable_of hint < id → id < length marks → marks' ≡ slice_set marks (variable_of hint) true → (i : ℕ) → slice_index_or marks' i false ≡ (slice_index_or start i false || names (take (k + 1) hints) id i)
    marks_one lt within is i = ap (λ (ms : List Bool). slice_index_or ms i false) is ∙ by (variable_of hint == i) refl ∙ sym (ap (λ b. slice_index_or start i false || b) (names_more i)) where
      by : (b : Bool) → (variable_of hint == i) ≡ b → slice_index_or (slice_set marks (variable_of hint) true) i false ≡ (slice_index_or start i false || (names (take k hints) id i || ((variable_of hint == i && nat_lt i id) || false)))
      by true same =
          let equal = (Decides-eqb (variable_of hint) i).0 same in
          let below : nat_lt i id ≡ true = grind (arith, nat_tests, lt, equal) in
          let here : ((variable_of hint == i && nat_lt i id) || false) ≡ true = ap (λ b. (b && nat_lt i id) || false) same ∙ ap (λ b. b || false) below in
          let P : ℕ → Type 0 = λ n. slice_index_or (slice_set marks (variable_of hint) true) n false ≡ true in
          subst P equal (get_or-set_same marks (variable_of hint) true false (omega (arith, lt, within)))
          ∙ sym (or_right (slice_index_or start i false) (or_right (names (take k hints) id i) here))
      by false other =
          let apart : i ≢ variable_of hint = λ equal. (let clash : false ≡ true = sym other ∙ (Decides-eqb (variable_of hint) i).1 (sym equal) in absurd cc) in
          get_or-set_other marks (variable_of hint) i true false apart ∙ was i
          ∙ ap (λ b. slice_index_or start i false || b) (sym (passed (names (take k hints) id i) (variable_of hint == i && nat_lt i id) (ap (λ b. b && nat_lt i id) other)))

    -- or it doesn't, and is passed over
    pub marks_none : (variable_of hint < id → ⊥) → marks' ≡ marks → (i : ℕ) → slice_index_or marks' i false ≡ (slice_index_or start i false || names (take (k + 1) hints) id i)
    marks_none ge is i =
        ap (λ (ms : List Bool). slice_index_or ms i false) is ∙ was i
        ∙ ap (λ b. slice_index_or start i false || b) (sym (names_more i ∙ passed (names (take k hints) id i) (variable_of hint == i && nat_lt i id) (by (variable_of hint == i) refl)))
      where
        by : (b : Bool) → (variable_of hint == i) ≡ b → (b && nat_lt i id) ≡ false
        by true same = let equal = (Decides-eqb (variable_of hint) i).0 same in let beyond : nat_lt i id ≡ false = grind (arith, nat_tests, ge, equal) in beyond
        by false other = refl

-- what passes a test does so where some are left out
pub filter_all : (p q : ℕ → Bool) (xs : List ℕ) → list_all p xs ≡ true → list_all p (filter q xs) ≡ true
filter_all p q [] all = refl
filter_all p q (x ∷ xs) all =
    let parts = and_parts (p x) (list_all p xs) all in
    elim (q x) as (λ b. list_all p (cond b (x ∷ filter q xs) (filter q xs)) ≡ true) [ true ↦ both_true parts.0 (filter_all p q xs parts.1) | false ↦ filter_all p q xs parts.1 ]
