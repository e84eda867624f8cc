-- Where the literal of a variable stands in a trail.
use Rattle.std.proofs.Common.{◌≡◌, ◌<◌, ℕ, ℤ, Bool, true, false, ◌||◌, cond, List, [], ◌∷◌, length, Some, None, refl, sym, ap, ◌∙◌, subst, arith, eqb, inl, inr}
use Rattle.std.specs.Prelude.{◌≢◌, ◌==◌, nat_lt, slice_get}
use Rattle.std.specs.Option.{IsSome}
use Rattle.std.specs.List.{position_or_len}
use Rattle.std.specs.Ordering.{int_eq}
use Rattle.std.proofs.lemmas.Bool.{eq-eqb}
use Rattle.std.proofs.lemmas.Bool.Decides.{Decides-int_eq, eqb_tells}
use Rattle.std.proofs.lemmas.List.Sums.{fails_before_first}
use Rattle.std.proofs.lemmas.Option.{get_or_from_slice_get}
use Rattle.lls_lit.specs.Literal.{variable_of}
use Rattle.lls_store.specs.Trail.{Entry, Has, entry_of, has, place_of}
use Rattle.lls_store.proofs.Entries.{entry_of-cons_other, entry_of-cons_same}

pub found_by_variable : (es : List Entry) (l : ℤ) → Has es l → IsSome (entry_of es (variable_of l))
found_by_variable [] l there = absurd cc
found_by_variable (x ∷ es) l there =
    elim (eqb_tells (variable_of x.lit) (variable_of l)) [
      | inl t ↦ subst IsSome (sym (entry_of-cons_same x es (variable_of l) t.1)) refl
      | inr t ↦ subst IsSome (sym (entry_of-cons_other x es (variable_of l) t.1)) (found_by_variable es l (behind (int_eq x.lit l) refl t.1 there))
    ]
  where
    behind : (b : Bool) → int_eq x.lit l ≡ b → variable_of x.lit ≢ variable_of l → (b || has es l) ≡ true → has es l ≡ true
    behind true is differ _ = absurd (differ (ap variable_of ((Decides-int_eq x.lit l).0 is)))
    behind false _ _ rest = rest

-- before it the variable has none
pub none_before : (es : List Entry) (v p k : ℕ) (e : Entry) → place_of es v ≡ Some p → k < p → slice_get es k ≡ Some e → variable_of e.lit ≢ v
none_before es v p k e place before found same =
    let first : position_or_len (λ (x : Entry). variable_of x.lit == v) es ≡ p = by_test (nat_lt (position_or_len (λ (x : Entry). variable_of x.lit == v) es) (length es)) place in
    let fails = fails_before_first (λ (x : Entry). variable_of x.lit == v) es k e (omega (arith, before, first)) in
    let yes : eqb (variable_of e.lit) v ≡ true = eq-eqb (variable_of e.lit) v same in
    let both : true ≡ false = sym yes ∙ ap (λ (x : Entry). eqb (variable_of x.lit) v) (sym (get_or_from_slice_get es k e e found)) ∙ fails in
    absurd cc
  where
    by_test : (b : Bool) → cond b (Some (position_or_len (λ (x : Entry). variable_of x.lit == v) es)) None ≡ Some p → position_or_len (λ (x : Entry). variable_of x.lit == v) es ≡ p
    by_test true is = cc
    by_test false is = absurd cc
