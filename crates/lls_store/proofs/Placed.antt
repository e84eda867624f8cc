-- Where the literals of a trail stand, kept in a table by variable.
use Rattle.std.proofs.Common.{◌≡◌, ◌≢◌, ℕ, zero, suc, ◌+◌, ◌-◌, ◌<◌, ◌≤◌, true, cond, List, [], ◌∷◌, ◌++◌, length, get_or, set, Some, None, sym, ap, ◌∙◌, inl, inr, arith}
use Rattle.std.specs.Prelude.{ℤ, pos, Option, IsSome, ◌⊎◌, slice_get, nat_lt, ◌==◌}
use Rattle.std.specs.List.{position_or_len}
use Rattle.std.proofs.lemmas.List.{length-set, length_push, length-map, get_or-set_other, get_or-map}
use Rattle.std.proofs.lemmas.List.Folds.{find_at}
use Rattle.std.proofs.lemmas.Option.{slice_get_within, slice_get_cases, get_or_from_slice_get}
use Rattle.std.proofs.lemmas.Grind.{get_or-set_at, common_steps}
use Rattle.std.proofs.lemmas.Bool.{and_parts}
use Rattle.std.proofs.lemmas.Bool.Decides.{nat_tests, eqb_tells}
use Rattle.lls_lit.specs.Literal.{variable_of}
use Rattle.lls_lit.specs.Formula.{is_literal_of, is_within}
use Rattle.lls_store.specs.Trail.{Entry, entry_of, place_of}
use Rattle.lls_store.specs.Tables.{entry_in, entries_in, ArePlaced}
use Rattle.lls_store.proofs.Entries.{entry_of-none, variable-entry_of}
use Rattle.lls_store.proofs.Tabled.{variable_bounds}
use Rattle.lls_store.proofs.Found.{present}

-- a variable without an entry has no literal
absent : (levels : List ℕ) (reasons : List (Option ℕ)) (lits : List ℤ) (v k : ℕ) → entry_of (entries_in levels reasons lits) v ≡ None → k < length lits → variable_of (get_or lits k (pos 0)) ≢ v
absent levels reasons [] v k none lt = absurd (omega (arith, lt))
absent levels reasons (l ∷ ls) v zero none lt = (entry_of-none (entry_in levels reasons l) (entries_in levels reasons ls) v none).0
absent levels reasons (l ∷ ls) v (suc k) none lt = absent levels reasons ls v k (entry_of-none (entry_in levels reasons l) (entries_in levels reasons ls) v none).1 (omega (arith, lt))

variable_at : (vars : ℕ) (lits : List ℤ) (k : ℕ) → is_within vars lits ≡ true → k < length lits → 1 ≤ variable_of (get_or lits k (pos 0))
variable_at vars [] k within lt = absurd (omega (arith, lt))
variable_at vars (l ∷ ls) zero within lt = (variable_bounds vars (variable_of l) (and_parts (is_literal_of vars l) (is_within vars ls) within).0).0
variable_at vars (l ∷ ls) (suc k) within lt = variable_at vars ls k (and_parts (is_literal_of vars l) (is_within vars ls) within).1 (omega (arith, lt))

read_front : (lits : List ℤ) (l : ℤ) (k : ℕ) → k < length lits → get_or (lits ++ l ∷ []) k (pos 0) ≡ get_or lits k (pos 0)
read_front lits l k lt = grind (arith, common_steps)

read_last : (lits : List ℤ) (l : ℤ) (k : ℕ) → k ≡ length lits → get_or (lits ++ l ∷ []) k (pos 0) ≡ l
read_last lits l k same = grind (arith, common_steps)

lt_or_eq : (k n : ℕ) → k < n + 1 → (k < n) ⊎ (k ≡ n)
lt_or_eq k n lt = elim (eqb_tells k n) [ inl t ↦ inr t.1 | inr t ↦ inl (omega (arith, lt, t.1)) ]

-- a literal more
pub ArePlaced-push : (vars i : ℕ) (levels : List ℕ) (reasons : List (Option ℕ)) (lits : List ℤ) (places : List ℕ) (l : ℤ)
    → ArePlaced vars lits places → is_within vars lits ≡ true → i + 1 ≡ variable_of l → variable_of l ≤ vars → entry_of (entries_in levels reasons lits) (variable_of l) ≡ None
    → ArePlaced vars (lits ++ l ∷ []) (set places i (length lits))
ArePlaced-push vars i levels reasons lits places l h within at most none =
    record {
      place_each = length-set places i (length lits) ∙ h.place_each;
      are_places = λ k below. by_place k (lt_or_eq k (length lits) (omega (arith, below, length_push lits l)));
    } where
      inside : i < length places
      inside = omega (arith, h.place_each, at, most)

      by_place : (k : ℕ) → (k < length lits) ⊎ (k ≡ length lits) → get_or (set places i (length lits)) (variable_of (get_or (lits ++ l ∷ []) k (pos 0)) - 1) 0 ≡ k
      by_place k (inl lt) =
          let low = variable_at vars lits k within lt in
          let other = absent levels reasons lits (variable_of l) k none lt in
          rw (read_front lits l k lt) (get_or-set_other places i (variable_of (get_or lits k (pos 0)) - 1) (length lits) 0 (λ same. other (omega (arith, same, at, low))) ∙ h.are_places k lt)
      by_place k (inr same) =
          rw (read_last lits l k same) (get_or-set_at places i (variable_of l - 1) (length lits) 0 (omega (arith, at)) inside ∙ sym same)

-- a literal less
pub ArePlaced-popped : (vars : ℕ) (lits : List ℤ) (places : List ℕ) (l : ℤ) → ArePlaced vars (lits ++ l ∷ []) places → ArePlaced vars lits places
ArePlaced-popped vars lits places l h = record {
  place_each = h.place_each;
  are_places = λ k below. ap (λ (m : ℤ). get_or places (variable_of m - 1) 0) (sym (read_front lits l k below)) ∙ h.are_places k (omega (arith, below, length_push lits l));
}

position_is : (n k : ℕ) → n < k → cond (nat_lt n k) (Some n) None ≡ Some n
position_is n k lt = grind (arith, nat_tests)

no_position : (n k : ℕ) → k ≤ n → cond (nat_lt n k) (Some n) None ≡ None
no_position n k le = grind (arith, nat_tests)

-- where a variable has an entry, its place is that of the table
pub place_of-some : (vars i v : ℕ) (levels : List ℕ) (reasons : List (Option ℕ)) (lits : List ℤ) (places : List ℕ)
    → ArePlaced vars lits places → i + 1 ≡ v → IsSome (entry_of (entries_in levels reasons lits) v)
    → place_of (entries_in levels reasons lits) v ≡ Some (get_or places i 0)
place_of-some vars i v levels reasons lits places placed at some =
    let es = entries_in levels reasons lits in
    let found = present (entry_of es v) some in
    let k = position_or_len (λ (e : Entry). variable_of e.lit == v) es in
    let here : slice_get es k ≡ Some found.0 = sym (find_at (λ (e : Entry). variable_of e.lit == v) es) ∙ found.1 in
    let lt : k < length es = slice_get_within es k found.0 here in
    let lt' : k < length lits = omega (arith, lt, length-map lits (entry_in levels reasons)) in
    let entry : entry_in levels reasons (get_or lits k (pos 0)) ≡ found.0 = sym (get_or-map (entry_in levels reasons) lits k (pos 0) (entry_in levels reasons (pos 0)) lt') ∙ get_or_from_slice_get es k found.0 (entry_in levels reasons (pos 0)) here in
    let of_variable : variable_of (get_or lits k (pos 0)) ≡ v = ap (λ (e : Entry). variable_of e.lit) entry ∙ variable-entry_of es v found.0 found.1 in
    let place : get_or places i 0 ≡ k = ap (λ n. get_or places n 0) (omega (arith, at, of_variable)) ∙ placed.are_places k lt' in
    position_is k (length es) lt ∙ ap Some (sym place)

-- where it has none, it has no place
pub no_place : (es : List Entry) (v : ℕ) → entry_of es v ≡ None → place_of es v ≡ None
no_place es v none =
    let k = position_or_len (λ (e : Entry). variable_of e.lit == v) es in
    let here : slice_get es k ≡ None = sym (find_at (λ (e : Entry). variable_of e.lit == v) es) ∙ none in
    elim ((slice_get_cases es k).1) [
      | inl t ↦ absurd (unlike t.0 (sym here ∙ t.2))
      | inr t ↦ no_position k (length es) t.0
    ] where
      unlike : (e : Entry) → None ≡ Some e → ⊥
      unlike e clash = cc
