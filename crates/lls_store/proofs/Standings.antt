-- The literals of a clause, read one after another: which one is left.
use Rattle.std.proofs.Common.{◌≡◌, ◌≢◌, inl, inr, ℕ, ◌+◌, ◌<◌, List, [], ◌∷◌, ◌++◌, length, get_or, take, Bool, true, false, not, Option, Some, None, refl, sym, ap, subst, ◌∙◌, arith}
use Rattle.std.specs.Prelude.{ℤ, Contains}
use Rattle.std.specs.FinSet as set
use Rattle.std.specs.Ordering.{int_eq}
use Rattle.std.proofs.lemmas.Bool.Decides.{Decides-int_eq}
use Rattle.std.proofs.lemmas.List.{get_or-take, length-take, take_more}
use Rattle.std.proofs.lemmas.List.Elements.{Contains-push, Contains-push_cases}
use Rattle.std.proofs.lemmas.Grind.{common_steps}
use Rattle.lls_store.specs.Trail.{Entry, Has, HasNegated, IsUnset}
use Rattle.lls_store.specs.Closed.{IsSettled}
use Rattle.lls_store.specs.Closed.IsSettled.{satisfied, two_left}
use Rattle.lls_store.specs.Standing.{IsLeft}
use Rattle.lls_store.proofs.Sets.{Contains-from_IsIn, IsIn-from_Contains}

-- this one alone of the literals isn't false, and it has no value
pub record IsAlone (entries : List Entry) (seen : List ℤ) (l : ℤ) : Type 0 where
  pub unset : IsUnset entries l
  pub contains : Contains seen l
  pub others_false : (m : ℤ) → Contains seen m → m ≢ l → HasNegated entries m

-- what is left of the literals so far
abbrev pub Leaves : List Entry → List ℤ → Option ℤ → Type 0
Leaves entries seen None = (m : ℤ) → Contains seen m → HasNegated entries m
Leaves entries seen (Some l) = IsAlone entries seen l

pub apart_by_test : (l m : ℤ) (differ : Bool) → differ ≡ true → differ ≡ not (int_eq l m) → l ≢ m
apart_by_test l m differ is_true is same =
    let equal : int_eq l m ≡ true = (Decides-int_eq l m).1 same in
    absurd cc

pub same_by_test : (l m : ℤ) (differ : Bool) → differ ≡ false → differ ≡ not (int_eq l m) → l ≡ m
same_by_test l m differ is_false is = by_case (int_eq l m) refl (sym is ∙ is_false) where
  by_case : (b : Bool) → int_eq l m ≡ b → not b ≡ false → l ≡ m
  by_case true equal h = (Decides-int_eq l m).0 equal
  by_case false other h = absurd cc

pub Leaves-empty : (entries : List Entry) → Leaves entries [] None
Leaves-empty entries m contains = absurd (omega (arith, contains.1))

Contains-later : (seen : List ℤ) (x l : ℤ) → Contains seen l → Contains (seen ++ x ∷ []) l
Contains-later seen x l contains = grind (arith, common_steps)

false_more : (entries : List Entry) (seen : List ℤ) (x m : ℤ) (P : ℤ → Type 0) → ((m : ℤ) → Contains seen m → P m → HasNegated entries m) → (P x → HasNegated entries x) → Contains (seen ++ x ∷ []) m → P m → HasNegated entries m
false_more entries seen x m P old new contains p =
    elim (Contains-push_cases seen x m contains) [
      | inl before ↦ old m before p
      | inr same ↦ subst (λ (y : ℤ). P y → HasNegated entries y) same new p
    ]

pub Leaves-false : (entries : List Entry) (seen : List ℤ) (left : Option ℤ) (x : ℤ) → Leaves entries seen left → HasNegated entries x → Leaves entries (seen ++ x ∷ []) left
Leaves-false entries seen None x leaves is_false = λ m contains. false_more entries seen x m (λ _. Unit {0}) (λ k inside _. leaves k inside) (λ _. is_false) contains tt
Leaves-false entries seen (Some l) x leaves is_false = record {
  unset = leaves.unset;
  contains = Contains-later seen x l leaves.contains;
  others_false = λ m contains other. false_more entries seen x m (λ k. k ≢ l) leaves.others_false (λ _. is_false) contains other;
}

pub Leaves-first : (entries : List Entry) (seen : List ℤ) (x : ℤ) → Leaves entries seen None → IsUnset entries x → Leaves entries (seen ++ x ∷ []) (Some x)
Leaves-first entries seen x leaves unset = record {
  unset = unset;
  contains = Contains-push seen x;
  others_false = λ m contains other. false_more entries seen x m (λ k. k ≢ x) (λ k inside _. leaves k inside) (λ differs. absurd (differs refl)) contains other;
}

pub Leaves-again : (entries : List Entry) (seen : List ℤ) (x : ℤ) → Leaves entries seen (Some x) → Leaves entries (seen ++ x ∷ []) (Some x)
Leaves-again entries seen x leaves = record {
  unset = leaves.unset;
  contains = Contains-push seen x;
  others_false = λ m contains other. false_more entries seen x m (λ k. k ≢ x) leaves.others_false (λ differs. absurd (differs refl)) contains other;
}

pub Contains-take : (lits : List ℤ) (n : ℕ) (l : ℤ) → Contains (take n lits) l → Contains lits l
Contains-take lits n l contains =
    let fits : contains.0 < n = omega (arith, contains.1, length-take n lits) in
    (contains.0, omega (arith, contains.1, length-take n lits), sym (get_or-take n lits contains.0 l fits) ∙ contains.2)

pub Contains-read : (lits : List ℤ) (k : ℕ) (l : ℤ) → k < length lits → l ≡ get_or lits k l → Contains lits l
Contains-read lits k l lt read = (k, lt, sym read)

-- the literals so far, with the one that was read
pub take-read : (lits : List ℤ) (k : ℕ) (l : ℤ) → k < length lits → l ≡ get_or lits k l → take (k + 1) lits ≡ take k lits ++ l ∷ []
take-read lits k l lt read = take_more lits k l lt ∙ ap (λ (x : ℤ). take k lits ++ x ∷ []) (sym read)

pub settled_by_true : (entries : List Entry) (lits : List ℤ) (l : ℤ) → Contains lits l → Has entries l → IsSettled entries (set.from_list lits)
settled_by_true entries lits l contains is_true = satisfied l (IsIn-from_Contains lits l contains) is_true

pub settled_by_two : (entries : List Entry) (lits : List ℤ) (l m : ℤ) → Contains lits l → Contains lits m → l ≢ m → IsUnset entries l → IsUnset entries m → IsSettled entries (set.from_list lits)
settled_by_two entries lits l m contains contains' other unset unset' =
    two_left l m (IsIn-from_Contains lits l contains) (IsIn-from_Contains lits m contains') other unset.not_false unset'.not_false

pub left_at_end : (entries : List Entry) (lits : List ℤ) (l : ℤ) → IsAlone entries lits l → IsLeft entries (set.from_list lits) l
left_at_end entries lits l alone = record {
  unset = alone.unset;
  stands = IsIn-from_Contains lits l alone.contains;
  others_false = λ m inside other. alone.others_false m (Contains-from_IsIn lits m inside) other;
}
