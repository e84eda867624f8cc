-- Literals that are marked and listed.
use Rattle.std.proofs.Common.{◌≡◌, ℕ, ◌+◌, ◌<◌, Bool, true, false, List, [], ◌∷◌, ◌++◌, length, take, get_or, refl, sym, ap, subst, ◌∙◌, inl, inr}
use Rattle.std.specs.Prelude.{ℤ, ◌⊎◌, ◌||◌, Contains}
use Rattle.std.specs.List.{list_all}
use Rattle.std.specs.Ordering.{int_cmp, int_eq, eq_by_cmp}
use Rattle.std.specs.FinSet as set
use Rattle.std.specs.Cmp.Derive.{both_true}
use Rattle.std.proofs.lemmas.Cmp.{int_cmp_total, int_eq_equiv}
use Rattle.std.proofs.lemmas.Bool.Decides.{Decides-int_eq}
use Rattle.std.proofs.lemmas.List.{take_more}
use Rattle.std.proofs.lemmas.List.Folds.{list_all-append, list_any-append}
use Rattle.std.proofs.lemmas.List.Elements.{Contains-push, Contains-push_cases, Contains-append_left, All-contains}
use Rattle.std.proofs.lemmas.List.Sums.{AllPass-from_list_all}
use Rattle.std.proofs.lemmas.Map.Views.{Contains-from_any, list_any-from_Contains}
use Rattle.lls_lit.specs.Formula.{is_literal_of}
use Rattle.lls_prooflog.specs.UnitWalk.{is_among}
use Rattle.lls_store.specs.Clauses.{Literals, IsIn}
use Rattle.lls_lemmas.specs.Closing.{AreListed}

pub among-from_Contains : (ls : List ℤ) (l : ℤ) → Contains ls l → is_among ls l ≡ true
among-from_Contains ls l inside = list_any-from_Contains int_eq_equiv l ls inside

pub Contains-from_among : (ls : List ℤ) (l : ℤ) → is_among ls l ≡ true → Contains ls l
Contains-from_among ls l among = Contains-from_any {eq = int_eq} (λ x y same. (Decides-int_eq x y).0 same) l ls among

-- what is among a list is among a longer one
pub among_more : (ls : List ℤ) (x l : ℤ) → is_among ls l ≡ true → is_among (ls ++ x ∷ []) l ≡ true
among_more ls x l among = list_any-append (int_eq l) ls (x ∷ []) ∙ ap (λ b. b || is_among (x ∷ []) l) among

pub among_last : (ls : List ℤ) (x l : ℤ) → l ≡ x → is_among (ls ++ x ∷ []) l ≡ true
among_last ls x l same = among-from_Contains (ls ++ x ∷ []) l (let P : ℤ → Type 0 = λ y. Contains (ls ++ x ∷ []) y in subst P (sym same) (Contains-push ls x))

-- each of a list of that passes, one by one
pub all_pass : (p : ℤ → Bool) (ls : List ℤ) (l : ℤ) → list_all p ls ≡ true → Contains ls l → p l ≡ true
all_pass p ls l all inside = All-contains (λ m. p m ≡ true) ls l (AllPass-from_list_all p ls all) inside

-- one more is marked, and listed
pub inserted : (marked : Literals) (x l : ℤ) → IsIn (set.insert marked x) l → (l ≡ x) ⊎ IsIn marked l
inserted marked x l inside =
    elim (eq_by_cmp int_cmp l x) as (λ b. eq_by_cmp int_cmp l x ≡ b → (b || set.contains marked l) ≡ true → (l ≡ x) ⊎ IsIn marked l) [
      | true ↦ λ same _. inl ((Decides-int_eq l x).0 same)
      | false ↦ λ _ h. inr h
    ] refl (sym (set.contains-insert int_cmp_total marked x l) ∙ inside)

pub insert_keeps : (marked : Literals) (x l : ℤ) → IsIn marked l → IsIn (set.insert marked x) l
insert_keeps marked x l inside = set.contains-insert int_cmp_total marked x l ∙ either (eq_by_cmp int_cmp l x) inside where
  either : (a : Bool) {b : Bool} → b ≡ true → (a || b) ≡ true
  either true is = refl
  either false is = is

pub insert_has : (marked : Literals) (x : ℤ) → IsIn (set.insert marked x) x
insert_has marked x = set.contains-insert int_cmp_total marked x x ∙ ap (λ b. b || set.contains marked x) ((Decides-int_eq x x).1 refl)

pub listed-push : (vars : ℕ) (marked : Literals) (met : List ℤ) (x : ℤ) → AreListed vars marked met → is_literal_of vars x ≡ true → AreListed vars (set.insert marked x) (met ++ x ∷ [])
listed-push vars marked met x h within = record {
  listed = λ l inside. elim (inserted marked x l inside) [
    | inl same ↦ (let P : ℤ → Type 0 = λ y. Contains (met ++ x ∷ []) y in subst P (sym same) (Contains-push met x))
    | inr old ↦ Contains-append_left met (x ∷ []) l (h.listed l old)
  ];
  within = list_all-append (is_literal_of vars) met (x ∷ []) ∙ both_true h.within (both_true within refl);
}

-- of the first literals of a list, one more
pub Contains-take_more : (xs : List ℤ) (k : ℕ) (x l : ℤ) → k < length xs → x ≡ get_or xs k x → Contains (take (k + 1) xs) l → Contains (take k xs) l ⊎ (x ≡ l)
Contains-take_more xs k x l lt is inside =
    let P : List ℤ → Type 0 = λ ys. Contains ys l in
    Contains-push_cases (take k xs) x l (subst P (take_more xs k x lt ∙ ap (λ y. take k xs ++ y ∷ []) (sym is)) inside)

-- where one more is marked, it is among the first of the list
pub first_more : (lits : List ℤ) (k : ℕ) (x l : ℤ) (marked : Literals) → k < length lits → x ≡ get_or lits k x → ((m : ℤ) → IsIn marked m → Contains (take k lits) m) → IsIn (set.insert marked x) l → Contains (take (k + 1) lits) l
first_more lits k x l marked lt is of inside =
    let P : List ℤ → Type 0 = λ ys. Contains ys l in
    subst P (sym (take_more lits k x lt ∙ ap (λ y. take k lits ++ y ∷ []) (sym is))) (elim (inserted marked x l inside) [
      | inl same ↦ (let Q : ℤ → Type 0 = λ m. Contains (take k lits ++ x ∷ []) m in subst Q (sym same) (Contains-push (take k lits) x))
      | inr old ↦ Contains-append_left (take k lits) (x ∷ []) l (of l old)
    ])

-- and each of the first of the list is marked
pub marked_more : (lits : List ℤ) (k : ℕ) (x l : ℤ) (marked : Literals) → k < length lits → x ≡ get_or lits k x → ((m : ℤ) → Contains (take k lits) m → IsIn marked m) → Contains (take (k + 1) lits) l → IsIn (set.insert marked x) l
marked_more lits k x l marked lt is all inside = elim (Contains-take_more lits k x l lt is inside) [
  | inl old ↦ insert_keeps marked x l (all l old)
  | inr same ↦ (let P : ℤ → Type 0 = λ m. IsIn (set.insert marked x) m in subst P same (insert_has marked x))
]
