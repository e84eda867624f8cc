-- The clause that is being built: literals of different variables, so at most as many as there are variables.
use Rattle.std.proofs.Common.{◌≡◌, ◌≢◌, ℕ, ◌-◌, ◌<◌, ◌≤◌, true, List, [], ◌∷◌, ◌++◌, length, get_or, take, map, refl, sym, ap, subst, ◌∙◌, arith, eq-eqb}
use Rattle.std.specs.Prelude.{ℤ, pos, AllPairs, ◌==◌}
use Rattle.std.specs.List.{list_any}
use Rattle.std.proofs.Math.Dec.{eqb}
use Rattle.std.proofs.lemmas.Bool.Decides.{Decides-eqb}
use Rattle.std.proofs.lemmas.List.{get_or-take, get_or-map, get_or_default, length-map, length-take}
use Rattle.std.proofs.lemmas.List.Folds.{list_all-append, list_any-from_Any}
use Rattle.std.proofs.lemmas.List.Sums.{AllPass-from_list_all, list_all-from_AllPass}
use Rattle.std.proofs.lemmas.List.Quantifiers.{all_pairs_push}
use Rattle.std.proofs.lemmas.Map.Made.{IsDistinct-from_AllPairs}
use Rattle.std.proofs.lemmas.Map.Steps.{length-le_from_distinct_below}
use Rattle.std.proofs.lemmas.Map.Views.{Contains-from_any}
use Rattle.lls_lit.specs.Literal.{variable_of}
use Rattle.lls_lit.specs.Formula.{is_literal_of, is_within}
use Rattle.lls_store.specs.Store.{IsNewVariable}
use Rattle.lls_store.specs.Scan.{IsTail}
use Rattle.lls_store.proofs.Tabled.{variable_bounds}

abbrev Apart : ℤ → ℤ → Type 0
Apart l m = variable_of l ≢ variable_of m

pub IsTail-empty : (vars : ℕ) → IsTail vars []
IsTail-empty vars = record { within = refl; once = λ i j d lt within. absurd (omega arith) }

literal_at : (vars : ℕ) (ls : List ℤ) (k : ℕ) (d : ℤ) → is_within vars ls ≡ true → k < length ls → is_literal_of vars (get_or ls k d) ≡ true
literal_at vars ls k d within lt = AllPass-from_list_all (is_literal_of vars) ls within k d lt

pub IsTail-take : (vars keep : ℕ) (ls : List ℤ) → IsTail vars ls → IsTail vars (take keep ls)
IsTail-take vars keep ls tail = record {
  within = list_all-from_AllPass (is_literal_of vars) (take keep ls) (
      λ k d lt.
      let kept : k < keep = omega (arith, length-take keep ls) in
      let old : k < length ls = omega (arith, length-take keep ls) in
      ap (is_literal_of vars) (get_or-take keep ls k d kept) ∙ literal_at vars ls k d tail.within old
      );
  once = λ i j d lt within.
      let first : i < keep = omega (arith, length-take keep ls) in
      let second : j < keep = omega (arith, length-take keep ls) in
      let old : j < length ls = omega (arith, length-take keep ls) in
      let P : ℤ → Type 0 = λ m. Apart (get_or (take keep ls) i d) m in
      let Q : ℤ → Type 0 = λ l. Apart l (get_or ls j d) in
      subst P (sym (get_or-take keep ls j d second)) (subst Q (sym (get_or-take keep ls i d first)) (tail.once i j d lt old));
}

new_at : (ls : List ℤ) (l : ℤ) (k : ℕ) (d : ℤ) → IsNewVariable ls l → k < length ls → Apart (get_or ls k d) l
new_at ls l k d new lt same =
    let is_there : list_any (λ m. variable_of m == variable_of l) ls ≡ true = list_any-from_Any (λ m. variable_of m == variable_of l) ls (k, get_or ls k d, lt, get_or_default ls k (get_or ls k d) d lt, eq-eqb (variable_of (get_or ls k d)) (variable_of l) same) in
    absurd cc

pub IsTail-push : (vars : ℕ) (ls : List ℤ) (l : ℤ) → IsTail vars ls → is_literal_of vars l ≡ true → IsNewVariable ls l → IsTail vars (ls ++ l ∷ [])
IsTail-push vars ls l tail is new = record {
  within = list_all-append (is_literal_of vars) ls (l ∷ []) ∙ rw (tail.within, is) refl;
  once = all_pairs_push Apart ls l tail.once (λ k d lt. new_at ls l k d new lt);
}

abbrev place : ℤ → ℕ
place l = variable_of l - 1

apart_places : (vars : ℕ) (ls : List ℤ) → IsTail vars ls → AllPairs (λ x y. x ≢ y) (map place ls)
apart_places vars ls tail i j d lt within same =
    let old : j < length ls = omega (arith, length-map ls place) in
    let first = variable_bounds vars (variable_of (get_or ls i (pos 1))) (literal_at vars ls i (pos 1) tail.within (omega arith)) in
    let second = variable_bounds vars (variable_of (get_or ls j (pos 1))) (literal_at vars ls j (pos 1) tail.within old) in
    let equal : place (get_or ls i (pos 1)) ≡ place (get_or ls j (pos 1)) = sym (get_or-map place ls i (pos 1) d (omega arith)) ∙ same ∙ get_or-map place ls j (pos 1) d old in
    tail.once i j (pos 1) lt old (omega (arith, first.0, second.0, equal))

place_below : (vars : ℕ) (ls : List ℤ) → IsTail vars ls → (q : ℕ) → list_any (eqb q) (map place ls) ≡ true → q < vars
place_below vars ls tail q some =
    let at = Contains-from_any {eq = eqb} (λ x y. (Decides-eqb x y).0) q (map place ls) some in
    let old : at.0 < length ls = omega (arith, at.1, length-map ls place) in
    let bounds = variable_bounds vars (variable_of (get_or ls at.0 (pos 1))) (literal_at vars ls at.0 (pos 1) tail.within old) in
    let is : place (get_or ls at.0 (pos 1)) ≡ q = sym (get_or-map place ls at.0 (pos 1) q old) ∙ at.2 in
    omega (arith, bounds.0, bounds.1, is)

pub length-IsTail : (vars : ℕ) (ls : List ℤ) → IsTail vars ls → length ls ≤ vars
length-IsTail vars ls tail =
    let short : length (map place ls) ≤ vars = length-le_from_distinct_below (map place ls) vars (IsDistinct-from_AllPairs {eq = eqb} Decides-eqb (map place ls) (apart_places vars ls tail)) (place_below vars ls tail) in
    omega (arith, short, length-map ls place)
