-- Where all clauses are satisfied, those of each number of a range are, and those of each framed row or column.
use Rattle.std.proofs.Common.{◌≡◌, ◌<◌, ◌≤◌, ℕ, ◌+◌, ℤ, pos, ◌-ℤ◌, Bool, true, List, [], ◌∷◌, ◌++◌, refl, sym, ap, ◌∙◌, subst}
use Rattle.std.proofs.Math.Bool.{◌&&◌}
use Rattle.std.specs.List.{list_all, flat_map, range_with_len}
use Rattle.std.proofs.lemmas.List.Folds.{list_all-append}
use Rattle.lls_lit.specs.Formula.{Clause, satisfies_clause, satisfies}
use Rattle.lls_problem.specs.declared.demands.Edge.{Edge}
use Rattle.lls_images.proofs.Tests.{all_from-each}
use Rattle.lls_encode.specs.Formula.{first_framed, framed_count, framed}
use Rattle.lls_encode.proofs.Steps.{flat_map-map}
use Rattle.lls_encode.proofs.Framed.{IsFramedLine, counted}

pub satisfies-append : (values : List Bool) (a b : List Clause) → satisfies values (a ++ b) ≡ (satisfies values a && satisfies values b)
satisfies-append values a b = list_all-append (satisfies_clause values) a b

satisfies-flat_map : {X : Type 0} (values : List Bool) (f : X → List Clause) (xs : List X) → satisfies values (flat_map f xs) ≡ list_all (λ x. satisfies values (f x)) xs
satisfies-flat_map values f [] = refl
satisfies-flat_map values f (x ∷ xs) =
    satisfies-append values (f x) (flat_map f xs) ∙ ap (λ rest. satisfies values (f x) && rest) (satisfies-flat_map values f xs)

pub satisfied_in_range : (values : List Bool) (f : ℕ → List Clause) (a n k : ℕ) → satisfies values (flat_map f (range_with_len a n)) ≡ true
    → a ≤ k → k < a + n → satisfies values (f k) ≡ true
satisfied_in_range values f a n k all low high =
    all_from-each (λ i. satisfies values (f i)) a n k (sym (satisfies-flat_map values f (range_with_len a n)) ∙ all) low high

pub satisfied_framed : (values : List Bool) (f : ℤ → List Clause) (edge : Edge) (size : ℕ) (y : ℤ) → satisfies values (flat_map f (framed edge size)) ≡ true
    → IsFramedLine edge size y → satisfies values (f y) ≡ true
satisfied_framed values f edge size y all framed =
    let at = counted edge size y framed in
    subst (λ v. satisfies values (f v) ≡ true) at.is
    (satisfied_in_range values (λ (k : ℕ). f (pos k -ℤ pos 1)) (first_framed edge) (framed_count edge size) at.line
    (sym (ap (satisfies values) (flat_map-map f (λ (k : ℕ). pos k -ℤ pos 1) _)) ∙ all) at.low at.high)
