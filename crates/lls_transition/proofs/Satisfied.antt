-- Which assignments satisfy a clause of places, and clauses of cubes.
use Rattle.std.proofs.Common.{◌≡◌, ℕ, zero, suc, ℤ, pos, negsuc, List, [], ◌∷◌, Bool, true, false, not, ◌||◌, ◌&&◌, Option, None, Some, refl, ap, ◌∙◌, sym, add-one}
use Rattle.std.proofs.Math.Bool.{beq}
use Rattle.std.specs.Option.{option_map}
use Rattle.std.specs.List.{list_any, list_all, filter_map}
use Rattle.lls_lit.specs.Literal.{negation}
use Rattle.lls_lit.specs.Formula.{Clause, value_at, is_true, is_literal_of, satisfies_clause, satisfies}
use Rattle.lls_transition.specs.declared.place.Place.{Place}
use Rattle.lls_transition.specs.declared.place.Place.TheVariants.{Known, Of}
use Rattle.lls_transition.specs.Place.{place_within, value_of}
use Rattle.lls_transition.specs.Clause.{differing, clause_of}

-- a clause that is left out is satisfied
abbrev pub satisfied : List Bool → Option Clause → Bool
satisfied values None = true
satisfied values (Some clause) = satisfies_clause values clause

or_true : (b : Bool) → true ≡ (b || true)
or_true true = refl
or_true false = refl

satisfied-more : (values : List Bool) (l : ℤ) (o : Option Clause) → satisfied values (option_map (λ clause. l ∷ clause) o) ≡ (is_true values l || satisfied values o)
satisfied-more values l None = or_true (is_true values l)
satisfied-more values l (Some clause) = refl

pub satisfied-clause_of : (values : List Bool) (places : List Place) → satisfied values (clause_of places) ≡ list_any (value_of values) places
satisfied-clause_of values [] = refl
satisfied-clause_of values (Known true ∷ places) = refl
satisfied-clause_of values (Known false ∷ places) = satisfied-clause_of values places
satisfied-clause_of values (Of l ∷ places) =
    satisfied-more values l (clause_of places) ∙ ap (λ b. is_true values l || b) (satisfied-clause_of values places)

filtered : {X : Type 0} (values : List Bool) (f : X → Option Clause) (x : X) (xs : List X) (o : Option Clause) → f x ≡ o
    → satisfies values (filter_map f (x ∷ xs)) ≡ (satisfied values o && satisfies values (filter_map f xs))
filtered values f x xs None e = rw e refl
filtered values f x xs (Some clause) e = rw e refl

pub satisfies-filter_map : {X : Type 0} (values : List Bool) (f : X → Option Clause) (xs : List X) → satisfies values (filter_map f xs) ≡ list_all (λ x. satisfied values (f x)) xs
satisfies-filter_map values f [] = refl
satisfies-filter_map values f (x ∷ xs) =
    filtered values f x xs (f x) refl ∙ ap (λ b. satisfied values (f x) && b) (satisfies-filter_map values f xs)

not_not : (b : Bool) → not (not b) ≡ b
not_not true = refl
not_not false = refl

pub is_true-negation : (values : List Bool) (vars : ℕ) (l : ℤ) → is_literal_of vars l ≡ true → is_true values (negation l) ≡ not (is_true values l)
is_true-negation values vars (pos zero) within = cc
is_true-negation values vars (pos (suc n)) within = refl
is_true-negation values vars (negsuc n) within = rw add-one (sym (not_not (value_at values n)))

not_beq-true : (b : Bool) → not b ≡ not (beq b true)
not_beq-true true = refl
not_beq-true false = refl

not_beq-false : (b : Bool) → b ≡ not (beq b false)
not_beq-false true = refl
not_beq-false false = refl

-- what is true where a place's value isn't a bit
pub value_of-differing : (values : List Bool) (vars : ℕ) (place : Place) (bit : Bool) → place_within vars place ≡ true → value_of values (differing place bit) ≡ not (beq (value_of values place) bit)
value_of-differing values vars place false within = not_beq-false (value_of values place)
value_of-differing values vars (Known value) true within = not_beq-true value
value_of-differing values vars (Of l) true within = is_true-negation values vars l within ∙ not_beq-true (is_true values l)
