-- Clauses put behind a formula's, cube by cube.
use Rattle.std.proofs.Common.{◌≡◌, ℕ, zero, suc, ◌+◌, ◌<◌, ◌≤◌, ℤ, pos, negsuc, List, [], ◌∷◌, ◌++◌, Bool, true, false, cond, Result, Ok, Err, OnOk, OnErr, Option, None, Some, map, take, length, get_or, refl, ap, ◌∙◌, sym, subst, arith, append_assoc, length-append, add-one}
use Rattle.std.specs.Option.{option_map}
use Rattle.std.specs.List.{list_all, filter_map, range_with_len}
use Rattle.std.proofs.lemmas.Bool.{and_parts, and_from}
use Rattle.std.proofs.lemmas.List.{append-nil, take_more}
use Rattle.std.proofs.Math.Seq.{take-append_seam}
use Rattle.std.proofs.lemmas.List.Elements.{filter_map-append}
use Rattle.lls_lit.specs.Literal.{negation}
use Rattle.lls_lit.specs.Formula.{Clause, Cnf, is_literal_of, is_within}
use Rattle.lls_cube.specs.declared.cube.Cube.{Cube}
use Rattle.lls_transition.specs.declared.place.Place.{Place}
use Rattle.lls_transition.specs.declared.place.Place.TheVariants.{Known, Of}
use Rattle.lls_transition.specs.Place.{place_within}
use Rattle.lls_transition.specs.Clause.{differing, clause_of, input_bit, cube_place, cube_places, cube_clause, cube_clauses, with_clauses}
use Rattle.lls_transition.proofs.Excluded.{within_at}

is_literal_of-negation : (vars : ℕ) (l : ℤ) → is_literal_of vars l ≡ true → is_literal_of vars (negation l) ≡ true
is_literal_of-negation vars (pos zero) within = within
is_literal_of-negation vars (pos (suc n)) within = rw add-one within
is_literal_of-negation vars (negsuc n) within = within

within-differing : (vars : ℕ) (place : Place) (bit : Bool) → place_within vars place ≡ true → place_within vars (differing place bit) ≡ true
within-differing vars place false within = within
within-differing vars (Known value) true within = refl
within-differing vars (Of l) true within = is_literal_of-negation vars l within

within-chosen : (vars : ℕ) (b : Bool) (place : Place) → place_within vars place ≡ true → place_within vars (cond b place (Known false)) ≡ true
within-chosen vars true place within = within
within-chosen vars false place within = refl

within-places : (vars : ℕ) (inputs : List Place) (cube : Cube) (a n : ℕ) → list_all (place_within vars) inputs ≡ true → list_all (place_within vars) (map (cube_place inputs cube) (range_with_len a n)) ≡ true
within-places vars inputs cube a zero all = refl
within-places vars inputs cube a (suc n) all =
    and_from _ _ (within-chosen vars (input_bit (length inputs) cube.care a) _ (within-differing vars (get_or inputs a (Known false)) (input_bit (length inputs) cube.value a) (within_at vars inputs a all))) (within-places vars inputs cube (a + 1) n all)

one_more : (vars : ℕ) (l : ℤ) (o : Option Clause) (clause : Clause) → is_literal_of vars l ≡ true → ((rest : Clause) → o ≡ Some rest → is_within vars rest ≡ true)
    → option_map (λ rest. l ∷ rest) o ≡ Some clause → is_within vars clause ≡ true
one_more vars l None clause within rest_in e = cc
one_more vars l (Some rest) clause within rest_in e =
    let is : l ∷ rest ≡ clause = cc in
    subst (λ c. is_within vars c ≡ true) is (and_from _ _ within (rest_in rest refl))

is_within-clause_of : (vars : ℕ) (places : List Place) (clause : Clause) → list_all (place_within vars) places ≡ true → clause_of places ≡ Some clause → is_within vars clause ≡ true
is_within-clause_of vars [] clause all e = let is : [] ≡ clause = cc in subst (λ c. is_within vars c ≡ true) is refl
is_within-clause_of vars (Known true ∷ places) clause all e = cc
is_within-clause_of vars (Known false ∷ places) clause all e = is_within-clause_of vars places clause all e
is_within-clause_of vars (Of l ∷ places) clause all e =
    let parts = and_parts _ _ all in
    one_more vars l (clause_of places) clause parts.0 (λ rest is. is_within-clause_of vars places rest parts.1 is) e

-- a cube's clause is of the variables of the inputs
pub is_within-cube_clause : (vars : ℕ) (inputs : List Place) (cube : Cube) (clause : Clause) → list_all (place_within vars) inputs ≡ true → cube_clause inputs cube ≡ Some clause → is_within vars clause ≡ true
unfolding cube_places
is_within-cube_clause vars inputs cube clause all e = is_within-clause_of vars (map (cube_place inputs cube) (range_with_len 0 (length inputs))) clause (within-places vars inputs cube 0 (length inputs) all) e

-- a cube without a clause, and one with one
pub cube_clauses-none : (formula : Cnf) (inputs : List Place) (cube : Cube) → cube_clause inputs cube ≡ None → formula ≡ with_clauses formula (cube_clauses inputs (cube ∷ []))
cube_clauses-none formula inputs cube none = rw (none, append-nil) refl

pub cube_clauses-some : (formula : Cnf) (inputs : List Place) (cube : Cube) (clause : Clause) → cube_clause inputs cube ≡ Some clause
    → record formula { clauses = formula.clauses ++ clause ∷ [] } ≡ with_clauses formula (cube_clauses inputs (cube ∷ []))
cube_clauses-some formula inputs cube clause some = rw some refl

-- one cube more
pub cube_clauses-more : (formula now next : Cnf) (inputs : List Place) (cubes : List Cube) (i : ℕ) (cube d : Cube) → i < length cubes → cube ≡ get_or cubes i d
    → now ≡ with_clauses formula (cube_clauses inputs (take i cubes)) → next ≡ with_clauses now (cube_clauses inputs (cube ∷ [])) → next ≡ with_clauses formula (cube_clauses inputs (take (i + 1) cubes))
cube_clauses-more formula now next inputs cubes i cube d inside is before step =
    step
    ∙ ap (λ f. with_clauses f (cube_clauses inputs (cube ∷ []))) before
    ∙ ap (λ all. record formula { clauses = all })
    (append_assoc formula.clauses (cube_clauses inputs (take i cubes)) (cube_clauses inputs (cube ∷ []))
    ∙ ap (λ more. formula.clauses ++ more)
    (sym (filter_map-append (cube_clause inputs) (take i cubes) (cube ∷ []))
    ∙ ap (cube_clauses inputs) (ap (λ c. take i cubes ++ c ∷ []) is ∙ sym (take_more cubes i d inside))))

-- at most one clause each
length-cons : (o : Option Clause) (f : Cube → Option Clause) (cube : Cube) (cubes : List Cube) → f cube ≡ o → length (filter_map f (cube ∷ cubes)) ≤ suc (length (filter_map f cubes))
length-cons None f cube cubes is = rw is (omega arith)
length-cons (Some clause) f cube cubes is = rw is (omega arith)

pub length-cube_clauses : (inputs : List Place) (cubes : List Cube) → length (cube_clauses inputs cubes) ≤ length cubes
length-cube_clauses inputs [] = omega arith
length-cube_clauses inputs (cube ∷ cubes) =
    omega (arith, length-cons (cube_clause inputs cube) (cube_clause inputs) cube cubes refl, length-cube_clauses inputs cubes)

pub room_after : (formula now : Cnf) (inputs : List Place) (cubes : List Cube) (i most : ℕ) → now ≡ with_clauses formula (cube_clauses inputs (take i cubes)) → i < length cubes → length formula.clauses + length cubes ≤ most
    → length now.clauses < most
room_after formula now inputs cubes i most is inside room =
    let count : length now.clauses ≡ length formula.clauses + length (cube_clauses inputs (take i cubes)) =
    ap (λ f. length f.clauses) is ∙ length-append formula.clauses (cube_clauses inputs (take i cubes)) in
    let few = length-cube_clauses inputs (take i cubes) in
    let taken : length (take i cubes) ≡ i = length_of_take i cubes inside in
    omega (arith, count, few, taken)
  where
    length_of_take : (i : ℕ) (cubes : List Cube) → i < length cubes → length (take i cubes) ≡ i
    length_of_take zero cubes inside = refl
    length_of_take (suc i) [] inside = absurd (omega arith)
    length_of_take (suc i) (cube ∷ cubes) inside = ap suc (length_of_take i cubes (omega arith))

-- the formula's own clauses
pub take-with_clauses : (formula now : Cnf) (more : List Clause) → now ≡ with_clauses formula more → take (length formula.clauses) now.clauses ≡ formula.clauses
take-with_clauses formula now more is = ap (λ f. take (length formula.clauses) f.clauses) is ∙ take-append_seam formula.clauses more

pub most_more : {T E : Type 0} (result : Result T E) (formula now : Cnf) (inputs : List Place) (cubes : List Cube) → OnOk result (now ≡ with_clauses formula (cube_clauses inputs cubes)) → OnErr result (now ≡ formula)
    → length now.clauses ≤ length formula.clauses + length cubes
most_more (Ok done) formula now inputs cubes ok err =
    omega (arith, ap (λ f. length f.clauses) ok, length-append formula.clauses (cube_clauses inputs cubes), length-cube_clauses inputs cubes)
most_more (Err fault) formula now inputs cubes ok err = omega (arith, ap (λ f. length f.clauses) err)
