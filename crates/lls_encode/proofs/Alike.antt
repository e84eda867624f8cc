-- The clauses that two places are equal.
use Rattle.std.proofs.Common.{◌≡◌, ℕ, ◌+◌, ℤ, pos, Bool, true, false, not, ◌&&◌, ◌||◌, List, refl, sym, ◌∙◌, ap, Option, None, Some, add-one}
use Rattle.lls_lit.specs.Formula.{is_true, satisfies}
use Rattle.lls_problem.specs.Problem.{PosedProblem}
use Rattle.lls_problem.specs.Solution.{place_of}
use Rattle.lls_transition.specs.declared.place.Place.{Place}
use Rattle.lls_transition.specs.declared.place.Place.TheVariants.{Known, Of}
use Rattle.lls_transition.specs.Place.{value_of}
use Rattle.lls_transition.specs.Clause.{differing}
use Rattle.lls_encode.specs.Place.{place_at, place_in}
use Rattle.lls_encode.specs.Formula.{either, same_places}
use Rattle.lls_encode.proofs.Satisfied.{is_true-negation}
use Rattle.lls_encode.proofs.Parts.{satisfies-append}

-- the place that is true where another isn't
abbrev pub IsOpposed : List Bool → Place → Type 0
IsOpposed values place = value_of values (differing place true) ≡ not (value_of values place)

opposed_in : (p : PosedProblem) (values : List Bool) (t : ℕ) (row column : Option ℕ) → IsOpposed values (place_in p t row column)
opposed_in p values t (Some row) (Some column) = is_true-negation values (pos (place_of p.posed t row column + 1)) (rw add-one refl)
opposed_in p values t (Some row) None = refl
opposed_in p values t None column = refl

pub IsOpposed-place_at : (p : PosedProblem) (values : List Bool) (t : ℕ) (y x : ℤ) → IsOpposed values (place_at p t y x)
IsOpposed-place_at p values t y x = opposed_in p values t _ _

-- the clause of two places
alone : (b : Bool) → ((b || false) && true) ≡ b
alone true = refl
alone false = refl

or_true : (b : Bool) → true ≡ (b || true)
or_true true = refl
or_true false = refl

or_false : (b : Bool) → ((b || false) && true) ≡ (b || false)
or_false true = refl
or_false false = refl

two : (a b : Bool) → ((a || (b || false)) && true) ≡ (a || b)
two true b = refl
two false true = refl
two false false = refl

satisfies-either : (values : List Bool) (a b : Place) → satisfies values (either a b) ≡ (value_of values a || value_of values b)
satisfies-either values (Known true) b = refl
satisfies-either values (Known false) (Known true) = refl
satisfies-either values (Known false) (Known false) = refl
satisfies-either values (Known false) (Of literal) = alone (is_true values literal)
satisfies-either values (Of literal) (Known true) = or_true (is_true values literal)
satisfies-either values (Of literal) (Known false) = or_false (is_true values literal)
satisfies-either values (Of first) (Of second) = two (is_true values first) (is_true values second)

satisfies-same_places : (values : List Bool) (a b : Place) → IsOpposed values a → IsOpposed values b
    → satisfies values (same_places a b) ≡ ((not (value_of values a) || value_of values b) && (value_of values a || not (value_of values b)))
satisfies-same_places values a b not_a not_b =
    satisfies-append values (either (differing a true) b) (either a (differing b true))
    ∙ ap (λ first. first && satisfies values (either a (differing b true))) (satisfies-either values (differing a true) b ∙ ap (λ v. v || value_of values b) not_a)
    ∙ ap (λ second. (not (value_of values a) || value_of values b) && second) (satisfies-either values a (differing b true) ∙ ap (λ v. value_of values a || v) not_b)

equal_by : (a b : Bool) → ((not a || b) && (a || not b)) ≡ true → a ≡ b
equal_by true true e = refl
equal_by true false e = cc
equal_by false true e = cc
equal_by false false e = refl

by_equal : (a b : Bool) → a ≡ b → ((not a || b) && (a || not b)) ≡ true
by_equal true true e = refl
by_equal true false e = cc
by_equal false true e = cc
by_equal false false e = refl

-- of two places of generations: the two clauses are satisfied exactly where their values are equal
pub equal_at : (p : PosedProblem) (values : List Bool) (t : ℕ) (y x : ℤ) (t' : ℕ) (y' x' : ℤ) → satisfies values (same_places (place_at p t y x) (place_at p t' y' x')) ≡ true
    → value_of values (place_at p t y x) ≡ value_of values (place_at p t' y' x')
equal_at p values t y x t' y' x' satisfied =
    let not_a = IsOpposed-place_at p values t y x in
    let not_b = IsOpposed-place_at p values t' y' x' in
    equal_by _ _ (sym (satisfies-same_places values (place_at p t y x) (place_at p t' y' x') not_a not_b) ∙ satisfied)

pub satisfies-same_at : (p : PosedProblem) (values : List Bool) (t : ℕ) (y x : ℤ) (t' : ℕ) (y' x' : ℤ) → value_of values (place_at p t y x) ≡ value_of values (place_at p t' y' x')
    → satisfies values (same_places (place_at p t y x) (place_at p t' y' x')) ≡ true
satisfies-same_at p values t y x t' y' x' equal =
    let not_a = IsOpposed-place_at p values t y x in
    let not_b = IsOpposed-place_at p values t' y' x' in
    satisfies-same_places values (place_at p t y x) (place_at p t' y' x') not_a not_b ∙ by_equal _ _ equal
