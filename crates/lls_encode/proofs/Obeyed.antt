-- The clauses of a transition, of cubes that contain just the forbidden rows, are satisfied exactly where the place has the
-- successor of its neighbourhood.
use Rattle.std.proofs.Common.{◌≡◌, ◌<◌, ◌≤◌, ◌↔◌, ℕ, ◌+◌, ℤ, pos, ◌+ℤ◌, ◌-ℤ◌, Bool, true, false, leb, List, [], ◌∷◌, take, get_or, refl, sym, ap, ◌∙◌, arith, Option, None, Some}
use Rattle.std.specs.List.{list_all}
use Rattle.std.proofs.lemmas.Bool.{and_parts, and_from, le-leb}
use Rattle.lls_lit.specs.Literal.{variable_of}
use Rattle.lls_lit.specs.Formula.{satisfies}
use Rattle.lls_rule.specs.Rule.{successor}
use Rattle.lls_grid.specs.History.{History, at, nine}
use Rattle.lls_problem.specs.declared.form.Form.{Form}
use Rattle.lls_problem.specs.declared.form.Form.TheVariants.{Rows, Cover}
use Rattle.lls_problem.specs.Problem.{PosedProblem}
use Rattle.lls_problem.specs.Solution.{place_of}
use Rattle.lls_cube.specs.declared.cube.Cube.{Cube}
use Rattle.lls_transition.specs.declared.place.Place.{Place}
use Rattle.lls_transition.specs.declared.place.Place.TheVariants.{Known, Of}
use Rattle.lls_transition.specs.Place.{place_within}
use Rattle.lls_transition.specs.Clause.{cube_clauses}
use Rattle.lls_transition.specs.Transition.{ContainForbidden}
use Rattle.lls_transition.proofs.Distinct.{satisfies-distinct}
use Rattle.lls_transition.proofs.Obeyed.{cubes_obey, forbidden_cubes, covering_cubes}
use Rattle.lls_encode.specs.Formula.{cubes_of, clauses_at}
use Rattle.lls_encode.specs.Place.{place_at, place_in, inputs_at}
use Rattle.lls_encode.proofs.Values.{HasCells, values-inputs_at}

-- a known value, or a literal that isn't 0
abbrev pub place_is_literal : Place → Bool
place_is_literal (Known value) = true
place_is_literal (Of literal) = leb 1 (variable_of literal)

-- all inputs of a transition are literals or known
is_literal_in : (p : PosedProblem) (t : ℕ) (row column : Option ℕ) → place_is_literal (place_in p t row column) ≡ true
is_literal_in p t (Some row) (Some column) = le-leb 1 (place_of p.posed t row column + 1) (omega arith)
is_literal_in p t (Some row) None = refl
is_literal_in p t None column = refl

pub inputs_are_literals : (p : PosedProblem) (t : ℕ) (y x : ℤ) → list_all place_is_literal (inputs_at p t y x) ≡ true
inputs_are_literals p t y x =
    let lit : (t : ℕ) (y x : ℤ) → place_is_literal (place_at p t y x) ≡ true = λ t y x. is_literal_in p t _ _ in
    rw (
      lit t (y -ℤ pos 1) (x -ℤ pos 1),
      lit t (y -ℤ pos 1) x,
      lit t (y -ℤ pos 1) (x +ℤ pos 1),
      lit t y (x -ℤ pos 1),
      lit t y x,
      lit t y (x +ℤ pos 1),
      lit t (y +ℤ pos 1) (x -ℤ pos 1),
      lit t (y +ℤ pos 1) x,
      lit t (y +ℤ pos 1) (x +ℤ pos 1),
      lit (t + 1) y x,
    )

-- so they are literals of some number of variables
abbrev pub most_of : List Place → ℕ
most_of [] = 0
most_of (Known value ∷ places) = most_of places
most_of (Of literal ∷ places) = variable_of literal + most_of places

pub within_most : (places : List Place) (vars : ℕ) → most_of places ≤ vars → list_all place_is_literal places ≡ true → list_all (place_within vars) places ≡ true
within_most [] vars few all = refl
within_most (Known value ∷ places) vars few all = within_most places vars few all
within_most (Of literal ∷ places) vars few all =
    let parts = and_parts _ _ all in
    and_from _ _ (and_from _ _ parts.0 (le-leb (variable_of literal) vars (omega arith))) (within_most places vars (omega arith) parts.1)

-- the cubes of either form contain just the forbidden rows
pub cubes_contain : (form : Form) (rule : List Bool) → ContainForbidden rule (cubes_of form rule)
cubes_contain Rows rule = forbidden_cubes rule
cubes_contain Cover rule = covering_cubes rule

-- clauses that aren't repeated say the same
pub satisfies-clauses_at : (values : List Bool) (form : Form) (cubes : List Cube) (inputs : List Place) → satisfies values (clauses_at form cubes inputs) ≡ satisfies values (cube_clauses inputs cubes)
satisfies-clauses_at values Rows cubes inputs = refl
satisfies-clauses_at values Cover cubes inputs = satisfies-distinct values (cube_clauses inputs cubes)

obeys : (p : PosedProblem) (form : Form) (cubes : List Cube) → ContainForbidden p.rule cubes → (h : History) (values : List Bool) → HasCells p values h → (t : ℕ) (y x : ℤ) → t + 1 < p.posed.generations
    → (satisfies values (clauses_at form cubes (inputs_at p t y x)) ≡ true) ↔ (at p.rule h (t + 1) y x ≡ successor p.rule (nine p.rule h t y x))
obeys p form cubes just h values has t y x next_in =
    let inputs = inputs_at p t y x in
    let said = values-inputs_at p h values has t y x next_in in
    let law = cubes_obey values (most_of inputs) p.rule inputs cubes (within_most inputs (most_of inputs) (omega arith) (inputs_are_literals p t y x)) refl just in
    let last = ap (λ bits. get_or bits 9 false) said in
    let before = ap (λ bits. successor p.rule (take 9 bits)) said in
    let same = satisfies-clauses_at values form cubes inputs in
    (λ satisfied. sym last ∙ law.0 (sym same ∙ satisfied) ∙ before, λ obeyed. same ∙ law.1 (last ∙ obeyed ∙ sym before))

pub satisfies-by_successor : (p : PosedProblem) (form : Form) (cubes : List Cube) → ContainForbidden p.rule cubes → (h : History) (values : List Bool) → HasCells p values h → (t : ℕ) (y x : ℤ)
    → t + 1 < p.posed.generations → at p.rule h (t + 1) y x ≡ successor p.rule (nine p.rule h t y x) → satisfies values (clauses_at form cubes (inputs_at p t y x)) ≡ true
satisfies-by_successor p form cubes just h values has t y x next_in obeyed = (obeys p form cubes just h values has t y x next_in).1 obeyed

pub successor-by_clauses : (p : PosedProblem) (form : Form) (cubes : List Cube) → ContainForbidden p.rule cubes → (h : History) (values : List Bool) → HasCells p values h → (t : ℕ) (y x : ℤ)
    → t + 1 < p.posed.generations → satisfies values (clauses_at form cubes (inputs_at p t y x)) ≡ true → at p.rule h (t + 1) y x ≡ successor p.rule (nine p.rule h t y x)
successor-by_clauses p form cubes just h values has t y x next_in satisfied = (obeys p form cubes just h values has t y x next_in).0 satisfied
