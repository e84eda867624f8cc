-- The formula of a problem whose rule is open between two rules, by its parts: what stands before the transitions, the
-- transitions, what stands behind them. Behind the variables of the cells each open class has one: what the rule gives there.
use Rattle.std.specs.Prelude.{ℕ, ◌+◌, ◌/◌, ◌%◌, ◌^◌, ◌==◌, ℤ, pos, Bool, not, List, [], ◌∷◌, ◌++◌, map, length, ◌&&◌}
use Rattle.std.specs.List.{flat_map, list_any, range_with_len}
use Rattle.std.proofs.Math.Bool.{beq}
use Rattle.lls_lit.specs.Formula.{Clause, Cnf}
use Rattle.lls_transition.specs.declared.place.Place.{Place}
use Rattle.lls_transition.specs.declared.place.Place.TheVariants.{Of}
use Rattle.lls_transition.specs.declared.table.TheConstants.{INPUTS}
use Rattle.lls_transition.specs.Transition.{is_forbidden}
use Rattle.lls_problem.specs.declared.form.Form.{Form}
use Rattle.lls_problem.specs.Problem.{PosedProblem}
use Rattle.lls_encode.specs.Place.{inputs_at}
use Rattle.lls_encode.specs.Formula.{cubes_in, clauses_at, front_part}
use Rattle.lls_encode.specs.Parts.{after_part, after_vars}
use Rattle.lls_open.specs.declared.class.SideClass.{SideClass}
use Rattle.lls_open.specs.declared.table.TheConstants.{OPEN_INPUTS}
use Rattle.lls_open.specs.declared.target.Target.{Target}
use Rattle.lls_open.specs.Classes.{is_of, open_classes, class_number}
use Rattle.lls_open.specs.Targets.{row_of, column_of, targets_of}

-- Of the rows of ten inputs, nine cells and the next one: the neighbourhood is of no open class, and the last bit isn't the
-- low rule's successor.
abbrev pub is_settled_forbidden : List Bool → List SideClass → ℕ → Bool
is_settled_forbidden low classes row = not (list_any (λ class. is_of class (row / 2)) classes) && is_forbidden low row

unfoldable pub settled_table : List Bool → List SideClass → List Bool
settled_table low classes = map (is_settled_forbidden low classes) (range_with_len 0 (2 ^ INPUTS))

-- Of the rows of eleven inputs, these ten and the class's variable: the neighbourhood is of the class, and the last two bits
-- differ.
abbrev pub is_class_forbidden : SideClass → ℕ → Bool
is_class_forbidden class row = is_of class (row / 4) && not (beq (row / 2 % 2 == 1) (row % 2 == 1))

unfoldable pub class_table : SideClass → List Bool
class_table class = map (is_class_forbidden class) (range_with_len 0 (2 ^ OPEN_INPUTS))

-- the variable of the kth open class
abbrev pub class_variable : PosedProblem → ℕ → ℤ
class_variable p k = pos (length p.posed.cells + k + 1)

-- the inputs of its table: those of a transition, and its variable
abbrev pub class_inputs : PosedProblem → List Place → ℕ → List Place
class_inputs p inputs k = inputs ++ Of (class_variable p k) ∷ []

-- the clauses of the kth open class's table, and those of all tables, with the inputs of a transition
abbrev pub class_clauses : PosedProblem → Form → List SideClass → List Place → ℕ → List Clause
class_clauses p form classes inputs k =
    clauses_at form (cubes_in form OPEN_INPUTS (class_table (class_number classes k))) (class_inputs p inputs k)

abbrev pub open_clauses : PosedProblem → Form → List SideClass → List Place → List Clause
open_clauses p form classes inputs =
    clauses_at form (cubes_in form INPUTS (settled_table p.rule classes)) inputs
    ++ flat_map (class_clauses p form classes inputs) (range_with_len 0 (length classes))

-- the transition into a target
abbrev pub target_clauses : PosedProblem → Form → List SideClass → Target → List Clause
target_clauses p form classes target = open_clauses p form classes (inputs_at p target.t (row_of target) (column_of target))

unfoldable pub open_part : PosedProblem → Form → List SideClass → List Clause
open_part p form classes = flat_map (target_clauses p form classes) (targets_of p)

-- one variable a cell, one an open class, and behind these the variables of the counters and of the difference
abbrev pub formula_with : PosedProblem → Form → List SideClass → Cnf
formula_with p form classes =
    let base = length p.posed.cells + length classes in
    record { vars = base + after_vars p; clauses = front_part p ++ open_part p form classes ++ after_part p base }

unfoldable pub open_formula : PosedProblem → List Bool → Form → Cnf
open_formula p high form = formula_with p form (open_classes p.rule high)
