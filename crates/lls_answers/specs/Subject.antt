-- What a check or a search is about: its formula, what it means that no assignment satisfies that, and what an assignment shows that does.
use Rattle.std.specs.Prelude.{ℕ, Bool, List, codes}
use Rattle.lls_lit.specs.Formula.{Cnf, IsUnsatisfiable}
use Rattle.lls_grid.specs.History.{History}
use Rattle.lls_hensel.specs.Isotropy.{IsIsotropic}
use Rattle.lls_solver.specs.Searching.{IsModel}
use Rattle.lls_problem.specs.declared.form.Form.{Form}
use Rattle.lls_problem.specs.declared.form.Formulation.{Formulation}
use Rattle.lls_problem.specs.Problem.{PosedProblem}
use Rattle.lls_problem.specs.Plane.{PlaneLaw}
use Rattle.lls_problem.specs.Solution.{IsSolution, IsAbsent}
use Rattle.lls_encode.specs.Images.{formulated}
use Rattle.lls_open.specs.Formula.{open_formula}
use Rattle.lls_open.specs.Between.{with_rule, IsOpenSolution, IsOpenlyAbsent}
use Rattle.lls_answers.specs.Absence.{no_pattern}
use Rattle.lls_answers.specs.ModelText.{model_text}
use Rattle.lls_answers.specs.Opened.{opened_text}
use Rattle.lls_answers.specs.PatternText.{pattern_text}
use Rattle.lls_answers.specs.declared.asked.Asked.{Asked}
use Rattle.lls_answers.specs.declared.asked.OpenAsked.{OpenAsked}

-- the solutions of a problem; those by the rules between its own and a high one; the assignments that satisfy a formula
pub data Subject : Type 0 where
  Problem : Asked → Subject
  Rules : OpenAsked → Subject
  Formula : Cnf → Subject

-- how many cells a file has at most whose rule is left open
abbrev pub most_open_cells : ℕ
most_open_cells = 2048

-- what is asked about a problem: the problem, and how its formula is made
abbrev pub asked_with : Formulation → PosedProblem → Asked
asked_with formulation problem = record { problem = problem; formulation = formulation }

abbrev pub formula_asked : Asked → Cnf
formula_asked asked = formulated asked.problem asked.formulation

-- the same of a problem whose rule is left open below a high one
abbrev pub opened_with : List Bool → Form → PosedProblem → OpenAsked
opened_with high form problem = record { problem = problem; high = high; form = form }

abbrev pub formula_opened : OpenAsked → Cnf
formula_opened asked = open_formula asked.problem asked.high asked.form

-- the formula that is searched or refuted
abbrev pub subject_formula : Subject → Cnf
subject_formula (Problem asked) = formula_asked asked
subject_formula (Rules asked) = formula_opened asked
subject_formula (Formula formula) = formula

-- there is nothing to find: no solution, none by any rule between the two, or no assignment
abbrev pub HasNone : Subject → Type 0
HasNone (Problem asked) = IsAbsent asked.problem
HasNone (Rules asked) = IsOpenlyAbsent asked.problem asked.high
HasNone (Formula formula) = IsUnsatisfiable formula

-- a solution, which keeps the rule on the whole plane where it has to
pub record IsFound (problem : PosedProblem) (history : History) : Type 0 where
  pub solution : IsSolution problem history
  pub law : PlaneLaw problem history

-- a rule between the two, and a history that is a solution by it and keeps it on the whole plane where it has to
pub record IsFoundBetween (asked : OpenAsked) (history : History) (rule : List Bool) : Type 0 where
  pub solution : IsOpenSolution asked.problem asked.high history rule
  pub law : PlaneLaw (with_rule asked.problem rule) history

-- there is something to find
abbrev pub HasSome : Subject → Type 0
HasSome (Problem asked) = (history : History) × IsFound asked.problem history
HasSome (Rules asked) = (history : History) × ((rule : List Bool) × IsFoundBetween asked history rule)
HasSome (Formula formula) = (values : List Bool) × IsModel formula values

-- a text shows it: a solution as rows or pictures, with its rule where that was left open, or an assignment
pub data Shows : Subject → Bool → List ℕ → Type 0 where
  pattern : {asked : Asked} {rle : Bool} (history : History) → IsFound asked.problem history → Shows (Problem asked) rle (pattern_text rle asked.problem.rule history)
  rule_and_pattern : {asked : OpenAsked} {rle : Bool} (history : History) (rule : List Bool) → IsFoundBetween asked history rule → Shows (Rules asked) rle (opened_text rle rule history)
  model : {formula : Cnf} {rle : Bool} (values : List Bool) → IsModel formula values → Shows (Formula formula) rle (model_text values)

-- what is said where there is nothing, and where a search doesn't know
abbrev pub none_text : Subject → List ℕ
none_text (Problem asked) = no_pattern
none_text (Rules asked) = no_pattern
none_text (Formula formula) = codes "s UNSATISFIABLE\n"

abbrev pub undecided_text : Subject → List ℕ
undecided_text (Problem asked) = codes "undecided\n"
undecided_text (Rules asked) = codes "undecided\n"
undecided_text (Formula formula) = codes "s UNKNOWN\n"

-- a rule that solutions are printed with can be printed itself
abbrev pub CanBePrinted : Subject → Type 0
CanBePrinted (Problem asked) = IsIsotropic asked.problem.rule
CanBePrinted subject = Unit {0}
