-- A made problem: the search file that it is written to, and what is said of the search for its solution.
use Rattle.std.specs.Prelude.{◌≤◌, ℕ, ◌*◌, ◌++◌, Bool, true, false, List, codes, count_by, decimal, length, take, Some}
use Rattle.lls_grid.specs.History.{History}
use Rattle.lls_problem.specs.Solution.{IsSolution}
use Rattle.lls_lit.specs.Formula.{Cnf}
use Rattle.lls_grid.specs.Changes.{population}
use Rattle.lls_search_file.specs.declared.cell.Kind.{Kind}
use Rattle.lls_search_file.specs.declared.cell.Kind.TheVariants.{Dead, Live}
use Rattle.lls_search_file.specs.Posed.{PosedFile}
use Rattle.lls_search_file.specs.Printing.{posed_text}
use Rattle.lls_gen.specs.declared.making.Made.{Made}
use Rattle.lls_gen.specs.Made.{made, made_problem, most_size}
use Rattle.lls_problem.specs.declared.form.Form.TheVariants.{Rows}
use Rattle.lls_encode.specs.Formula.{formula_of}
use Rattle.lls_answers.specs.declared.effort.Effort.{Effort}
use Rattle.lls_answers.specs.declared.answer_file.AnswerFile.{AnswerFile}
use Rattle.lls_answers.specs.declared.answer.Answer.{Answer}
use Rattle.lls_answers.specs.declared.status.Status.TheVariants as statuses
use Rattle.lls_answers.specs.Evidence.{HasSpentLog}
use Rattle.lls_answers.specs.Meaning.{Meaning, IsShort, answered_by, leaves_log, log_at, shown, shown_behind}

-- a size that a problem can be made of
abbrev pub IsSize : ℕ → Type 0
IsSize size = (1 ≤ size) × (size ≤ most_size)

-- the search file of a made problem
abbrev pub made_file : ℕ → ℕ → List ℕ → AnswerFile
made_file seed size name = record { name = name; bytes = posed_text (made_problem seed size).posed }

-- a cell whose value is fixed
abbrev pub is_known : Kind → Bool
is_known Dead = true
is_known Live = true
is_known kind = false

-- how many cells of generation 0 are fixed
abbrev pub known_count : PosedFile → ℕ
known_count posed = count_by (λ cell. is_known cell.kind) (take (posed.width * posed.height) posed.cells)

-- the lines on a made problem: its size, its known cells, and the populations of its solution
abbrev pub problem_lines : Made → List ℕ
problem_lines made =
    codes "size " ++ decimal made.problem.posed.height ++ codes "\nknown " ++ decimal (known_count made.problem.posed)
    ++ codes "\nlive " ++ decimal (population made.history 0) ++ codes " " ++ decimal (population made.history 1) ++ codes "\n"

-- the lines on the search over a formula: the formula's sizes, and how the search ended
abbrev pub search_lines : Cnf → List ℕ → List ℕ
search_lines formula answer =
    codes "variables " ++ decimal formula.vars ++ codes "\nclauses " ++ decimal (length formula.clauses) ++ codes "\nanswer " ++ answer ++ codes "\n"

abbrev pub summary_of : Made → Cnf → List ℕ → List ℕ
summary_of made formula answer = problem_lines made ++ search_lines formula answer

-- what is said of a problem by its seed and size; its formula has a clause for each forbidden row
abbrev pub summary_text : ℕ → ℕ → List ℕ → List ℕ
summary_text seed size answer = summary_of (made seed size) (formula_of (made_problem seed size) Rows) answer

-- how the search of a made problem ends: it has a solution, so it is found, or the file has a spent log of its formula
pub data IsMaking (seed size : ℕ) (effort : Effort) : Answer → Type 0 where
  solved : IsMaking seed size effort (shown statuses.Pattern (summary_text seed size (codes "pattern")))
  unsolved : (file : AnswerFile) → HasSpentLog (formula_of (made_problem seed size) Rows) effort file
      → IsMaking seed size effort (shown_behind file statuses.Undecided (summary_text seed size (codes "undecided")))

-- its search file is written ahead, and that there is nothing is never said
abbrev pub make_meaning : ℕ → ℕ → List ℕ → Effort → Meaning
make_meaning seed size name effort = record (answered_by (IsMaking seed size effort)) {
  ahead = Some (made_file seed size name);
  some = (history : History) × IsSolution (made_problem seed size) history;
  short = IsShort (formula_of (made_problem seed size) Rows) effort;
  writes = λ status. log_at status effort.proof;
  leaves = leaves_log (formula_of (made_problem seed size) Rows) effort;
}
