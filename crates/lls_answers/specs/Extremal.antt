-- A search for the fewest live cells, or for the most: which problems it looks at, and what it says of a solution.
use Rattle.std.specs.Prelude.{◌≡◌, ℕ, ◌++◌, Bool, List, codes, decimal, Option, None, Some, Ok}
use Rattle.std.specs.Option.{option_map}
use Rattle.lls_base.specs.Shelf.{Files}
use Rattle.lls_grid.specs.History.{History}
use Rattle.lls_problem.specs.declared.bounds.Bound.{Bound}
use Rattle.lls_problem.specs.Problem.{problem_made}
use Rattle.lls_problem.specs.Plane.{PlaneLaw}
use Rattle.lls_problem.specs.Solution.{IsSolution, IsAbsent}
use Rattle.lls_least.specs.declared.extreme.Extreme.{Extreme}
use Rattle.lls_least.specs.declared.extreme.Extreme.TheVariants as extremes
use Rattle.lls_least.specs.Bounded.{bounded, live_cells}
use Rattle.lls_least.specs.Extremal.{IsExtreme, beyond_it}
use Rattle.lls_answers.specs.declared.asked.Asked.{Asked}
use Rattle.lls_answers.specs.declared.effort.Effort.{Effort}
use Rattle.lls_answers.specs.declared.answer_file.AnswerFile.{AnswerFile}
use Rattle.lls_answers.specs.declared.answer.Answer.{Answer}
use Rattle.lls_answers.specs.declared.status.Status.{Status}
use Rattle.lls_answers.specs.declared.status.Status.TheVariants as statuses
use Rattle.lls_answers.specs.Absence.{no_pattern}
use Rattle.lls_answers.specs.Evidence.{HasProof, HasSpentLog}
use Rattle.lls_answers.specs.PatternText.{pattern_text}
use Rattle.lls_answers.specs.Subject.{Subject, formula_asked}
use Rattle.lls_answers.specs.Subject as subjects
use Rattle.lls_answers.specs.Meaning.{Meaning, IsShort, OfFile, answered_by, certificate_at, shown, shown_behind}

-- the same with a bound on generation 0 besides
abbrev pub asked_bounded : Asked → Bound → Asked
asked_bounded asked bound = record asked { problem = bounded asked.problem bound }

-- the problem that asks for a solution beyond a history, where there is room for one
abbrev pub subject_beyond : Extreme → Asked → History → Option Subject
subject_beyond extreme asked history = option_map (λ bound. subjects.Problem (asked_bounded asked bound)) (beyond_it extreme asked.problem history)

-- a solution that keeps the rule on the whole plane where it has to, and than which none has fewer live cells in generation 0, or none more
pub record IsOfExtreme (extreme : Extreme) (asked : Asked) (history : History) : Type 0 where
  pub solution : IsSolution asked.problem history
  pub law : PlaneLaw asked.problem history
  pub utmost : IsExtreme extreme asked.problem history

-- a solution, which keeps the rule on the whole plane where it has to, and the bound that asks for one beyond it. The file, the rule and the
-- demands with the bound behind them pose the problem with it
pub record AsksBeyond (extreme : Extreme) (asked : Asked) (history : History) (bound : Bound) : Type 0 where
  pub solution : IsSolution asked.problem history
  pub law : PlaneLaw asked.problem history
  pub asks : beyond_it extreme asked.problem history ≡ Some bound
  pub posed : problem_made asked.problem.posed asked.problem.rule (bounded asked.problem bound).demands ≡ Ok (bounded asked.problem bound)

-- what it looks at: the problem itself, and behind a solution that with the bound that asks for one beyond
pub data IsLookedAt (extreme : Extreme) (asked : Asked) : Asked → Type 0 where
  whole : IsLookedAt extreme asked asked
  farther : (history : History) (bound : Bound) → AsksBeyond extreme asked history bound → IsLookedAt extreme asked (asked_bounded asked bound)

-- how many cells of generation 0 a solution has alive, behind a word, and the solution
abbrev pub counted_text : List ℕ → Bool → List Bool → History → List ℕ
counted_text word rle rule history = word ++ codes " " ++ decimal (live_cells history) ++ codes "\n" ++ pattern_text rle rule history

-- the word of a solution with the fewest or the most, and of one of which the budget didn't tell
abbrev pub shown_word : Extreme → List ℕ
shown_word extremes.Fewest = codes "least"
shown_word extremes.Most = codes "most"

abbrev pub reached_word : Extreme → List ℕ
reached_word extremes.Fewest = codes "at most"
reached_word extremes.Most = codes "at least"

abbrev pub shown_text : Extreme → Bool → List Bool → History → List ℕ
shown_text extreme rle rule history = counted_text (shown_word extreme) rle rule history

abbrev pub reached_text : Extreme → Bool → List Bool → History → List ℕ
reached_text extreme rle rule history = counted_text (reached_word extreme) rle rule history

-- how the search ends: with a solution beyond which there is no room, of which nothing has to be shown; with one and the proof that there is none
-- beyond it; with the proof that there is none at all; or with the spent log of what was looked at last
pub data IsExtremal (extreme : Extreme) (asked : Asked) (effort : Effort) (rle : Bool) : Answer → Type 0 where
  last : (history : History) → IsOfExtreme extreme asked history → beyond_it extreme asked.problem history ≡ None
      → IsExtremal extreme asked effort rle (shown statuses.Pattern (shown_text extreme rle asked.problem.rule history))
  utmost_shown : (history : History) (bound : Bound) (file : AnswerFile) → IsOfExtreme extreme asked history → AsksBeyond extreme asked history bound
      → HasProof (formula_asked (asked_bounded asked bound)) effort file
      → IsExtremal extreme asked effort rle (shown_behind file statuses.Pattern (shown_text extreme rle asked.problem.rule history))
  no_solution : (file : AnswerFile) → HasProof (formula_asked asked) effort file
      → IsExtremal extreme asked effort rle (shown_behind file statuses.NoPattern no_pattern)
  reached : (history : History) (bound : Bound) (file : AnswerFile) → AsksBeyond extreme asked history bound → HasSpentLog (formula_asked (asked_bounded asked bound)) effort file
      → IsExtremal extreme asked effort rle (shown_behind file statuses.Undecided (reached_text extreme rle asked.problem.rule history))
  unsettled : (file : AnswerFile) → HasSpentLog (formula_asked asked) effort file
      → IsExtremal extreme asked effort rle (shown_behind file statuses.Undecided (codes "undecided\n"))

-- a spent log of what the search looked at last
pub record HasLookedLog (extreme : Extreme) (asked : Asked) (effort : Effort) (file : AnswerFile) : Type 0 where
  pub looked : Asked
  pub is_looked : IsLookedAt extreme asked looked
  pub log : HasSpentLog (formula_asked looked) effort file

-- a solution with the fewest live cells, or the most, and where there is room beyond it, a proof in the file that there is none there: of the
-- formula of the problem with the bound that asks for one, which the words pose with that bound behind the others
pub record IsCertified (extreme : Extreme) (asked : Asked) (effort : Effort) (files : Option Files) (history : History) : Type 0 where
  pub utmost : IsOfExtreme extreme asked history
  pub proof : (bound : Bound) → beyond_it extreme asked.problem history ≡ Some bound
      → AsksBeyond extreme asked history bound × OfFile (HasProof (formula_asked (asked_bounded asked bound)) effort) effort.proof files

-- what it leaves: the proof that there is none beyond a solution, that there is none, or the log of what was looked at last
abbrev pub leaves_extremal : Extreme → Asked → Effort → Status → Option Files → Type 0
leaves_extremal extreme asked effort statuses.Pattern files = (history : History) × IsCertified extreme asked effort files history
leaves_extremal extreme asked effort statuses.NoPattern files = OfFile (HasProof (formula_asked asked) effort) effort.proof files
leaves_extremal extreme asked effort statuses.Undecided files = OfFile (HasLookedLog extreme asked effort) effort.proof files
leaves_extremal extreme asked effort status files = Unit {0}

-- it says that there is a solution with the fewest live cells, or the most, that there is none, or that the budget was short for what it looked
-- at last
abbrev pub extremal_meaning : Extreme → Asked → Effort → Bool → Meaning
extremal_meaning extreme asked effort rle = record (answered_by (IsExtremal extreme asked effort rle)) {
  some = (history : History) × IsOfExtreme extreme asked history;
  none = IsAbsent asked.problem;
  short = (looked : Asked) × IsLookedAt extreme asked looked × IsShort (formula_asked looked) effort;
  writes = λ status. certificate_at status effort.proof;
  leaves = leaves_extremal extreme asked effort;
}
