-- A check of a proof that comes in pieces.
use Rattle.std.specs.Prelude.{ℕ, ◌++◌, List, [], ◌∷◌, fold, map, Option, Some, None, Result, Ok, Err, if◌then◌else◌}
use Rattle.std.specs.Str.Lines.{strip_carriage_return}
use Rattle.lls_text.specs.Lines.{is_line_feed}
use Rattle.lls_lit.specs.Formula.{Cnf}
use Rattle.lls_prooflog.specs.FirstLine.{has_line}
use Rattle.lls_lrat.specs.Verdict.{Verdict, Accepted, BadLine, BadStep, NoEmpty, State, start, line_taken, closing, answer_of}
use Rattle.lls_lrat.specs.declared.checker.Progress.{Progress}
use Rattle.lls_lrat.specs.declared.checker.Progress.TheVariants.{Going, Done}
use Rattle.lls_lrat.specs.declared.error.CheckError.{CheckError}
use Rattle.lls_lrat.specs.declared.error.CheckError.TheVariants as errors

-- the lines with a byte put before the first, if there is one
abbrev pub before_lines : ℕ → List (List ℕ) → List (List ℕ)
before_lines byte [] = []
before_lines byte (line ∷ lines) = (byte ∷ line) ∷ lines

-- the lines of some bytes that LF ends
abbrev pub whole_lines : List ℕ → List (List ℕ)
whole_lines [] = []
whole_lines (b ∷ bs) = if is_line_feed b then [] ∷ whole_lines bs else before_lines b (whole_lines bs)

-- the bytes behind the last LF
abbrev pub behind_lines : List ℕ → List ℕ
behind_lines [] = []
behind_lines (b ∷ bs) = if has_line (b ∷ bs) then behind_lines bs else b ∷ bs

-- a check under way: the state behind the whole lines, and the bytes that stand behind the last LF
pub record Feeding : Type 0 where
  pub check : State
  pub rest : List ℕ

abbrev pub begun : Cnf → Feeding
begun formula = record { check = start formula; rest = [] }

-- the bytes that still wait: none once there is an end
abbrev pub waiting : Option Verdict → List ℕ → List ℕ
waiting None bytes = bytes
waiting (Some verdict) bytes = []

abbrev pub between : State → List ℕ → Feeding
between check bytes = record { check = check; rest = waiting check.end bytes }

-- the state after the lines, each without the CR at its end
abbrev pub lines_taken : State → List (List ℕ) → State
lines_taken check lines = fold line_taken check (map strip_carriage_return lines)

-- the check goes through the whole lines of some bytes, and what stands behind them waits
abbrev pub run_over : State → List ℕ → Feeding
run_over check bytes = between (lines_taken check (whole_lines bytes)) (behind_lines bytes)

-- more bytes come behind those that wait
abbrev pub fed : Feeding → List ℕ → Feeding
fed feeding bytes = run_over feeding.check (feeding.rest ++ bytes)

-- the bytes that wait are the last line, if there are any
abbrev pub last_taken : State → List ℕ → State
last_taken check [] = check
last_taken check (b ∷ bs) = line_taken check (strip_carriage_return (b ∷ bs))

-- what a proof amounts to that ends here
abbrev pub ending : Feeding → Verdict
ending feeding = closing (last_taken feeding.check feeding.rest).end

-- what a piece is answered: the end, if there is one
abbrev pub end_answer : Option Verdict → Result Progress CheckError
end_answer None = Ok Going
end_answer (Some Accepted) = Ok Done
end_answer (Some (BadLine number fault)) = Err (errors.Line number fault)
end_answer (Some (BadStep number fault)) = Err (errors.Step number fault)
end_answer (Some NoEmpty) = Err errors.NoEmpty

-- what a checker in pieces is seen as: the formula, and the check, or none once memory lacked
pub record FeedState : Type 0 where
  pub formula : Cnf
  pub feeding : Option Feeding

abbrev pub piece_answer : Option Feeding → Result Progress CheckError
piece_answer None = Err errors.Memory
piece_answer (Some feeding) = end_answer feeding.check.end

-- what the proof is answered that ends here
abbrev pub last_answer : Option Feeding → Result (Unit {0}) CheckError
last_answer None = Err errors.Memory
last_answer (Some feeding) = answer_of (ending feeding)
