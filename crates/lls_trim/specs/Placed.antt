-- The steps of a proof, each with the number of its line.
use Rattle.std.specs.Prelude.{ℕ, ◌+◌, List, [], ◌∷◌, map, Option, Some, None, Result, Ok, Err}
use Rattle.std.specs.List.{enumerate_from}
use Rattle.lls_prooflog.specs.declared.line_fault.LineFault.{LineFault}
use Rattle.lls_prooflog.specs.declared.step.Step.{Step}
use Rattle.lls_prooflog.specs.Log.{read_lines}

-- a line's number and the step that it writes
abbrev pub Placed : Type 0
Placed = List (ℕ × Step)

-- what a line writes, put before the steps of the lines behind it
abbrev pub put_line : ℕ → Result (Option Step) LineFault → Placed → Placed
put_line line (Ok (Some step)) placed = (line, step) ∷ placed
put_line line (Ok None) placed = placed
put_line line (Err fault) placed = placed

-- the steps of lines, of which the first has that number. A blank line, a comment and a line that can't be read count, and write none
abbrev pub placed_from : ℕ → List (Result (Option Step) LineFault) → Placed
placed_from line [] = []
placed_from line (read ∷ rest) = put_line line read (placed_from (line + 1) rest)

abbrev pub steps_of_text : List ℕ → Placed
steps_of_text text = placed_from 1 (read_lines text)

-- each step of a log is a line
abbrev pub steps_of_log : List Step → Placed
steps_of_log steps = enumerate_from 1 steps

-- the steps alone
abbrev pub steps_in : Placed → List Step
steps_in placed = map (λ p. p.1) placed
