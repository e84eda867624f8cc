-- The places whose transitions a formula is of, in their order.
use Rattle.std.specs.Prelude.{ℕ, ◌+◌, ◌-◌, ◌<◌, ℤ, pos, ◌-ℤ◌, List, [], ◌∷◌, if◌then◌else◌}
use Rattle.std.specs.List.{flat_map, range_with_len}
use Rattle.lls_problem.specs.Problem.{PosedProblem}
use Rattle.lls_problem.specs.Solution.{is_marked}
use Rattle.lls_encode.specs.Formula.{first_framed, framed_count}
use Rattle.lls_open.specs.declared.target.Target.{Target}

-- the row and the column of a target, which count from the ones before the grid
abbrev pub row_of : Target → ℤ
row_of target = pos target.line -ℤ pos 1

abbrev pub column_of : Target → ℤ
column_of target = pos target.column -ℤ pos 1

-- a place of generation t + 1, unless a mark frees it
abbrev pub place_targets : PosedProblem → ℕ → ℕ → ℕ → List Target
place_targets p t line column =
    if is_marked p.posed (t + 1) (pos line -ℤ pos 1) (pos column -ℤ pos 1) then [] else (record { t = t; line = line; column = column } ∷ [])

-- those of a framed row, of a generation and of all from the second on
abbrev pub line_targets : PosedProblem → ℕ → ℕ → List Target
line_targets p t line = flat_map (place_targets p t line) (range_with_len (first_framed p.demands.edge) (framed_count p.demands.edge p.posed.width))

abbrev pub generation_targets : PosedProblem → ℕ → List Target
generation_targets p t = flat_map (line_targets p t) (range_with_len (first_framed p.demands.edge) (framed_count p.demands.edge p.posed.height))

unfoldable pub targets_of : PosedProblem → List Target
targets_of p = flat_map (generation_targets p) (range_with_len 0 (p.posed.generations - 1))

-- a place that can be read: of a generation but the last, and at most one row and one column beside a grid of 64
pub record IsTarget (p : PosedProblem) (target : Target) : Type 0 where
  pub generation : target.t + 1 < p.posed.generations
  pub line : target.line < 66
  pub column : target.column < 66
