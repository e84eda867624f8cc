-- A problem with a solution, from a number.
use Rattle.std.specs.Prelude.{ℕ, ◌+◌, ◌*◌, ◌^◌, Bool, List, [], map}
use Rattle.lls_rule.specs.Rule.{table_of, by_counts}
use Rattle.lls_grid.specs.History.{History, folded, rows_at, cells_of_rows}
use Rattle.lls_grid.specs.Evolution.{evolution}
use Rattle.lls_search_file.specs.declared.cell.Cell.{Cell}
use Rattle.lls_search_file.specs.Posed.{PosedFile}
use Rattle.lls_problem.specs.declared.demands.Edge.TheVariants.{Bare}
use Rattle.lls_problem.specs.Problem.{PosedProblem, edge_alone}
use Rattle.lls_gen.specs.declared.making.Made.{Made}
use Rattle.lls_gen.specs.Numbers.{numbers}
use Rattle.lls_gen.specs.Drawing.{is_live, cells_of_both}

-- the greatest size that can be made
abbrev pub most_size : ℕ
most_size = 64

-- Life: born of three live neighbours, alive with two or three
abbrev pub life : List Bool
life = table_of (by_counts (2 ^ 3) (2 ^ 2 + 2 ^ 3))

-- row by row, one number for each cell
abbrev pub first_generation : ℕ → ℕ → History
first_generation seed size = folded 1 size size (map is_live (numbers seed (size * size)))

-- and one generation more by the rule
unfoldable pub made_history : ℕ → ℕ → History
made_history seed size = evolution life 2 (first_generation seed size)

-- two generations, without names
abbrev pub posed_of : ℕ → List Cell → PosedFile
posed_of size cells = record { generations = 2; height = size; width = size; cells = cells; names = [] }

-- the second generation is known whole
abbrev pub made_posed : ℕ → ℕ → PosedFile
made_posed seed size = posed_of size (cells_of_both (numbers seed (size * size)) (cells_of_rows (rows_at (made_history seed size) 1)))

-- under an open edge, with nothing else demanded
unfoldable pub made_problem : ℕ → ℕ → PosedProblem
made_problem seed size = record { posed = made_posed seed size; rule = life; demands = edge_alone Bare }

abbrev pub made : ℕ → ℕ → Made
made seed size = record { problem = made_problem seed size; history = made_history seed size }
