-- The first cells of the names.
use Rattle.std.specs.Prelude.{ℕ, ℤ, List, map, take, Option}
use Rattle.std.specs.Option.{option_map}
use Rattle.std.specs.List.{range_with_len, position_from}
use Rattle.lls_search_file.specs.declared.cell.Cell.{Cell}
use Rattle.lls_problem.specs.Solution.{cell_number}
use Rattle.lls_encode.specs.Formula.{has_name, name_literal}

-- the literal of the first of k cells that has the name
abbrev pub first_literal : List Cell → ℕ → ℕ → Option ℤ
first_literal cells k name = option_map (λ first. name_literal first (cell_number cells first).kind) (position_from (has_name name) 0 (take k cells))

-- name by name
abbrev pub first_literals : List Cell → ℕ → ℕ → List (Option ℤ)
first_literals cells k names = map (first_literal cells k) (range_with_len 0 names)
