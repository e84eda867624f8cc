-- A table as the list of its rows' answers: whether the row is forbidden.
use Rattle.std.specs.Prelude.{ℕ, Bool, false, List, length, filter, slice_index_or}
use Rattle.std.specs.List.{range_with_len}

-- whether a row is forbidden; past the table's end none is
abbrev pub is_forbidden : List Bool → ℕ → Bool
is_forbidden table row = slice_index_or table row false

-- the forbidden rows, ascending
abbrev pub forbidden_rows : List Bool → List ℕ
forbidden_rows table = filter (is_forbidden table) (range_with_len 0 (length table))
