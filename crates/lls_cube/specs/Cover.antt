-- The cover of a table: few cubes that contain just its forbidden rows, chosen row by row.
use Rattle.std.specs.Prelude.{ℕ, ◌-◌, ◌^◌, ◌||◌, ◌&&◌, Bool, not, List, [], ◌∷◌, ◌++◌, length, fold, bit_and, if◌then◌else◌}
use Rattle.std.specs.List.{range_with_len, list_all, list_any}
use Rattle.lls_cube.specs.declared.cube.Cube.{Cube}
use Rattle.lls_cube.specs.Cube.{contains, row_cube}
use Rattle.lls_cube.specs.Table.{is_forbidden}

-- whether every one of these rows that the cube contains is forbidden
unfoldable pub forbids_between : List Bool → Cube → ℕ → ℕ → Bool
forbids_between table cube from count = list_all (λ row. not (contains row cube) || is_forbidden table row) (range_with_len from count)

-- whether every row of the table that the cube contains is forbidden
abbrev pub forbids_all : List Bool → Cube → Bool
forbids_all table cube = forbids_between table cube 0 (length table)

-- all of so many inputs but the ith
abbrev pub all_but : ℕ → ℕ → ℕ
all_but inputs i = 2 ^ inputs - 1 - 2 ^ (inputs - 1 - i)

-- the wider cube that doesn't care for the ith input
abbrev pub without : ℕ → ℕ → Cube → Cube
without inputs i cube = record { care = bit_and cube.care (all_but inputs i); value = bit_and cube.value (all_but inputs i) }

-- the cube after its ith input was tried, which is dropped where the wider cube contains forbidden rows only
abbrev pub after_input : List Bool → ℕ → Cube → ℕ → Cube
after_input table inputs cube i = if forbids_all table (without inputs i cube) then without inputs i cube else cube

-- the cube that a row chooses: it begins with the row alone, and its inputs are tried from the first to the last
unfoldable pub widest : List Bool → ℕ → ℕ → Cube
widest table inputs row = fold (after_input table inputs) (row_cube inputs row) (range_with_len 0 inputs)

-- the chosen cubes after a row, which chooses one where it is forbidden and in no cube yet
abbrev pub after_row : List Bool → ℕ → List Cube → ℕ → List Cube
after_row table inputs cubes row =
    if is_forbidden table row && not (list_any (contains row) cubes) then cubes ++ widest table inputs row ∷ [] else cubes

-- the chosen cubes after all rows, in their order
unfoldable pub cover_of : List Bool → ℕ → List Cube
cover_of table inputs = fold (after_row table inputs) [] (range_with_len 0 (length table))
