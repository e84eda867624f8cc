-- Cubes of rows: those that agree with a value in some bits.
use Rattle.std.specs.Prelude.{ℕ, ◌-◌, ◌^◌, ◌==◌, Bool, bit_and}
use Rattle.lls_cube.specs.declared.cube.Cube.{Cube}

-- whether the row agrees with the value in every bit that the cube cares for
abbrev pub contains : ℕ → Cube → Bool
contains row cube = bit_and row cube.care == bit_and cube.value cube.care

-- the cube of one row of so many inputs: it cares for all of them
abbrev pub row_cube : ℕ → ℕ → Cube
row_cube inputs row = record { care = 2 ^ inputs - 1; value = row }
