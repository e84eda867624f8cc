-- For private contracts alone: how a table keeps its rows in words.
use Rattle.std.specs.Prelude.{◌≡◌, ℕ, ◌*◌, ◌/◌, ◌%◌, ◌^◌, ◌≤◌, ◌==◌, Bool, List, map, length, slice_index}
use Rattle.std.specs.List.{range_with_len}
use Rattle.std.specs.Int.{bit_at}
use Rattle.lls_cube.specs.declared.table.TheConstants.{WORD_BITS, LEAST_INPUTS, MOST_INPUTS}

-- the bit of a row
abbrev pub bit_in : List ℕ → ℕ → Bool
bit_in words row = bit_at (slice_index words (row / WORD_BITS)) (row % WORD_BITS) == 1

-- all bits
unfoldable pub table_in : List ℕ → List Bool
table_in words = map (bit_in words) (range_with_len 0 (WORD_BITS * length words))

-- as many words as make a row for each assignment of the inputs
pub record AreWords (inputs count : ℕ) (words : List ℕ) : Type 0 where
  pub words_are : length words ≡ count
  pub rows_are : WORD_BITS * count ≡ 2 ^ inputs
  pub least : LEAST_INPUTS ≤ inputs
  pub most : inputs ≤ MOST_INPUTS
