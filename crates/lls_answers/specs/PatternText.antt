-- A pattern as a search prints it: its rows, or a picture of each generation.
use Rattle.std.specs.Prelude.{ℕ, Bool, true, false, List, length}
use Rattle.std.specs.List.{flat_map, range_with_len}
use Rattle.lls_grid.specs.History.{History}
use Rattle.lls_grid.specs.Text.{history_text}
use Rattle.lls_rle.specs.Printing.{rle_text}

-- the pictures of the generations in their order
abbrev pub pictures_text : List Bool → History → List ℕ
pictures_text rule history = flat_map (rle_text rule history) (range_with_len 0 (length history))

abbrev pub pattern_text : Bool → List Bool → History → List ℕ
pattern_text true rule history = pictures_text rule history
pattern_text false rule history = history_text history
