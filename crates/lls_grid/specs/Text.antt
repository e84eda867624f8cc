-- The text of a history.
use Rattle.std.specs.Prelude.{ℕ, Bool, codes, if◌then◌else◌, List, [], ◌∷◌, ◌++◌, map, flat_map}
use Rattle.std.specs.List.{join_with_byte}
use Rattle.lls_grid.specs.History.{History}

-- a blank, and LF, which ends a line
abbrev pub blank : ℕ
blank = 32

abbrev pub line_feed : ℕ
line_feed = 10

-- the words of a row, separated by one blank, and LF
abbrev pub row_text : List (List ℕ) → List ℕ
row_text words = join_with_byte blank words ++ line_feed ∷ []

abbrev pub rows_text : List (List (List ℕ)) → List ℕ
rows_text rows = flat_map row_text rows

-- generations of rows of words, with an empty line between two generations
abbrev pub text_of : List (List (List (List ℕ))) → List ℕ
text_of generations = join_with_byte line_feed (map rows_text generations)

-- a dead cell is `0` and a live one `1`
abbrev pub digit_word : Bool → List ℕ
digit_word live = if live then codes "1" else codes "0"

abbrev pub history_text : History → List ℕ
history_text history = text_of (map (map (map digit_word)) history)
