-- The RLE text of a generation.
use Rattle.std.specs.Prelude.{ℕ, ◌+◌, ◌==◌, nat_lt, Bool, true, false, codes, decimal, if◌then◌else◌, List, [], ◌∷◌, ◌++◌, length, map}
use Rattle.lls_hensel.specs.Printing.{rule_text}
use Rattle.lls_grid.specs.History.{History, rows_at, height_of, width_of}
use Rattle.lls_rle.specs.declared.item.Tag.{Tag}
use Rattle.lls_rle.specs.declared.item.Tag.TheVariants.{Dead, Live, RowEnd}
use Rattle.lls_rle.specs.declared.item.Item.{Item}

abbrev pub single : Tag → Item
single tag = record { count = 1; tag = tag }

abbrev pub longer : Item → Item
longer item = record item { count = item.count + 1 }

-- a cell before the items of those behind it: dead cells at a row's end are left out
abbrev pub before_item : Bool → Item → Tag → List Item → List Item
before_item true item Live items = longer item ∷ items
before_item true item Dead items = single Live ∷ item ∷ items
before_item true item RowEnd items = single Live ∷ item ∷ items
before_item false item Live items = single Dead ∷ item ∷ items
before_item false item Dead items = longer item ∷ items
before_item false item RowEnd items = item ∷ items

abbrev pub before_cell : Bool → List Item → List Item
before_cell live [] = if live then single Live ∷ [] else []
before_cell live (item ∷ items) = before_item live item item.tag items

-- the cells of a row before the items of the rows below
abbrev pub before_row : List Bool → List Item → List Item
before_row [] below = below
before_row (live ∷ cells) below = before_cell live (before_row cells below)

-- a row's end before the items of the rows below: several are one item, and rows without live cells at the end are left out
abbrev pub before_ends : Item → Tag → List Item → List Item
before_ends item RowEnd items = longer item ∷ items
before_ends item Live items = single RowEnd ∷ item ∷ items
before_ends item Dead items = single RowEnd ∷ item ∷ items

abbrev pub before_end : List Item → List Item
before_end [] = []
before_end (item ∷ items) = before_ends item item.tag items

-- the items of rows
abbrev pub items_of_rows : List (List Bool) → List Item
items_of_rows [] = []
items_of_rows (row ∷ rows) = before_row row (before_end (items_of_rows rows))

abbrev pub tag_text : Tag → List ℕ
tag_text Dead = codes "b"
tag_text Live = codes "o"
tag_text RowEnd = codes "$"

-- a count of 1 is left out
abbrev pub item_text : Item → List ℕ
item_text item = (if item.count == 1 then [] else decimal item.count) ++ tag_text item.tag

-- texts one after another, the first behind so many bytes of its line; no line is longer than 70 bytes, unless one text is
abbrev pub wrapped : ℕ → List (List ℕ) → List ℕ
wrapped used [] = []
wrapped used (text ∷ texts) =
    if nat_lt 70 (used + length text) then 10 ∷ text ++ wrapped (length text) texts else text ++ wrapped (used + length text) texts

-- the items and `!`
abbrev pub body_text : List Item → List ℕ
body_text items = wrapped 0 (map item_text items ++ codes "!" ∷ []) ++ 10 ∷ []

abbrev pub header_text : ℕ → ℕ → List ℕ → List ℕ
header_text width height rule = codes "x = " ++ decimal width ++ codes ", y = " ++ decimal height ++ codes ", rule = " ++ rule ++ 10 ∷ []

abbrev pub rle_text : List Bool → History → ℕ → List ℕ
rle_text rule history t = header_text (width_of history) (height_of history) (rule_text rule) ++ body_text (items_of_rows (rows_at history t))
