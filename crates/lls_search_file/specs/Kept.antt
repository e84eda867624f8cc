-- For private contracts alone: what stays true while a search file is read or printed.
use Rattle.std.specs.Prelude.{◌≡◌, ◌<◌, ◌≤◌, ℕ, ◌+◌, ◌*◌, nat_lt, Bool, true, if◌then◌else◌, List, [], ◌∷◌, ◌++◌, length, map, Option, None, Some, slice_index_or}
use Rattle.std.specs.Borrow.{Bor}
use Rattle.std.specs.List.{list_all, list_any}
use Rattle.std.specs.Option.{option_map_or}
use Rattle.lls_grid.specs.declared.history.TheConstants.History.{MOST_GENERATIONS, MOST_HEIGHT, MOST_WIDTH, MOST_CELLS}
use Rattle.lls_search_file.specs.declared.cell.Cell.{Cell}
use Rattle.lls_search_file.specs.declared.cell.Kind.{Kind}
use Rattle.lls_search_file.specs.declared.cell.Kind.TheVariants.{Dead, Live, Free, Named, Negated}
use Rattle.lls_search_file.specs.declared.shape.Shape.{Shape}
use Rattle.lls_search_file.specs.Posed.{is_name, name_of, same_text, are_distinct, are_numbered}
use Rattle.lls_search_file.specs.Words.{Said, dead, live, free, named, negated, Word}

-- how many rows the generations have that have ended
abbrev pub rows_ended : Option ℕ → ℕ → ℕ
rows_ended None ended = 0
rows_ended (Some height) ended = height * ended

-- sizes within the limits, and a cell for each place of the rows
pub record IsShape (s : Shape) : Type 0 where
  pub unbegun : s.width ≡ None → (s.height ≡ None) × (s.rows ≡ 0) × (s.cells ≡ 0)
  pub width : (width : ℕ) → s.width ≡ Some width → (1 ≤ width) × (width ≤ MOST_WIDTH) × (s.cells ≡ width * (rows_ended s.height s.ended + s.rows))
  pub first : s.height ≡ None → (s.ended ≡ 0) × (s.rows ≤ MOST_HEIGHT)
  pub height : (height : ℕ) → s.height ≡ Some height → (1 ≤ height) × (height ≤ MOST_HEIGHT) × (s.rows ≤ height) × (1 ≤ s.ended)
  pub ended : s.ended ≤ MOST_GENERATIONS
  pub begun : 0 < s.rows → s.ended < MOST_GENERATIONS
  pub most : s.cells ≤ MOST_CELLS

-- the word of a cell, with its name in place of the name's number
abbrev pub said_in : List (List ℕ) → Kind → Said
said_in names Dead = dead
said_in names Live = live
said_in names Free = free
said_in names (Named n) = named (slice_index_or names n [])
said_in names (Negated n) = negated (slice_index_or names n [])

abbrev pub word_in : List (List ℕ) → Cell → Word
word_in names cell = record { mark = cell.mark; says = said_in names cell.kind }

abbrev pub words_in : List (List ℕ) → List Cell → List Word
words_in names cells = map (word_in names) cells

-- names that are distinct, spelled as names, and numbered by the cells
pub record IsNumbered (names : List (List ℕ)) (cells : List Cell) : Type 0 where
  pub distinct : are_distinct names ≡ true
  pub spelled : list_all is_name names ≡ true
  pub numbered : are_numbered cells (length names) (Some 0) ≡ true

-- names after one that may be new
abbrev pub with_name : List (List ℕ) → Option (List ℕ) → List (List ℕ)
with_name names None = names
with_name names (Some name) = if list_any (same_text name) names then names else names ++ name ∷ []

-- a word's name is spelled as a name
abbrev pub is_said_spelled : Said → Bool
is_said_spelled dead = true
is_said_spelled live = true
is_said_spelled free = true
is_said_spelled (named name) = is_name name
is_said_spelled (negated name) = is_name name

abbrev pub is_spelled : Word → Bool
is_spelled word = is_said_spelled word.says

-- texts without where they lie in memory
abbrev pub texts : List (Bor (List ℕ)) → List (List ℕ)
texts keys = map (λ key. key.now) keys

-- sizes, cells and names that go together
pub record IsKept (shape : Shape) (names : List (List ℕ)) (cells : List Cell) : Type 0 where
  pub sizes : IsShape shape
  pub count : length cells ≡ shape.cells
  pub numbered : IsNumbered names cells

-- a cell's name, where it has one, is among that many
abbrev pub is_named_within : ℕ → Cell → Bool
is_named_within count cell = option_map_or (λ number. nat_lt number count) (name_of cell.kind) true
