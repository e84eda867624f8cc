-- A posed file: sizes, cells and the names that tie cells together.
use Rattle.std.specs.Prelude.{◌≡◌, ◌≤◌, ℕ, ◌+◌, ◌*◌, Bool, true, false, not, List, [], ◌∷◌, length, Option, None, Some, nat_lt, nat_le, ◌==◌, ◌&&◌, if◌then◌else◌}
use Rattle.std.specs.List.{list_all, list_any}
use Rattle.std.specs.Char.{is_ascii_alphabetic, is_ascii_alphanumeric}
use Rattle.lls_grid.specs.declared.history.TheConstants.History.{MOST_GENERATIONS, MOST_HEIGHT, MOST_WIDTH, MOST_CELLS}
use Rattle.lls_grid.specs.declared.sizes.Sizes.{Sizes}
use Rattle.lls_search_file.specs.declared.cell.Cell.{Cell}
use Rattle.lls_search_file.specs.declared.cell.Kind.{Kind}
use Rattle.lls_search_file.specs.declared.cell.Kind.TheVariants.{Dead, Live, Free, Named, Negated}
use Rattle.lls_search_file.specs.declared.posed.TheConstants.Names.{MOST_BYTES}

-- Cells stand in the order generation, row, column, and names in the order of their first cells.
pub record PosedFile : Type 0 where
  pub generations : ℕ
  pub height : ℕ
  pub width : ℕ
  pub cells : List Cell
  pub names : List (List ℕ)

abbrev pub sizes_of : PosedFile → Sizes
sizes_of file = record { generations = file.generations; height = file.height; width = file.width }

-- the number of a cell's name
abbrev pub name_of : Kind → Option ℕ
name_of Dead = None
name_of Live = None
name_of Free = None
name_of (Named n) = Some n
name_of (Negated n) = Some n

-- how many names there are after a cell, where there were `next` before it: a new name has the number `next`
abbrev pub names_after : Option ℕ → ℕ → Option ℕ
names_after None next = Some next
names_after (Some n) next = if nat_lt n next then Some next else if n == next then Some (next + 1) else None

-- the names of the cells are numbered from `next` on by first appearance, and there are `count`
abbrev pub are_numbered : List Cell → ℕ → Option ℕ → Bool
are_numbered cells count None = false
are_numbered [] count (Some next) = next == count
are_numbered (cell ∷ cells) count (Some next) = are_numbered cells count (names_after (name_of cell.kind) next)

-- an ASCII letter and then ASCII letters or digits, not too many
abbrev pub is_name : List ℕ → Bool
is_name [] = false
is_name (b ∷ bs) = is_ascii_alphabetic b && list_all is_ascii_alphanumeric bs && nat_le (length (b ∷ bs)) MOST_BYTES

-- two texts are the same
abbrev pub same_text : List ℕ → List ℕ → Bool
same_text [] [] = true
same_text [] (b ∷ bs) = false
same_text (a ∷ rest) [] = false
same_text (a ∷ rest) (b ∷ bs) = (a == b) && same_text rest bs

abbrev pub are_distinct : List (List ℕ) → Bool
are_distinct [] = true
are_distinct (name ∷ names) = not (list_any (same_text name) names) && are_distinct names

-- what every posed file keeps
pub record IsPosed (file : PosedFile) : Type 0 where
  pub generations : (1 ≤ file.generations) × (file.generations ≤ MOST_GENERATIONS)
  pub height : (1 ≤ file.height) × (file.height ≤ MOST_HEIGHT)
  pub width : (1 ≤ file.width) × (file.width ≤ MOST_WIDTH)
  pub count : length file.cells ≡ file.width * (file.height * file.generations)
  pub most : length file.cells ≤ MOST_CELLS
  pub distinct : are_distinct file.names ≡ true
  pub spelled : list_all is_name file.names ≡ true
  pub numbered : are_numbered file.cells (length file.names) (Some 0) ≡ true
