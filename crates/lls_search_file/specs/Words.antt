-- The words of a row and the cells that they stand for.
use Rattle.std.specs.Prelude.{ℕ, ◌+◌, ◌-◌, ◌==◌, ◌&&◌, ◌||◌, codes, Bool, true, false, not, if◌then◌else◌, List, [], ◌∷◌, length, take, slice_index, Option, None, Some, Result, Ok, Err}
use Rattle.std.specs.Option.{option_map}
use Rattle.std.specs.List.{position}
use Rattle.std.specs.Char.{is_ascii}
use Rattle.lls_base.specs.Results.{and_then}
use Rattle.lls_text.specs.Words.{is_blank}
use Rattle.lls_search_file.specs.declared.posed_fault.PosedFault.{PosedFault}
use Rattle.lls_search_file.specs.declared.posed_fault.PosedFault.TheVariants.{BadCell, NotAscii}
use Rattle.lls_search_file.specs.Posed.{is_name, same_text}

-- the bytes with a meaning of their own: `,` between cells, `-` before a name, `'` behind a marked cell
abbrev pub comma_byte : ℕ
comma_byte = 44

abbrev pub minus_byte : ℕ
minus_byte = 45

abbrev pub mark_byte : ℕ
mark_byte = 39

-- what a word says of a cell's value, with the name itself where it is a name
pub data Said : Type 0 where
  dead : Said
  live : Said
  free : Said
  named : List ℕ → Said
  negated : List ℕ → Said

-- a cell as its word says it
pub record Word : Type 0 where
  pub mark : Bool
  pub says : Said

-- `-` and a name
abbrev pub negated_name : List ℕ → Option Said
negated_name [] = None
negated_name (b ∷ name) = if b == minus_byte && is_name name then Some (negated name) else None

-- a name, or `-` and a name
abbrev pub name_said_of : List ℕ → Option Said
name_said_of body = if is_name body then Some (named body) else negated_name body

-- what a word without its mark says: `0`, `1`, `*`, a name, or `-` and a name
abbrev pub said_of : List ℕ → Option Said
said_of body =
    if same_text body (codes "0") then Some dead else
    if same_text body (codes "1") then Some live else
    if same_text body (codes "*") then Some free else
    name_said_of body

abbrev pub marked : Bool → Said → Word
marked mark says = record { mark = mark; says = says }

-- a `'` at the end of a word
abbrev pub has_mark : List ℕ → Bool
has_mark word = slice_index word (length word - 1) == mark_byte

-- the cell of a word, where it is one
abbrev pub word_of : List ℕ → Option Word
word_of word =
    if has_mark word then option_map (marked true) (said_of (take (length word - 1) word)) else option_map (marked false) (said_of word)

-- a row is made of words and commas, each at the column of its first byte
pub data Piece : Type 0 where
  word : ℕ → List ℕ → Piece
  comma : ℕ → Piece

abbrev pub is_comma : ℕ → Bool
is_comma b = b == comma_byte

-- a byte that belongs to a word
abbrev pub is_of_word : ℕ → Bool
is_of_word b = not (is_blank b || is_comma b)

abbrev pub begins_in_word : List ℕ → Bool
begins_in_word [] = false
begins_in_word (b ∷ bs) = is_of_word b

-- a byte of a word before the pieces behind it: it begins a word of its own, unless a word follows at once
abbrev pub before_word : ℕ → ℕ → List Piece → List Piece
before_word column b [] = word column (b ∷ []) ∷ []
before_word column b (comma c ∷ pieces) = word column (b ∷ []) ∷ comma c ∷ pieces
before_word column b (word c bytes ∷ pieces) = word column (b ∷ bytes) ∷ pieces

abbrev pub before_pieces : ℕ → ℕ → Bool → List Piece → List Piece
before_pieces column b joined pieces =
    if is_blank b then pieces else
    if is_comma b then comma column ∷ pieces else
    if joined then before_word column b pieces else word column (b ∷ []) ∷ pieces

-- the pieces of a row whose first byte has a column
abbrev pub pieces_of : ℕ → List ℕ → List Piece
pieces_of column [] = []
pieces_of column (b ∷ bs) = before_pieces column b (begins_in_word bs) (pieces_of (column + 1) bs)

-- a cell before the cells behind it
abbrev pub cell_before : ℕ → ℕ → Option Word → Result (List Word) PosedFault → Result (List Word) PosedFault
cell_before line column None cells = Err (BadCell line column)
cell_before line column (Some cell) cells = and_then cells (λ behind. Ok (cell ∷ behind))

-- the cells of a row's pieces: no comma stands before the first cell or behind another comma
abbrev pub cells_read : ℕ → Bool → List Piece → Result (List Word) PosedFault
cells_read line after_comma [] = Ok []
cells_read line after_comma (comma column ∷ pieces) = if after_comma then Err (BadCell line column) else cells_read line true pieces
cells_read line after_comma (word column bytes ∷ pieces) = cell_before line column (word_of bytes) (cells_read line false pieces)

-- every byte of a row is ASCII
abbrev pub ascii_or : ℕ → Option ℕ → Result (List Word) PosedFault → Result (List Word) PosedFault
ascii_or line None cells = cells
ascii_or line (Some index) cells = Err (NotAscii line (index + 1))

-- the cells of a row, or its first fault
abbrev pub row_of : ℕ → List ℕ → Result (List Word) PosedFault
row_of line bytes = ascii_or line (position (λ b. not (is_ascii b)) bytes) (cells_read line true (pieces_of 1 bytes))
