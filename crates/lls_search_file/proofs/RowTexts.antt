-- The rows of a printed file, and what they read as.
use Rattle.std.proofs.Common.{◌≡◌, ◌<◌, ◌≤◌, ℕ, ◌+◌, leb, eqb, Bool, true, false, not, ◌&&◌, List, [], ◌∷◌, ◌++◌, length, map, None, Some, Ok, refl, sym, ap, ◌∙◌, arith, append_assoc, append-nil}
use Rattle.std.specs.List.{list_all, prefix_len, position, join_with_byte}
use Rattle.std.specs.Char.{is_ascii}
use Rattle.std.proofs.lemmas.Bool.{and_parts, and_from, or_from, not-true, leb-true, le-leb, lt-ltb, le-ltb, ne_eqb}
use Rattle.std.proofs.lemmas.List.Folds.{list_all-append}
use Rattle.lls_base.specs.Results.{and_then}
use Rattle.lls_text.specs.Lines.{lines_of, line_feed, is_blank_line, begins_with}
use Rattle.lls_text.specs.Words.{is_blank}
use Rattle.lls_text.proofs.Printed.{list_all-weaker, lines_of-line}
use Rattle.lls_grid.specs.Text.{blank, rows_text}
use Rattle.lls_search_file.specs.declared.cell.Cell.{Cell}
use Rattle.lls_search_file.specs.Words.{comma_byte, mark_byte, is_of_word, pieces_of, cells_read, cell_before, row_of, ascii_or}
use Rattle.lls_search_file.specs.Reading.{hash}
use Rattle.lls_search_file.specs.Counted.{Counts, line_taken, with_words}
use Rattle.lls_search_file.specs.Kept.{word_in, words_in, is_spelled}
use Rattle.lls_search_file.specs.Printing.{word_text}
use Rattle.lls_search_file.proofs.Pieces.{word_then}
use Rattle.lls_search_file.proofs.WordTexts.{is_word_byte, word_all, some_word, word_reads}

-- a row's line without its LF
abbrev pub line_of : List (List ℕ) → List Cell → List ℕ
line_of names cells = join_with_byte blank (map (word_text names) cells)

-- the names of cells are spelled as names
abbrev pub are_spelled : List (List ℕ) → List Cell → Bool
are_spelled names cells = list_all (λ cell. is_spelled (word_in names cell)) cells

-- a byte of a row
abbrev pub is_row_byte : ℕ → Bool
is_row_byte b = leb blank b && leb b 122

-- what a byte of a word is: not below `'`, not above 122, no comma
word_byte : (b : ℕ) → is_word_byte b ≡ true → (mark_byte ≤ b) × (b ≤ 122) × (eqb b comma_byte ≡ false)
word_byte b e =
    let outer = and_parts (leb mark_byte b) (leb b 122 && not (eqb b comma_byte)) e in
    let inner = and_parts (leb b 122) (not (eqb b comma_byte)) outer.1 in
    (leb-true mark_byte b outer.0, leb-true b 122 inner.0, not-true (eqb b comma_byte) inner.1)

not_blank : (b : ℕ) → is_word_byte b ≡ true → is_blank b ≡ false
not_blank b e = or_from _ _ (above _ (omega arith)) (above _ (omega arith))
  where
    above : (low : ℕ) → low < mark_byte → eqb b low ≡ false
    above low below = ne_eqb b low (λ same. absurd (omega (arith, (word_byte b e).0, below, same)))

byte_of_word : (b : ℕ) → is_word_byte b ≡ true → is_of_word b ≡ true
byte_of_word b e = rw (not_blank b e, (word_byte b e).2) refl

row_byte : (b : ℕ) → is_word_byte b ≡ true → is_row_byte b ≡ true
row_byte b e =
    let facts = word_byte b e in
    and_from (leb blank b) (leb b 122) (le-leb blank b (omega (arith, facts.0))) (le-leb b 122 facts.1)

-- a printed row reads as its cells
line_reads : (names : List (List ℕ)) (number column : ℕ) (after_comma : Bool) (cells : List Cell) → are_spelled names cells ≡ true
    → cells_read number after_comma (pieces_of column (line_of names cells)) ≡ Ok (words_in names cells)
line_reads names number column after_comma [] e = refl
line_reads names number column after_comma (cell ∷ cells) e = behind cells (λ column. line_reads names number column false cells (and_parts (is_spelled (word_in names cell)) (are_spelled names cells) e).1)
  where
    behind : (rest : List Cell) → ((column : ℕ) → cells_read number false (pieces_of column (line_of names rest)) ≡ Ok (words_in names rest))
        → cells_read number after_comma (pieces_of column (line_of names (cell ∷ rest))) ≡ Ok (words_in names (cell ∷ rest))
    behind [] more =
        let spelled = (and_parts (is_spelled (word_in names cell)) (are_spelled names cells) e).0 in
        let word = word_text names cell in
        let solid : list_all is_of_word word ≡ true = list_all-weaker is_word_byte is_of_word byte_of_word word (word_all names cell spelled) in
        ap (λ bytes. cells_read number after_comma (pieces_of column bytes)) (sym (append-nil word)) ∙
        (ap (cells_read number after_comma) (word_then column word [] (some_word names cell spelled) solid refl) ∙
        ap (λ w. cell_before number column w (Ok [])) (word_reads names cell spelled))
    behind (next ∷ rest) more =
        let spelled = (and_parts (is_spelled (word_in names cell)) (are_spelled names cells) e).0 in
        let word = word_text names cell in
        let line = line_of names (next ∷ rest) in
        let solid : list_all is_of_word word ≡ true = list_all-weaker is_word_byte is_of_word byte_of_word word (word_all names cell spelled) in
        ap (cells_read number after_comma) (word_then column word (blank ∷ line) (some_word names cell spelled) solid refl) ∙
        (ap (λ w. cell_before number column w (cells_read number false (pieces_of ((column + length word) + 1) line))) (word_reads names cell spelled) ∙
        ap (cell_before number column (Some (word_in names cell))) (more ((column + length word) + 1)))

-- the bytes of a printed row
line_bytes : (names : List (List ℕ)) (cells : List Cell) → are_spelled names cells ≡ true → list_all is_row_byte (line_of names cells) ≡ true
line_bytes names [] e = refl
line_bytes names (cell ∷ cells) e = behind cells (line_bytes names cells (and_parts (is_spelled (word_in names cell)) (are_spelled names cells) e).1)
  where
    behind : (rest : List Cell) → list_all is_row_byte (line_of names rest) ≡ true → list_all is_row_byte (line_of names (cell ∷ rest)) ≡ true
    behind [] more =
        list_all-weaker is_word_byte is_row_byte row_byte (word_text names cell) (word_all names cell (and_parts (is_spelled (word_in names cell)) (are_spelled names cells) e).0)
    behind (next ∷ rest) more =
        let word = list_all-weaker is_word_byte is_row_byte row_byte (word_text names cell) (word_all names cell (and_parts (is_spelled (word_in names cell)) (are_spelled names cells) e).0) in
        list_all-append is_row_byte (word_text names cell) (blank ∷ line_of names (next ∷ rest)) ∙ rw (word, more) refl

-- every byte of it is ASCII
low_front : (bytes : List ℕ) → list_all is_row_byte bytes ≡ true → prefix_len (λ b. not (not (is_ascii b))) bytes ≡ length bytes
low_front [] e = refl
low_front (b ∷ bytes) e =
    let parts = and_parts (is_row_byte b) (list_all is_row_byte bytes) e in
    let low = lt-ltb b 128 (omega (arith, leb-true b 122 (and_parts (leb blank b) (leb b 122) parts.0).1)) in
    rw (low, low_front bytes parts.1) (omega arith)

no_high : (bytes : List ℕ) → list_all is_row_byte bytes ≡ true → position (λ b. not (is_ascii b)) bytes ≡ None
no_high bytes e =
    let not_below = le-ltb (length bytes) (length bytes) (omega arith) in
    rw (low_front bytes e, not_below) refl

-- it begins with a byte of a word
begins_word : List ℕ → Bool
begins_word [] = false
begins_word (b ∷ bytes) = is_word_byte b

word_first : (front rest : List ℕ) → 0 < length front → list_all is_word_byte front ≡ true → begins_word (front ++ rest) ≡ true
unfolding begins_word
word_first [] rest some all = absurd (omega arith)
word_first (b ∷ front) rest some all = (and_parts (is_word_byte b) (list_all is_word_byte front) all).0

line_begins : (names : List (List ℕ)) (cell : Cell) (cells : List Cell) → is_spelled (word_in names cell) ≡ true → begins_word (line_of names (cell ∷ cells)) ≡ true
line_begins names cell [] e =
    ap begins_word (sym (append-nil (word_text names cell))) ∙ word_first (word_text names cell) [] (some_word names cell e) (word_all names cell e)
line_begins names cell (next ∷ cells) e =
    word_first (word_text names cell) (blank ∷ line_of names (next ∷ cells)) (some_word names cell e) (word_all names cell e)

no_comment : (bytes : List ℕ) → begins_word bytes ≡ true → begins_with hash bytes ≡ false
unfolding begins_word
no_comment [] e = cc
no_comment (b ∷ bytes) e =
    rw (not_blank b e) (ne_eqb b hash (λ same. absurd (omega (arith, (word_byte b e).0, same))))

no_separator : (bytes : List ℕ) → begins_word bytes ≡ true → is_blank_line bytes ≡ false
unfolding begins_word
no_separator [] e = cc
no_separator (b ∷ bytes) e = rw (not_blank b e) refl

-- a printed row is taken with its words
pub row_taken : (names : List (List ℕ)) (number : ℕ) (cells : List Cell) (counts : Counts) → 0 < length cells → are_spelled names cells ≡ true
    → line_taken number (line_of names cells) counts ≡ with_words number counts (words_in names cells)
row_taken names number [] counts some e = absurd (omega arith)
row_taken names number (cell ∷ cells) counts some e =
    let line = line_of names (cell ∷ cells) in
    let begins = line_begins names cell cells (and_parts (is_spelled (word_in names cell)) (are_spelled names cells) e).0 in
    let read : row_of number line ≡ Ok (words_in names (cell ∷ cells)) =
    ap (λ place. ascii_or number place (cells_read number true (pieces_of 1 line))) (no_high line (line_bytes names (cell ∷ cells) e)) ∙ line_reads names number 1 true (cell ∷ cells) e in
    rw (no_comment line begins, no_separator line begins) (ap (λ read. and_then read (with_words number counts)) read)

-- the lines of a text that begins with a printed row
lines_row : (line rest : List ℕ) → list_all is_row_byte line ≡ true → lines_of (line ++ line_feed ∷ rest) ≡ line ∷ lines_of rest
lines_row line rest e = lines_of-line is_row_byte line rest refl refl e

-- every row's names are spelled
abbrev pub rows_spelled : List (List ℕ) → List (List Cell) → Bool
rows_spelled names rows = list_all (are_spelled names) rows

-- the lines of a text that begins with printed rows
pub lines_rows : (names : List (List ℕ)) (rows : List (List Cell)) (rest : List ℕ) → rows_spelled names rows ≡ true
    → lines_of (rows_text (map (map (word_text names)) rows) ++ rest) ≡ map (line_of names) rows ++ lines_of rest
lines_rows names [] rest e = refl
lines_rows names (row ∷ rows) rest e =
    let parts = and_parts (are_spelled names row) (rows_spelled names rows) e in
    let line = line_of names row in
    let more = rows_text (map (map (word_text names)) rows) in
    let split : ((line ++ line_feed ∷ []) ++ more) ++ rest ≡ line ++ (line_feed ∷ (more ++ rest)) =
    append_assoc (line ++ line_feed ∷ []) more rest ∙ append_assoc line (line_feed ∷ []) (more ++ rest) in
    ap lines_of split ∙ (lines_row line (more ++ rest) (line_bytes names row parts.0) ∙ ap (λ lines. line ∷ lines) (lines_rows names rows rest parts.1))
