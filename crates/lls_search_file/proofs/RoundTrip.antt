-- The text of a posed file is read as the file.
use Rattle.std.proofs.Common.{◌≡◌, ◌<◌, ◌≤◌, ℕ, zero, suc, ◌+◌, ◌*◌, eqb, Bool, true, false, ◌&&◌, List, [], ◌∷◌, ◌++◌, length, take, drop, get_or, map, flat_map, Option, None, Some, Ok, refl, sym, ap, ◌∙◌, arith, append_assoc, append-nil, take_all, length-take, length-drop}
use Rattle.std.specs.List.{list_all}
use Rattle.std.specs.Option.{option_or}
use Rattle.std.proofs.lemmas.Bool.{and_parts, and_from, le-ltb, ne_eqb, eqb-true, eq-eqb}
use Rattle.std.proofs.lemmas.List.{map-append, length-map}
use Rattle.std.proofs.lemmas.Grind.{flat_map-append}
use Rattle.std.proofs.Math.Nat.{mul-le-mul_left}
use Rattle.lls_base.specs.Results.{and_then}
use Rattle.lls_text.specs.Lines.{lines_of}
use Rattle.lls_grid.specs.declared.history.TheConstants.History.{MOST_GENERATIONS, MOST_HEIGHT, MOST_WIDTH, MOST_CELLS}
use Rattle.lls_grid.specs.Chunks.{chunked}
use Rattle.lls_grid.specs.Text.{line_feed, rows_text, text_of}
use Rattle.lls_grid.proofs.Chunks.{length-chunked, map-chunked, joined-chunked}
use Rattle.lls_search_file.specs.declared.cell.Cell.{Cell}
use Rattle.lls_search_file.specs.declared.cell.Kind.{Kind}
use Rattle.lls_search_file.specs.declared.cell.Kind.TheVariants.{Dead, Live, Free, Named, Negated}
use Rattle.lls_search_file.specs.declared.shape.Shape.{Shape}
use Rattle.lls_search_file.specs.Posed.{PosedFile, IsPosed, name_of, names_after, are_numbered, is_name}
use Rattle.lls_search_file.specs.Words.{Word}
use Rattle.lls_search_file.specs.Reading.{file_sized, posed_of}
use Rattle.lls_search_file.specs.Counted.{Counts, no_shape, ragged, too_high, with_row, with_end, line_taken, lines_taken, at_end, file_of}
use Rattle.lls_search_file.specs.Kept.{IsNumbered, said_in, word_in, words_in, is_spelled, is_said_spelled}
use Rattle.lls_search_file.specs.Printing.{word_text, posed_text}
use Rattle.lls_search_file.proofs.AllItems.{all_take, all_drop, all_chunked}
use Rattle.lls_search_file.proofs.Counting.{posed_of-counted}
use Rattle.lls_search_file.proofs.Numbering.{numbers_lt}
use Rattle.lls_search_file.proofs.Renumbering.{names_of-words_in, cells_said-words_in}
use Rattle.lls_search_file.proofs.RowTexts.{line_of, are_spelled, rows_spelled, row_taken, lines_rows}

-- sizes within the limits
record Fits (generations height width : ℕ) : Type 0 where
  generations_fit : generations ≤ MOST_GENERATIONS
  height_fits : (1 ≤ height) × (height ≤ MOST_HEIGHT)
  width_fits : (1 ≤ width) × (width ≤ MOST_WIDTH)
  most : width * (height * generations) ≤ MOST_CELLS

-- the sizes after t generations and k rows
width_after : ℕ → ℕ → ℕ → Option ℕ
width_after width zero zero = None
width_after width zero (suc k) = Some width
width_after width (suc t) k = Some width

height_after : ℕ → ℕ → Option ℕ
height_after height zero = None
height_after height (suc t) = Some height

shape_at : ℕ → ℕ → ℕ → ℕ → Shape
shape_at height width t k = record { width = width_after width t k; height = height_after height t; ended = t; rows = k; cells = width * (height * t + k) }

and_false : (x : Bool) → (x && false) ≡ false
and_false true = refl
and_false false = refl

same_width : (line width t k : ℕ) → ragged line width (width_after width t k) ≡ None
unfolding width_after
same_width line width zero zero = refl
same_width line width zero (suc k) = rw (eq-eqb width width refl) refl
same_width line width (suc t) k = rw (eq-eqb width width refl) refl

not_high : (height t k : ℕ) → k < height → height ≤ MOST_HEIGHT → too_high k t (height_after height t) ≡ None
unfolding height_after
not_high height zero k lt most = rw (ne_eqb k MOST_HEIGHT (λ same. absurd (omega (arith, lt, most, same)))) refl
not_high height (suc t) k lt most = rw (ne_eqb k height (λ same. absurd (omega (arith, lt, same)))) refl

one_width : (width t k : ℕ) → option_or (width_after width t k) (Some width) ≡ width_after width t (suc k)
unfolding width_after
one_width width zero zero = refl
one_width width zero (suc k) = refl
one_width width (suc t) k = refl

-- one more row fits
row_fits : (generations height width line t k : ℕ) → Fits generations height width → t < generations → k < height
    → with_row line width (shape_at height width t k) ≡ Ok (shape_at height width t (suc k))
unfolding shape_at
row_fits generations height width line t k fits t_in k_in =
    let narrow = le-ltb MOST_WIDTH width (omega (arith, fits.width_fits.1)) in
    let few : (eqb k 0 && eqb t MOST_GENERATIONS) ≡ false = rw (ne_eqb t MOST_GENERATIONS (λ same. absurd (omega (arith, t_in, fits.generations_fit, same)))) (and_false (eqb k 0)) in
    let below : height * t + suc k ≤ height * suc t = omega (arith, k_in) in
    let up : height * suc t ≤ height * generations = mul-le-mul_left height t_in in
    let all : width * (height * t + suc k) ≤ width * (height * generations) = mul-le-mul_left width (omega (arith, below, up)) in
    let cells : width * (height * t + k) + width ≡ width * (height * t + suc k) = omega arith in
    let fewer = le-ltb MOST_CELLS (width * (height * t + k) + width) (omega (arith, all, cells, fits.most)) in
    let more : k + 1 ≡ suc k = omega arith in
    rw (narrow, few, same_width line width t k, not_high height t k k_in fits.height_fits.1, fewer, one_width width t k, cells, more) refl

-- a generation of all its rows ends
end_fits : (height width t : ℕ) → 1 ≤ height → with_end (shape_at height width t height) ≡ Ok (shape_at height width (suc t) 0)
unfolding shape_at width_after height_after
end_fits zero width t some = absurd (omega arith)
end_fits (suc rows) width zero some =
    let open_rows = ne_eqb (suc rows) 0 (λ same. absurd (omega (arith, same))) in
    let cells : width * (suc rows * 0 + suc rows) ≡ width * (suc rows * 1 + 0) = omega arith in
    rw (open_rows, cells) refl
end_fits (suc rows) width (suc t) some =
    let open_rows = ne_eqb (suc rows) 0 (λ same. absurd (omega (arith, same))) in
    let full = le-ltb (suc rows) (suc rows) (omega arith) in
    let cells : width * (suc rows * suc t + suc rows) ≡ width * (suc rows * suc (suc t) + 0) = omega arith in
    let next : suc t + 1 ≡ suc (suc t) = omega arith in
    rw (open_rows, full, cells, next) refl

-- rows of one width
are_wide : ℕ → List (List Cell) → Bool
are_wide width rows = list_all (λ row. eqb (length row) width) rows

state : ℕ → ℕ → ℕ → ℕ → List Word → Counts
state height width t k words = record { shape = shape_at height width t k; words = words }

one_row : (names : List (List ℕ)) (generations height width line t k : ℕ) (row : List Cell) (words : List Word) → Fits generations height width → t < generations → k < height
    → length row ≡ width → are_spelled names row ≡ true
    → line_taken line (line_of names row) (state height width t k words) ≡ Ok (state height width t (suc k) (words ++ words_in names row))
unfolding state
one_row names generations height width line t k row words fits t_in k_in wide spelled =
    row_taken names line row (record { shape = shape_at height width t k; words = words }) (omega (arith, wide, fits.width_fits.0)) spelled ∙
    (ap (λ n. and_then (with_row line n (shape_at height width t k)) (λ shape. Ok (record { shape = shape; words = words ++ words_in names row }))) (length-map row (word_in names) ∙ wide) ∙
    ap (λ read. and_then read (λ shape. Ok (record { shape = shape; words = words ++ words_in names row }))) (row_fits generations height width line t k fits t_in k_in))

-- printed rows are taken one after another
rows_taken : (names : List (List ℕ)) (generations height width t : ℕ) (rows : List (List Cell)) (line k : ℕ) (words : List Word) (rest : List (List ℕ)) → Fits generations height width → t < generations
    → k + length rows ≤ height → are_wide width rows ≡ true → rows_spelled names rows ≡ true
    → lines_taken line (map (line_of names) rows ++ rest) (state height width t k words)
    ≡ lines_taken (line + length rows) rest (state height width t (k + length rows) (words ++ flat_map (words_in names) rows))
unfolding are_wide
rows_taken names generations height width t [] line k words rest fits t_in within wide spelled =
    let lines : line + 0 ≡ line = omega arith in
    let same : k + 0 ≡ k = omega arith in
    rw (lines, same, append-nil words) refl
rows_taken names generations height width t (row ∷ rows) line k words rest fits t_in within wide spelled =
    let wides = and_parts (eqb (length row) width) (are_wide width rows) wide in
    let spells = and_parts (are_spelled names row) (rows_spelled names rows) spelled in
    let lines : (line + 1) + length rows ≡ line + suc (length rows) = omega arith in
    let count : suc k + length rows ≡ k + suc (length rows) = omega arith in
    ap (λ read. and_then read (lines_taken (line + 1) (map (line_of names) rows ++ rest)))
    (one_row names generations height width line t k row words fits t_in (omega (arith, within)) (eqb-true (length row) width wides.0) spells.0) ∙
    (rows_taken names generations height width t rows (line + 1) (suc k) (words ++ words_in names row) rest fits t_in (omega (arith, within)) wides.1 spells.1 ∙
    rw (lines, count, append_assoc words (words_in names row) (flat_map (words_in names) rows)) refl)

-- generations of one height, of rows of one width
are_whole : ℕ → ℕ → List (List (List Cell)) → Bool
are_whole height width generations = list_all (λ rows. eqb (length rows) height && are_wide width rows) generations

generations_spelled : List (List ℕ) → List (List (List Cell)) → Bool
generations_spelled names generations = list_all (rows_spelled names) generations

words_of : List (List ℕ) → List (List (List Cell)) → List Word
words_of names generations = flat_map (λ rows. flat_map (words_in names) rows) generations

printed : List (List ℕ) → List (List (List Cell)) → List ℕ
printed names generations = text_of (map (map (map (word_text names))) generations)

at_end_whole : (height width t : ℕ) (words : List Word) → 1 ≤ height → at_end (state height width t height words) ≡ Ok (file_sized (suc t) height width words)
unfolding state shape_at width_after height_after
at_end_whole height width t words some =
    ap (λ read. and_then read (λ shape. file_of shape.width shape.height shape.ended words)) (end_fits height width t some)

empty_line : (line height width t : ℕ) (words : List Word) → 1 ≤ height → line_taken line [] (state height width t height words) ≡ Ok (state height width (suc t) 0 words)
unfolding state
empty_line line height width t words some =
    ap (λ read. and_then read (λ shape. Ok (record { shape = shape; words = words }))) (end_fits height width t some)

-- the lines behind the rows of a generation
after_first : List (List ℕ) → List (List (List Cell)) → List (List ℕ)
after_first names [] = []
after_first names (next ∷ generations) = [] ∷ lines_of (printed names (next ∷ generations))

-- the lines of printed generations, one generation after another
first_lines : (names : List (List ℕ)) (rows : List (List Cell)) (generations : List (List (List Cell))) → rows_spelled names rows ≡ true
    → lines_of (printed names (rows ∷ generations)) ≡ map (line_of names) rows ++ after_first names generations
unfolding printed after_first
first_lines names rows [] spelled =
    ap lines_of (sym (append-nil (rows_text (map (map (word_text names)) rows)))) ∙ lines_rows names rows [] spelled
first_lines names rows (next ∷ generations) spelled =
    lines_rows names rows (line_feed ∷ text_of (map (map (map (word_text names))) (next ∷ generations))) spelled

-- the rows of the first of printed generations are taken
first_taken : (names : List (List ℕ)) (count height width : ℕ) (generations : List (List (List Cell))) (first : List (List Cell)) (line t : ℕ) (words : List Word) → Fits count height width
    → t < count → (eqb (length first) height && are_wide width first) ≡ true → rows_spelled names first ≡ true
    → and_then (lines_taken line (lines_of (printed names (first ∷ generations))) (state height width t 0 words)) at_end
    ≡ and_then (lines_taken (line + length first) (after_first names generations) (state height width t height (words ++ flat_map (words_in names) first))) at_end
first_taken names count height width generations first line t words fits t_in whole spelled =
    let sizes = and_parts (eqb (length first) height) (are_wide width first) whole in
    let high : length first ≡ height = eqb-true (length first) height sizes.0 in
    let taken = rows_taken names count height width t first line 0 words (after_first names generations) fits t_in (omega (arith, high)) sizes.1 spelled in
    let all : 0 + length first ≡ height = omega (arith, high) in
    ap (λ lines. and_then (lines_taken line lines (state height width t 0 words)) at_end) (first_lines names first generations spelled) ∙
    (ap (λ read. and_then read at_end) taken ∙
    ap (λ k. and_then (lines_taken (line + length first) (after_first names generations) (state height width t k (words ++ flat_map (words_in names) first))) at_end) all)

-- printed generations are taken one after another
generations_taken : (names : List (List ℕ)) (count height width : ℕ) (generations : List (List (List Cell))) (first : List (List Cell)) (line t : ℕ) (words : List Word) → Fits count height width
    → t + suc (length generations) ≡ count → are_whole height width (first ∷ generations) ≡ true → generations_spelled names (first ∷ generations) ≡ true
    → and_then (lines_taken line (lines_of (printed names (first ∷ generations))) (state height width t 0 words)) at_end
    ≡ Ok (file_sized count height width (words ++ words_of names (first ∷ generations)))
unfolding are_whole generations_spelled words_of after_first
generations_taken names count height width [] first line t words fits place whole spelled =
    let wholes = and_parts (eqb (length first) height && are_wide width first) true whole in
    let spells = and_parts (rows_spelled names first) true spelled in
    let all = words ++ flat_map (words_in names) first in
    let last : suc t ≡ count = omega (arith, place) in
    first_taken names count height width [] first line t words fits (omega (arith, place)) wholes.0 spells.0 ∙
    (at_end_whole height width t all fits.height_fits.0 ∙
    (ap (λ n. Ok (file_sized n height width all)) last ∙
    ap (λ ws. Ok (file_sized count height width (words ++ ws))) (sym (append-nil (flat_map (words_in names) first)))))
generations_taken names count height width (next ∷ generations) first line t words fits place whole spelled =
    let wholes = and_parts (eqb (length first) height && are_wide width first) (are_whole height width (next ∷ generations)) whole in
    let spells = and_parts (rows_spelled names first) (generations_spelled names (next ∷ generations)) spelled in
    let these = flat_map (words_in names) first in
    let behind = line + length first in
    first_taken names count height width (next ∷ generations) first line t words fits (omega (arith, place)) wholes.0 spells.0 ∙
    (ap (λ read. and_then (and_then read (lines_taken (behind + 1) (lines_of (printed names (next ∷ generations))))) at_end) (empty_line behind height width t (words ++ these) fits.height_fits.0) ∙
    (generations_taken names count height width generations next (behind + 1) (suc t) (words ++ these) fits (omega (arith, place)) wholes.1 spells.1 ∙
    ap (λ ws. Ok (file_sized count height width ws)) (append_assoc words these (words_of names (next ∷ generations)))))

-- pieces that the items fill are of their size, and keep what holds of all items
full_chunked : {X : Type 0} (p : X → Bool) (size count : ℕ) (items : List X) → length items ≡ size * count → list_all p items ≡ true
    → list_all (λ piece. eqb (length piece) size && list_all p piece) (chunked size count items) ≡ true
full_chunked p size zero items count_is e = refl
full_chunked p size (suc count) items count_is e =
    let more : size * suc count ≡ size + size * count = omega arith in
    let front : length (take size items) ≡ size = omega (arith, length-take size items, count_is, more) in
    let rest : length (drop size items) ≡ size * count = omega (arith, length-drop size items, count_is, more) in
    and_from (eqb (length (take size items)) size && list_all p (take size items)) _
    (and_from (eqb (length (take size items)) size) (list_all p (take size items)) (eq-eqb (length (take size items)) size front) (all_take p size items e))
    (full_chunked p size count (drop size items) rest (all_drop p size items e))

all_sizes : {X : Type 0} (size count : ℕ) (items : List X) → length items ≡ size * count → list_all (λ piece. eqb (length piece) size) (chunked size count items) ≡ true
all_sizes size zero items count_is = refl
all_sizes size (suc count) items count_is =
    let more : size * suc count ≡ size + size * count = omega arith in
    let front : length (take size items) ≡ size = omega (arith, length-take size items, count_is, more) in
    let rest : length (drop size items) ≡ size * count = omega (arith, length-drop size items, count_is, more) in
    and_from (eqb (length (take size items)) size) _ (eq-eqb (length (take size items)) size front) (all_sizes size count (drop size items) rest)

-- the words of pieces, one after another
words_joined : (names : List (List ℕ)) (rows : List (List Cell)) → flat_map (words_in names) rows ≡ words_in names (flat_map (λ row. row) rows)
words_joined names [] = refl
words_joined names (row ∷ rows) = ap (λ ws. words_in names row ++ ws) (words_joined names rows) ∙ sym (map-append (word_in names) row (flat_map (λ row. row) rows))

rows_joined : (names : List (List ℕ)) (generations : List (List (List Cell))) → words_of names generations ≡ flat_map (words_in names) (flat_map (λ rows. rows) generations)
unfolding words_of
rows_joined names [] = refl
rows_joined names (rows ∷ generations) =
    ap (λ ws. flat_map (words_in names) rows ++ ws) (rows_joined names generations) ∙ sym (flat_map-append (words_in names) rows (flat_map (λ rows. rows) generations))

-- the names of numbered cells are spelled
name_at : (names : List (List ℕ)) (n : ℕ) → n < length names → list_all is_name names ≡ true → is_name (get_or names n []) ≡ true
name_at [] n within e = absurd (omega arith)
name_at (name ∷ names) zero within e = (and_parts (is_name name) (list_all is_name names) e).0
name_at (name ∷ names) (suc n) within e = name_at names n (omega arith) (and_parts (is_name name) (list_all is_name names) e).1

kind_spelled : (names : List (List ℕ)) (kind : Kind) → list_all is_name names ≡ true → ((n : ℕ) → name_of kind ≡ Some n → n < length names) → is_said_spelled (said_in names kind) ≡ true
kind_spelled names Dead e within = refl
kind_spelled names Live e within = refl
kind_spelled names Free e within = refl
kind_spelled names (Named n) e within = name_at names n (within n refl) e
kind_spelled names (Negated n) e within = name_at names n (within n refl) e

cells_spelled : (names : List (List ℕ)) (cells : List Cell) (next : Option ℕ) → list_all is_name names ≡ true → are_numbered cells (length names) next ≡ true → are_spelled names cells ≡ true
cells_spelled names cells None e numbered = cc
cells_spelled names [] (Some next) e numbered = refl
cells_spelled names (cell ∷ cells) (Some next) e numbered =
    and_from (is_spelled (word_in names cell)) (are_spelled names cells)
    (kind_spelled names cell.kind e (numbers_lt cells (length names) next cell numbered))
    (cells_spelled names cells (names_after (name_of cell.kind) next) e numbered)

-- the generations of a file
generations_of : PosedFile → List (List (List Cell))
generations_of file = chunked file.height file.generations (chunked file.width (file.height * file.generations) file.cells)

text_is_printed : (file : PosedFile) → posed_text file ≡ printed file.names (generations_of file)
unfolding printed generations_of
text_is_printed file =
    let rows = chunked file.width (file.height * file.generations) file.cells in
    ap (λ pieces. text_of (chunked file.height file.generations pieces)) (sym (map-chunked (word_text file.names) file.width (file.height * file.generations) file.cells)) ∙
    ap text_of (sym (map-chunked (map (word_text file.names)) file.height file.generations rows))

whole_generations : (file : PosedFile) → IsPosed file → are_whole file.height file.width (generations_of file) ≡ true
unfolding are_whole generations_of are_wide
whole_generations file posed =
    let rows = chunked file.width (file.height * file.generations) file.cells in
    full_chunked (λ row. eqb (length row) file.width) file.height file.generations rows (length-chunked file.width (file.height * file.generations) file.cells)
    (all_sizes file.width (file.height * file.generations) file.cells posed.count)

spelled_generations : (file : PosedFile) → IsPosed file → generations_spelled file.names (generations_of file) ≡ true
unfolding generations_spelled generations_of
spelled_generations file posed =
    all_chunked (are_spelled file.names) file.height file.generations (chunked file.width (file.height * file.generations) file.cells)
    (all_chunked (λ cell. is_spelled (word_in file.names cell)) file.width (file.height * file.generations) file.cells (cells_spelled file.names file.cells (Some 0) posed.spelled posed.numbered))

words_of_generations : (file : PosedFile) → IsPosed file → words_of file.names (generations_of file) ≡ words_in file.names file.cells
unfolding generations_of
words_of_generations file posed =
    let rows = chunked file.width (file.height * file.generations) file.cells in
    let all_rows : length rows ≤ file.height * file.generations = omega (arith, length-chunked file.width (file.height * file.generations) file.cells) in
    let all_cells : length file.cells ≤ file.width * (file.height * file.generations) = omega (arith, posed.count) in
    rows_joined file.names (generations_of file) ∙
    (ap (flat_map (words_in file.names)) (joined-chunked file.height file.generations rows ∙ take_all (file.height * file.generations) rows all_rows) ∙
    (words_joined file.names rows ∙
    ap (words_in file.names) (joined-chunked file.width (file.height * file.generations) file.cells ∙ take_all (file.width * (file.height * file.generations)) file.cells all_cells)))

whole_file : (file : PosedFile) → IsPosed file → file_sized file.generations file.height file.width (words_in file.names file.cells) ≡ file
whole_file file posed =
    let numbered : IsNumbered file.names file.cells = record { distinct = posed.distinct; spelled = posed.spelled; numbered = posed.numbered } in
    rw (cells_said-words_in file.names file.cells numbered, names_of-words_in file.names file.cells numbered) refl

at_start : (height width : ℕ) → shape_at height width 0 0 ≡ no_shape
unfolding shape_at width_after height_after
at_start height width = let none : width * (height * 0 + 0) ≡ 0 = omega arith in rw none refl

printed_read : (names : List (List ℕ)) (count height width : ℕ) (generations : List (List (List Cell))) → Fits count height width → length generations ≡ count → 1 ≤ count
    → are_whole height width generations ≡ true → generations_spelled names generations ≡ true
    → and_then (lines_taken 1 (lines_of (printed names generations)) (record { shape = no_shape; words = [] })) at_end ≡ Ok (file_sized count height width (words_of names generations))
unfolding state
printed_read names count height width [] fits all some whole spelled = absurd (omega (arith, all, some))
printed_read names count height width (first ∷ generations) fits all some whole spelled =
    ap (λ shape. and_then (lines_taken 1 (lines_of (printed names (first ∷ generations))) (record { shape = shape; words = [] })) at_end) (sym (at_start height width)) ∙
    generations_taken names count height width generations first 1 0 [] fits (omega (arith, all)) whole spelled

count_generations : (file : PosedFile) → length (generations_of file) ≡ file.generations
unfolding generations_of
count_generations file = length-chunked file.height file.generations (chunked file.width (file.height * file.generations) file.cells)

-- the text of a posed file is read as the file
pub posed_of-posed_text : (file : PosedFile) → IsPosed file → posed_of (posed_text file) ≡ Ok file
posed_of-posed_text file posed =
    let fits : Fits file.generations file.height file.width = record {
      generations_fit = posed.generations.1;
      height_fits = posed.height;
      width_fits = posed.width;
      most = omega (arith, posed.count, posed.most);
    } in
    posed_of-counted (posed_text file) ∙
    (ap (λ text. and_then (lines_taken 1 (lines_of text) (record { shape = no_shape; words = [] })) at_end) (text_is_printed file) ∙
    (printed_read file.names file.generations file.height file.width (generations_of file) fits (count_generations file) posed.generations.0 (whole_generations file posed) (spelled_generations file posed) ∙
    (ap (λ words. Ok (file_sized file.generations file.height file.width words)) (words_of_generations file posed) ∙
    ap Ok (whole_file file posed))))
