-- Items of rows, made from the last cell to the first: their counts stay small.
use Rattle.std.proofs.Common.{◌≡◌, ◌<◌, ◌≤◌, ◌+◌, ◌*◌, ℕ, zero, suc, Bool, true, false, eqb, List, [], ◌∷◌, length, drop, get_or, refl, sym, ap, ◌∙◌, arith, add-one, drop-cons, length-drop}
use Rattle.std.specs.List.{list_all}
use Rattle.std.proofs.lemmas.Bool.{and_parts, eqb-true}
use Rattle.lls_grid.specs.History.{History, IsHistory, rows_at, height_of, width_of}
use Rattle.lls_grid.proofs.InOrder.{shape_at}
use Rattle.lls_grid.proofs.Steps.{rows_count}
use Rattle.lls_rle.specs.declared.item.Tag.{Tag}
use Rattle.lls_rle.specs.declared.item.Tag.TheVariants.{Dead, Live, RowEnd}
use Rattle.lls_rle.specs.declared.item.Item.{Item}
use Rattle.lls_rle.specs.Printing.{before_item, before_cell, before_row, before_ends, before_end, items_of_rows}
use Rattle.lls_rle.specs.Stacked.{AreSmall}

pub small_weaker : (most more : ℕ) (items : List Item) → most ≤ more → AreSmall most items → AreSmall more items
small_weaker most more [] le h = tt
small_weaker most more (item ∷ items) le h = ((h.0.0, omega (arith, h.0.1, le)), small_weaker most more items le h.1)

before_item-small : (live : Bool) (item : Item) (tag : Tag) (most : ℕ) (items : List Item) → AreSmall most (item ∷ items) → AreSmall (most + 1) (before_item live item tag items)
before_item-small true item Live most items h = ((omega arith, omega (arith, h.0.1)), small_weaker most (most + 1) items (omega arith) h.1)
before_item-small true item Dead most items h = ((omega arith, omega arith), small_weaker most (most + 1) (item ∷ items) (omega arith) h)
before_item-small true item RowEnd most items h = ((omega arith, omega arith), small_weaker most (most + 1) (item ∷ items) (omega arith) h)
before_item-small false item Live most items h = ((omega arith, omega arith), small_weaker most (most + 1) (item ∷ items) (omega arith) h)
before_item-small false item Dead most items h = ((omega arith, omega (arith, h.0.1)), small_weaker most (most + 1) items (omega arith) h.1)
before_item-small false item RowEnd most items h = small_weaker most (most + 1) (item ∷ items) (omega arith) h

before_cell-small : (live : Bool) (most : ℕ) (items : List Item) → AreSmall most items → AreSmall (most + 1) (before_cell live items)
before_cell-small true most [] h = ((omega arith, omega arith), tt)
before_cell-small false most [] h = tt
before_cell-small live most (item ∷ items) h = before_item-small live item item.tag most items h

pub before_row-small : (most : ℕ) (cells : List Bool) (below : List Item) → AreSmall most below → AreSmall (most + length cells) (before_row cells below)
before_row-small most [] below h = small_weaker most (most + 0) below (omega arith) h
before_row-small most (live ∷ cells) below h =
    small_weaker ((most + length cells) + 1) (most + length (live ∷ cells)) (before_cell live (before_row cells below)) (omega arith)
    (before_cell-small live (most + length cells) (before_row cells below) (before_row-small most cells below h))

before_ends-small : (item : Item) (tag : Tag) (most : ℕ) (items : List Item) → AreSmall most (item ∷ items) → AreSmall (most + 1) (before_ends item tag items)
before_ends-small item RowEnd most items h = ((omega arith, omega (arith, h.0.1)), small_weaker most (most + 1) items (omega arith) h.1)
before_ends-small item Live most items h = ((omega arith, omega arith), small_weaker most (most + 1) (item ∷ items) (omega arith) h)
before_ends-small item Dead most items h = ((omega arith, omega arith), small_weaker most (most + 1) (item ∷ items) (omega arith) h)

pub before_end-small : (most : ℕ) (items : List Item) → AreSmall most items → AreSmall (most + 1) (before_end items)
before_end-small most [] h = tt
before_end-small most (item ∷ items) h = before_ends-small item item.tag most items h

-- rows of at most 64 cells
pub items_of_rows-small : (width : ℕ) (rows : List (List Bool)) → width ≤ 64 → list_all (λ row. eqb (length row) width) rows ≡ true → AreSmall (65 * length rows) (items_of_rows rows)
items_of_rows-small width [] narrow even = tt
items_of_rows-small width (row ∷ rows) narrow even =
    let parts = and_parts (eqb (length row) width) (list_all (λ r. eqb (length r) width) rows) even in
    let long : length row ≡ width = eqb-true (length row) width parts.0 in
    small_weaker ((65 * length rows + 1) + length row) (65 * length (row ∷ rows)) (items_of_rows (row ∷ rows)) (omega (arith, long, narrow))
    (before_row-small (65 * length rows + 1) row (before_end (items_of_rows rows)) (before_end-small (65 * length rows) (items_of_rows rows) (items_of_rows-small width rows narrow parts.1)))

-- one cell more, and one row more
pub before_row-more : (cells : List Bool) (x : ℕ) (below : List Item) → x < length cells → before_row (drop x cells) below ≡ before_cell (get_or cells x false) (before_row (drop (x + 1) cells) below)
before_row-more cells x below within = ap (λ cs. before_row cs below) (drop-cons cells x false within) ∙ ap (λ n. before_cell (get_or cells x false) (before_row (drop n cells) below)) (sym (add-one x))

pub items_of_rows-more : (rows : List (List Bool)) (y : ℕ) → y < length rows → items_of_rows (drop y rows) ≡ before_row (get_or rows y []) (before_end (items_of_rows (drop (y + 1) rows)))
items_of_rows-more rows y within = ap items_of_rows (drop-cons rows y [] within) ∙ ap (λ n. before_row (get_or rows y []) (before_end (items_of_rows (drop n rows)))) (sym (add-one y))

all_drop : (p : List Bool → Bool) (n : ℕ) (rows : List (List Bool)) → list_all p rows ≡ true → list_all p (drop n rows) ≡ true
all_drop p zero rows all = all
all_drop p (suc n) [] all = refl
all_drop p (suc n) (row ∷ rows) all = all_drop p n rows (and_parts (p row) (list_all p rows) all).1

-- the rows of a generation from one on
pub small_rows : (history : History) (t y : ℕ) → IsHistory history → t < length history → AreSmall 4160 (items_of_rows (drop y (rows_at history t)))
small_rows history t y h t_in =
    let rows = drop y (rows_at history t) in
    let width = width_of history in
    let count : length (rows_at history t) ≡ height_of history = rows_count (length history) (height_of history) width t history h.sizes t_in in
    let even = (and_parts (eqb (length (rows_at history t)) (height_of history)) (list_all (λ row. eqb (length row) width) (rows_at history t)) (shape_at (height_of history) width history t h.sizes.1 t_in)).1 in
    small_weaker (65 * length rows) 4160 (items_of_rows rows) (omega (arith, length-drop y (rows_at history t), count, h.height.1))
    (items_of_rows-small width rows h.width.1 (all_drop (λ row. eqb (length row) width) y (rows_at history t) even))
