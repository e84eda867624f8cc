-- The items of rows picture the rows.
use Rattle.std.proofs.Common.{◌≡◌, ◌<◌, ◌≤◌, ◌+◌, ℕ, zero, suc, Bool, true, false, eqb, List, [], ◌∷◌, length, map, get_or, None, Some, Ok, refl, sym, ap, ◌∙◌, arith, zero-add, add-zero}
use Rattle.std.specs.Prelude.{Option, nat_le, nat_lt, ◌==◌, ◌&&◌, ◌||◌}
use Rattle.std.specs.List.{list_any, list_all, range_with_len}
use Rattle.std.proofs.lemmas.Bool.{and_parts, eqb-true}
use Rattle.std.proofs.lemmas.Bool.Decides.{nat_tests}
use Rattle.lls_rle.specs.declared.rle_fault.RleFault.{RleFault}
use Rattle.lls_rle.specs.declared.item.Tag.{Tag}
use Rattle.lls_rle.specs.declared.item.Tag.TheVariants.{Dead, Live, RowEnd}
use Rattle.lls_rle.specs.declared.item.Item.{Item}
use Rattle.lls_rle.specs.Picture.{with_item, runs_from, misfit, first_misfit, or_else, unless_misfit, covers, picture, pictured}
use Rattle.lls_rle.specs.Items.{ended}
use Rattle.lls_grid.proofs.InOrder.{width_at}
use Rattle.std.proofs.lemmas.List.FromFn.{fill_by_all}
use Rattle.lls_rle.proofs.Painting.{fitting}
use Rattle.lls_rle.specs.Printing.{before_item, before_cell, before_row, before_ends, before_end, items_of_rows}

or_assoc : (a b c : Bool) → ((a || b) || c) ≡ (a || (b || c))
or_assoc true b c = refl
or_assoc false b c = refl

-- a row's end moves what is below
ends-is : (row column : ℕ) (item : Item) (tag : Tag) (items : List Item) → item.tag ≡ tag → runs_from row column (before_ends item tag items) ≡ runs_from (row + 1) 0 (item ∷ items)
ends-is row column item RowEnd items is =
    let more = λ (y x : ℕ). runs_from y x items in
    ap (λ t. with_item row column (item.count + 1) t more) is ∙ ap (λ y. runs_from y 0 items) (omega arith) ∙ ap (λ t. with_item (row + 1) 0 item.count t more) (sym is)
ends-is row column item Live items is = refl
ends-is row column item Dead items is = refl

-- runs make a cell live
abbrev makes : ℕ → ℕ → ℕ → ℕ → List Item → Bool
makes y x row column items = list_any (covers y x) (runs_from row column items)

abbrev is_place : ℕ → ℕ → ℕ → ℕ → Bool
is_place y x row column = (row == y) && (column == x)

one_column : (column x : ℕ) → (nat_le column x && nat_lt x (column + 1)) ≡ (column == x)
one_column column x = grind (arith, nat_tests)

one_more : (column n x : ℕ) → (nat_le column x && nat_lt x (column + (n + 1))) ≡ ((column == x) || (nat_le (column + 1) x && nat_lt x ((column + 1) + n)))
one_more column n x = grind (arith, nat_tests)

and_or : (a b c : Bool) → (a && (b || c)) ≡ ((a && b) || (a && c))
and_or true b c = refl
and_or false b c = refl

covers-one : (y x row column : ℕ) → covers y x (record { row = row; column = column; count = 1 }) ≡ is_place y x row column
covers-one y x row column = ap (λ b. (row == y) && b) (one_column column x)

covers-more : (y x row column n : ℕ) → covers y x (record { row = row; column = column; count = n + 1 }) ≡ (is_place y x row column || covers y x (record { row = row; column = column + 1; count = n }))
covers-more y x row column n = ap (λ b. (row == y) && b) (one_more column n x) ∙ and_or (row == y) (column == x) (nat_le (column + 1) x && nat_lt x ((column + 1) + n))

item-makes : (live : Bool) (y x row column : ℕ) (item : Item) (tag : Tag) (items : List Item) → item.tag ≡ tag
    → makes y x row column (before_item live item tag items) ≡ ((live && is_place y x row column) || makes y x row (column + 1) (item ∷ items))
item-makes true y x row column item Live items is =
    let more = λ (r c : ℕ). runs_from r c items in
    ap (λ t. list_any (covers y x) (with_item row column (item.count + 1) t more)) is
    ∙ ap (λ b. b || makes y x row (column + (item.count + 1)) items) (covers-more y x row column item.count)
    ∙ or_assoc (is_place y x row column) (covers y x (record { row = row; column = column + 1; count = item.count })) (makes y x row (column + (item.count + 1)) items)
    ∙ ap (λ c. is_place y x row column || (covers y x (record { row = row; column = column + 1; count = item.count }) || makes y x row c items)) (omega arith)
    ∙ ap (λ t. is_place y x row column || list_any (covers y x) (with_item row (column + 1) item.count t more)) (sym is)
item-makes true y x row column item Dead items is = ap (λ b. b || makes y x row (column + 1) (item ∷ items)) (covers-one y x row column)
item-makes true y x row column item RowEnd items is = ap (λ b. b || makes y x row (column + 1) (item ∷ items)) (covers-one y x row column)
item-makes false y x row column item Live items is = refl
item-makes false y x row column item Dead items is =
    let more = λ (r c : ℕ). runs_from r c items in
    ap (λ t. list_any (covers y x) (with_item row column (item.count + 1) t more)) is
    ∙ ap (λ c. makes y x row c items) (omega arith)
    ∙ ap (λ t. list_any (covers y x) (with_item row (column + 1) item.count t more)) (sym is)
item-makes false y x row column item RowEnd items is =
    let more = λ (r c : ℕ). runs_from r c items in
    ap (λ t. list_any (covers y x) (with_item row column item.count t more)) is ∙ ap (λ t. list_any (covers y x) (with_item row (column + 1) item.count t more)) (sym is)

cell-makes : (live : Bool) (y x row column : ℕ) (items : List Item) → makes y x row column (before_cell live items) ≡ ((live && is_place y x row column) || makes y x row (column + 1) items)
cell-makes true y x row column [] = ap (λ b. b || false) (covers-one y x row column)
cell-makes false y x row column [] = refl
cell-makes live y x row column (item ∷ items) = item-makes live y x row column item item.tag items refl

end-makes : (y x row column : ℕ) (items : List Item) → makes y x row column (before_end items) ≡ makes y x (row + 1) 0 items
end-makes y x row column [] = refl
end-makes y x row column (item ∷ items) = ap (list_any (covers y x)) (ends-is row column item item.tag items refl)

and_false : (b : Bool) → (b && false) ≡ false
and_false true = refl
and_false false = refl

-- a row's cells from a column on
abbrev has : List Bool → ℕ → ℕ → Bool
has [] column x = false
has (live ∷ cells) column x = (live && (column == x)) || has cells (column + 1) x

one_way : (live here there below rest : Bool) → ((live && (here && there)) || ((here && rest) || below)) ≡ ((here && ((live && there) || rest)) || below)
one_way true true true below rest = refl
one_way true true false below rest = refl
one_way true false there below rest = refl
one_way false true there below rest = refl
one_way false false there below rest = refl

row-makes : (cells : List Bool) (y x row column : ℕ) (below : List Item) → makes y x row column (before_row cells below) ≡ (((row == y) && has cells column x) || makes y x row (column + length cells) below)
row-makes [] y x row column below = ap (λ c. makes y x row c below) (sym (add-zero column)) ∙ ap (λ b. b || makes y x row (column + 0) below) (sym (and_false (row == y)))
row-makes (live ∷ cells) y x row column below =
    cell-makes live y x row column (before_row cells below)
    ∙ ap (λ b. (live && is_place y x row column) || b) (row-makes cells y x row (column + 1) below)
    ∙ ap (λ c. (live && is_place y x row column) || (((row == y) && has cells (column + 1) x) || makes y x row c below)) (omega arith)
    ∙ one_way live (row == y) (column == x) (makes y x row (column + length (live ∷ cells)) below) (has cells (column + 1) x)

-- the cells of rows from one on
abbrev have : List (List Bool) → ℕ → ℕ → ℕ → Bool
have [] row y x = false
have (cells ∷ rows) row y x = ((row == y) && has cells 0 x) || have rows (row + 1) y x

rows-make : (rows : List (List Bool)) (y x row : ℕ) → makes y x row 0 (items_of_rows rows) ≡ have rows row y x
rows-make [] y x row = refl
rows-make (cells ∷ rows) y x row =
    row-makes cells y x row 0 (before_end (items_of_rows rows))
    ∙ ap (λ b. ((row == y) && has cells 0 x) || b) (end-makes y x row (0 + length cells) (items_of_rows rows) ∙ rows-make rows y x (row + 1))

not_same : (a b : ℕ) → (a ≡ b → ⊥) → eqb a b ≡ false
not_same a b apart = grind (arith, nat_tests)

is_same : (a b : ℕ) → a ≡ b → eqb a b ≡ true
is_same a b same = grind (arith, nat_tests)

has-before : (cells : List Bool) (column x : ℕ) → x < column → has cells column x ≡ false
has-before [] column x before = refl
has-before (live ∷ cells) column x before = rw (not_same column x (λ same. omega (arith, same, before)), has-before cells (column + 1) x (omega (arith, before))) (by_cell live) where
  by_cell : (live : Bool) → ((live && false) || false) ≡ false
  by_cell true = refl
  by_cell false = refl

has-at : (cells : List Bool) (column k x : ℕ) → column + k ≡ x → has cells column x ≡ get_or cells k false
has-at [] column k x at = refl
has-at (live ∷ cells) column zero x at = rw (is_same column x (omega (arith, at)), has-before cells (column + 1) x (omega (arith, at))) (by_cell live) where
  by_cell : (live : Bool) → ((live && true) || false) ≡ live
  by_cell true = refl
  by_cell false = refl
has-at (live ∷ cells) column (suc k) x at = rw (not_same column x (λ same. omega (arith, same, at)), has-at cells (column + 1) k x (omega (arith, at))) (by_cell live (get_or cells k false)) where
  by_cell : (live rest : Bool) → ((live && false) || rest) ≡ rest
  by_cell true rest = refl
  by_cell false rest = refl

have-before : (rows : List (List Bool)) (row y x : ℕ) → y < row → have rows row y x ≡ false
have-before [] row y x before = refl
have-before (cells ∷ rows) row y x before = rw (not_same row y (λ same. omega (arith, same, before)), have-before rows (row + 1) y x (omega (arith, before))) refl

or_false : (b : Bool) → (b || false) ≡ b
or_false true = refl
or_false false = refl

have-at : (rows : List (List Bool)) (row k y x : ℕ) → row + k ≡ y → have rows row y x ≡ has (get_or rows k []) 0 x
have-at [] row k y x at = refl
have-at (cells ∷ rows) row zero y x at = rw (is_same row y (omega (arith, at)), have-before rows (row + 1) y x (omega (arith, at))) (or_false (has cells 0 x))
have-at (cells ∷ rows) row (suc k) y x at = rw (not_same row y (λ same. omega (arith, same, at)), have-at rows (row + 1) k y x (omega (arith, at))) refl

-- the runs of the items of rows make exactly the live cells live
made : (rows : List (List Bool)) (y x : ℕ) → makes y x 0 0 (items_of_rows rows) ≡ get_or (get_or rows y []) x false
made rows y x = rows-make rows y x 0 ∙ have-at rows 0 y y x (zero-add y) ∙ has-at (get_or rows y []) 0 x x (zero-add x)

pub picture-items_of_rows : (height width : ℕ) (rows : List (List Bool)) → length rows ≡ height → list_all (λ row. length row == width) rows ≡ true
    → picture height width (runs_from 0 0 (items_of_rows rows)) ≡ rows ∷ []
picture-items_of_rows height width rows count even =
    let runs = runs_from 0 0 (items_of_rows rows) in
    ap (λ rs. rs ∷ []) (sym (fill_by_all (λ y. map (λ x. list_any (covers y x) runs) (range_with_len 0 width)) rows height [] count (λ y y_in.
    fill_by_all (λ x. list_any (covers y x) runs) (get_or rows y []) width false (width_at width rows y even (omega (arith, y_in, count))) (λ x x_in. sym (made rows y x))
    )))

-- runs that fit
no_fault : (a b : Option RleFault) → or_else a b ≡ None → (a ≡ None) × (b ≡ None)
no_fault None b e = (refl, e)
no_fault (Some fault) b e = absurd cc

both_fit : (a b : Option RleFault) → a ≡ None → b ≡ None → or_else a b ≡ None
both_fit a b first rest = ap (λ o. or_else o b) first ∙ rest

run-fits : (height width row column count : ℕ) → row < height → column + count ≤ width → misfit height width (record { row = row; column = column; count = count }) ≡ None
run-fits height width row column count row_in fits = rw (not_le height row row_in, not_lt width (column + count) fits) refl where
  not_le : (a b : ℕ) → b < a → nat_le a b ≡ false
  not_le a b less = grind (arith, nat_tests)

  not_lt : (a b : ℕ) → b ≤ a → nat_lt a b ≡ false
  not_lt a b le = grind (arith, nat_tests)

abbrev faults : ℕ → ℕ → ℕ → ℕ → List Item → Option RleFault
faults height width row column items = first_misfit height width (runs_from row column items)

module _ (height width row column : ℕ) (row_in : row < height) (column_in : column + 1 ≤ width) where
  item-fits : (live : Bool) (item : Item) (tag : Tag) (items : List Item) → item.tag ≡ tag → faults height width row (column + 1) (item ∷ items) ≡ None → faults height width row column (before_item live item tag items) ≡ None
  item-fits true item Live items is h =
      let more = λ (r c : ℕ). runs_from r c items in
      let parts = no_fault (misfit height width (record { row = row; column = column + 1; count = item.count })) (faults height width row ((column + 1) + item.count) items) (ap (λ t. first_misfit height width (with_item row (column + 1) item.count t more)) (sym is) ∙ h) in
      let wide : (column + 1) + item.count ≤ width = fitting height width row (column + 1) item.count (sym parts.0) in
      ap (λ t. first_misfit height width (with_item row column (item.count + 1) t more)) is
      ∙ both_fit (misfit height width (record { row = row; column = column; count = item.count + 1 })) (faults height width row (column + (item.count + 1)) items) (run-fits height width row column (item.count + 1) row_in (omega (arith, wide)))
      (ap (λ c. faults height width row c items) (omega arith) ∙ parts.1)
  item-fits true item Dead items is h = both_fit (misfit height width (record { row = row; column = column; count = 1 })) (faults height width row (column + 1) (item ∷ items)) (run-fits height width row column 1 row_in column_in) h
  item-fits true item RowEnd items is h = both_fit (misfit height width (record { row = row; column = column; count = 1 })) (faults height width row (column + 1) (item ∷ items)) (run-fits height width row column 1 row_in column_in) h
  item-fits false item Live items is h = h
  item-fits false item Dead items is h =
      let more = λ (r c : ℕ). runs_from r c items in
      ap (λ t. first_misfit height width (with_item row column (item.count + 1) t more)) is
      ∙ ap (λ c. faults height width row c items) (omega arith)
      ∙ ap (λ t. first_misfit height width (with_item row (column + 1) item.count t more)) (sym is)
      ∙ h
  item-fits false item RowEnd items is h =
      let more = λ (r c : ℕ). runs_from r c items in
      ap (λ t. first_misfit height width (with_item row column item.count t more)) is ∙ ap (λ t. first_misfit height width (with_item row (column + 1) item.count t more)) (sym is) ∙ h

  cell-fits : (live : Bool) (items : List Item) → faults height width row (column + 1) items ≡ None → faults height width row column (before_cell live items) ≡ None
  cell-fits true [] h = both_fit (misfit height width (record { row = row; column = column; count = 1 })) None (run-fits height width row column 1 row_in column_in) refl
  cell-fits false [] h = refl
  cell-fits live (item ∷ items) h = item-fits live item item.tag items refl h

row-fits : (height width row column : ℕ) (cells : List Bool) (below : List Item) → row < height → column + length cells ≤ width → faults height width row (column + length cells) below ≡ None
    → faults height width row column (before_row cells below) ≡ None
row-fits height width row column [] below row_in fits h = ap (λ c. faults height width row c below) (sym (add-zero column)) ∙ h
row-fits height width row column (live ∷ cells) below row_in fits h =
    cell-fits height width row column row_in (omega (arith, fits)) live (before_row cells below)
    (row-fits height width row (column + 1) cells below row_in (omega (arith, fits)) (ap (λ c. faults height width row c below) (omega arith) ∙ h))

end-fits : (height width row column : ℕ) (items : List Item) → faults height width (row + 1) 0 items ≡ None → faults height width row column (before_end items) ≡ None
end-fits height width row column [] h = refl
end-fits height width row column (item ∷ items) h = ap (first_misfit height width) (ends-is row column item item.tag items refl) ∙ h

pub rows-fit : (height width row : ℕ) (rows : List (List Bool)) → row + length rows ≤ height → list_all (λ r. length r == width) rows ≡ true → faults height width row 0 (items_of_rows rows) ≡ None
rows-fit height width row [] fits even = refl
rows-fit height width row (cells ∷ rows) fits even =
    let parts = and_parts (length cells == width) (list_all (λ r. length r == width) rows) even in
    let long : length cells ≡ width = eqb-true (length cells) width parts.0 in
    row-fits height width row 0 cells (before_end (items_of_rows rows)) (omega (arith, fits)) (omega (arith, long))
    (end-fits height width row (0 + length cells) (items_of_rows rows) (rows-fit height width (row + 1) rows (omega (arith, fits)) parts.1))

-- the items of rows, where `!` stands behind them, picture the rows
pub pictured-items_of_rows : (height width : ℕ) (rows : List (List Bool)) → length rows ≡ height → list_all (λ row. length row == width) rows ≡ true
    → pictured height width (record { items = items_of_rows rows; ending = ended }) ≡ Ok (rows ∷ [])
pictured-items_of_rows height width rows count even =
    ap (λ fault. unless_misfit fault (Ok (picture height width (runs_from 0 0 (items_of_rows rows))))) (rows-fit height width 0 rows (omega (arith, count)) even)
    ∙ ap Ok (picture-items_of_rows height width rows count even)
