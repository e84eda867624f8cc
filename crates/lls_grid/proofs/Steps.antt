-- Writing a generation row by row and cell by cell, from the generation before.
use Rattle.std.proofs.Common.{◌≡◌, ◌≢◌, ◌<◌, ◌≤◌, ℕ, zero, suc, ◌+◌, ℤ, pos, negsuc, ◌+ℤ◌, ◌-ℤ◌, Bool, false, List, [], ◌∷◌, ◌++◌, ◌==◌, length, get_or, set, take, drop, map, refl, sym, ap, ◌∙◌, arith, add-one, drop-cons, length-take, append-nil, append_assoc, take_all}
use Rattle.std.specs.List.{list_all, range_with_len}
use Rattle.std.proofs.lemmas.Bool.{and_parts, eqb-true}
use Rattle.std.proofs.lemmas.List.{set-get_or, get_or-set_same, get_or-set_other, take_more}
use Rattle.std.proofs.lemmas.List.FromFn.{length-map-range_with_len, get_or-map-range_with_len}
use Rattle.std.proofs.Math.Seq.{set-append_seam}
use Rattle.std.proofs.Math.ListN.{drop_of_length-le}
use Rattle.lls_rule.specs.Rule.{successor}
use Rattle.lls_grid.specs.History.{History, HasSizes, rows_at, place_cell, nine, height_of, width_of}
use Rattle.lls_grid.proofs.InOrder.{shape_at, width_at}
use Rattle.lls_grid.specs.Changes.{with_cell, with_row, successor_row, successors}

pub set_set : {X : Type 0} (items : List X) (i : ℕ) (a b : X) → set (set items i a) i b ≡ set items i b
set_set [] i a b = refl
set_set (x ∷ items) zero a b = refl
set_set (x ∷ items) (suc i) a b = ap (λ rest. x ∷ rest) (set_set items i a b)

-- items that are partly written anew
abbrev pub mixed : {X : Type 0} → List X → List X → ℕ → List X
mixed new old n = take n new ++ drop n old

pub mixed_more : {X : Type 0} (new old : List X) (n : ℕ) (d : X) → n < length new → n < length old → set (mixed new old n) n (get_or new n d) ≡ mixed new old (n + 1)
mixed_more new old n d in_new in_old =
    let front : length (take n new) ≡ n = omega (arith, length-take n new, in_new) in
    let rest : drop n old ≡ get_or old n d ∷ drop (n + 1) old = rw (add-one, drop-cons old n d) refl in
    ap (λ behind. set (take n new ++ behind) n (get_or new n d)) rest
    ∙ (ap (λ i. set (take n new ++ get_or old n d ∷ drop (n + 1) old) i (get_or new n d)) (sym front)
    ∙ (set-append_seam (take n new) (get_or old n d) (drop (n + 1) old) (get_or new n d)
    ∙ (sym (append_assoc (take n new) (get_or new n d ∷ []) (drop (n + 1) old))
    ∙ ap (λ done. done ++ drop (n + 1) old) (sym (take_more new n d in_new)))))

pub mixed_all : {X : Type 0} (new old : List X) (n : ℕ) → length new ≤ n → length old ≤ n → mixed new old n ≡ new
mixed_all new old n past_new past_old = rw (take_all n new past_new, drop_of_length-le old past_old) (append-nil new)

-- values of a generation stay where its rows stay
place_cell_same : (old new : History) (t : ℕ) (y x : ℤ) → rows_at new t ≡ rows_at old t → place_cell new t y x ≡ place_cell old t y x
place_cell_same old new t (pos y) (pos x) same = rw same refl
place_cell_same old new t (pos y) (negsuc x) same = refl
place_cell_same old new t (negsuc y) (pos x) same = refl
place_cell_same old new t (negsuc y) (negsuc x) same = refl

pub nine_same : (table : List Bool) (old new : History) (t : ℕ) (y x : ℤ) → rows_at new t ≡ rows_at old t → nine table new t y x ≡ nine table old t y x
nine_same table old new t y x same =
    rw (
      place_cell_same old new t (y -ℤ pos 1) (x -ℤ pos 1) same,
      place_cell_same old new t (y -ℤ pos 1) x same,
      place_cell_same old new t (y -ℤ pos 1) (x +ℤ pos 1) same,
      place_cell_same old new t y (x -ℤ pos 1) same,
      place_cell_same old new t y x same,
      place_cell_same old new t y (x +ℤ pos 1) same,
      place_cell_same old new t (y +ℤ pos 1) (x -ℤ pos 1) same,
      place_cell_same old new t (y +ℤ pos 1) x same,
      place_cell_same old new t (y +ℤ pos 1) (x +ℤ pos 1) same,
    ) refl

pub with_row_same : (history : History) (t y : ℕ) → with_row history t y (get_or (rows_at history t) y []) ≡ history
with_row_same history t y = ap (set history t) (set-get_or (rows_at history t) y []) ∙ set-get_or history t []

-- a cell of a row that is written
pub with_cell-with_row : (history : History) (t y x : ℕ) (row : List Bool) (live : Bool) → t < length history → y < length (rows_at history t)
    → with_cell (with_row history t y row) t y x live ≡ with_row history t y (set row x live)
with_cell-with_row history t y x row live t_in y_in =
    let rows = rows_at history t in
    let there : rows_at (with_row history t y row) t ≡ set rows y row = get_or-set_same history t (set rows y row) [] t_in in
    let here : get_or (set rows y row) y [] ≡ row = get_or-set_same rows y row [] y_in in
    ap (λ rs. set (with_row history t y row) t (set rs y (set (get_or rs y []) x live))) there
    ∙ (ap (λ r. set (with_row history t y row) t (set (set rows y row) y (set r x live))) here
    ∙ (ap (set (with_row history t y row) t) (set_set rows y row (set row x live)) ∙ set_set history t (set rows y row) (set rows y (set row x live))))

-- the other generations and the sizes stay
pub rows_at-set : (history : History) (t u : ℕ) (rows : List (List Bool)) → u ≢ t → rows_at (set history t rows) u ≡ rows_at history u
rows_at-set history t u rows other = get_or-set_other history t u rows [] other

pub height_of-set : (history : History) (t : ℕ) (rows : List (List Bool)) → height_of (set history (t + 1) rows) ≡ height_of history
height_of-set history t rows = ap length (rows_at-set history (t + 1) 0 rows (λ same. absurd (omega (arith, same))))

pub width_of-set : (history : History) (t : ℕ) (rows : List (List Bool)) → width_of (set history (t + 1) rows) ≡ width_of history
width_of-set history t rows = ap (λ rs. length (get_or rs 0 [])) (rows_at-set history (t + 1) 0 rows (λ same. absurd (omega (arith, same))))

pub rows_count : (generations height width t : ℕ) (history : History) → HasSizes generations height width history → t < length history → length (rows_at history t) ≡ height
rows_count generations height width t history sizes t_in =
    eqb-true (length (rows_at history t)) height (and_parts (length (rows_at history t) == height) _ (shape_at height width history t sizes.1 t_in)).0

pub cells_count : (generations height width t y : ℕ) (history : History) → HasSizes generations height width history → t < length history → y < height → length (get_or (rows_at history t) y []) ≡ width
cells_count generations height width t y history sizes t_in y_in =
    let rows = rows_at history t in
    let shape = and_parts (length rows == height) (list_all (λ row. length row == width) rows) (shape_at height width history t sizes.1 t_in) in
    width_at width rows y shape.1 (omega (arith, eqb-true (length rows) height shape.0, y_in))

-- one more cell of a row follows
pub cell_more : (table : List Bool) (old now : History) (t y x : ℕ) (live : Bool) → HasSizes (length old) (height_of old) (width_of old) old → t + 1 < length old → y < height_of old → x < width_of old
    → now ≡ with_row old (t + 1) y (mixed (successor_row table old t y) (get_or (rows_at old (t + 1)) y []) x)
    → live ≡ successor table (nine table now t (pos y) (pos x))
    → with_cell now (t + 1) y x live ≡ with_row old (t + 1) y (mixed (successor_row table old t y) (get_or (rows_at old (t + 1)) y []) (x + 1))
cell_more table old now t y x live sizes t_in y_in x_in so_far is =
    let row = successor_row table old t y in
    let before = get_or (rows_at old (t + 1)) y [] in
    let written = mixed row before x in
    let y_there : y < length (rows_at old (t + 1)) = omega (arith, rows_count (length old) (height_of old) (width_of old) (t + 1) old sizes t_in, y_in) in
    let same_rows : rows_at now t ≡ rows_at old t =
    ap (λ h. rows_at h t) so_far ∙ rows_at-set old (t + 1) t (set (rows_at old (t + 1)) y written) (λ same. absurd (omega (arith, same))) in
    let in_new : x < length row = omega (arith, length-map-range_with_len (λ x. successor table (nine table old t (pos y) (pos x))) 0 (width_of old), x_in) in
    let in_old : x < length before = omega (arith, cells_count (length old) (height_of old) (width_of old) (t + 1) y old sizes t_in y_in, x_in) in
    let value : live ≡ get_or row x false =
    is ∙ (ap (successor table) (nine_same table old now t (pos y) (pos x) same_rows)
    ∙ sym (get_or-map-range_with_len (λ x. successor table (nine table old t (pos y) (pos x))) 0 (width_of old) x x false x_in (omega arith))) in
    ap (λ h. with_cell h (t + 1) y x live) so_far
    ∙ (with_cell-with_row old (t + 1) y x written live t_in y_there
    ∙ (ap (λ v. with_row old (t + 1) y (set written x v)) value
    ∙ ap (with_row old (t + 1) y) (mixed_more row before x false in_new in_old)))

map_all : {X : Type 0} (f g : ℕ → X) → ((n : ℕ) → f n ≡ g n) → (numbers : List ℕ) → map f numbers ≡ map g numbers
map_all f g same [] = refl
map_all f g same (n ∷ numbers) = rw (same n, map_all f g same numbers) refl

row_same : (table : List Bool) (old now : History) (t y : ℕ) → rows_at now t ≡ rows_at old t → width_of now ≡ width_of old → successor_row table now t y ≡ successor_row table old t y
row_same table old now t y same_rows same_width =
    ap (λ width. map (λ x. successor table (nine table now t (pos y) (pos x))) (range_with_len 0 width)) same_width
    ∙ map_all (λ x. successor table (nine table now t (pos y) (pos x))) (λ x. successor table (nine table old t (pos y) (pos x)))
    (λ x. ap (successor table) (nine_same table old now t (pos y) (pos x) same_rows)) (range_with_len 0 (width_of old))

-- one more row follows
pub row_more : (table : List Bool) (old now : History) (t y : ℕ) → HasSizes (length old) (height_of old) (width_of old) old → t + 1 < length old → y < height_of old
    → now ≡ set old (t + 1) (mixed (successors table old t) (rows_at old (t + 1)) y)
    → with_row now (t + 1) y (successor_row table now t y) ≡ set old (t + 1) (mixed (successors table old t) (rows_at old (t + 1)) (y + 1))
row_more table old now t y sizes t_in y_in so_far =
    let rows = successors table old t in
    let before = rows_at old (t + 1) in
    let written = mixed rows before y in
    let same_rows : rows_at now t ≡ rows_at old t = ap (λ h. rows_at h t) so_far ∙ rows_at-set old (t + 1) t written (λ same. absurd (omega (arith, same))) in
    let same_width : width_of now ≡ width_of old = ap width_of so_far ∙ width_of-set old t written in
    let in_new : y < length rows = omega (arith, length-map-range_with_len (successor_row table old t) 0 (height_of old), y_in) in
    let in_old : y < length before = omega (arith, rows_count (length old) (height_of old) (width_of old) (t + 1) old sizes t_in, y_in) in
    let row : successor_row table now t y ≡ get_or rows y [] =
    row_same table old now t y same_rows same_width ∙ sym (get_or-map-range_with_len (successor_row table old t) 0 (height_of old) y y [] y_in (omega arith)) in
    let there : rows_at now (t + 1) ≡ written = ap (λ h. rows_at h (t + 1)) so_far ∙ get_or-set_same old (t + 1) written [] t_in in
    ap (λ r. with_row now (t + 1) y r) row
    ∙ (ap (λ rs. set now (t + 1) (set rs y (get_or rows y []))) there
    ∙ (ap (set now (t + 1)) (mixed_more rows before y [] in_new in_old)
    ∙ (ap (λ h. set h (t + 1) (mixed rows before (y + 1))) so_far ∙ set_set old (t + 1) written (mixed rows before (y + 1)))))

-- what the cells of a generation become depends on its rows and on the sizes
pub successors_same : (table : List Bool) (old now : History) (t : ℕ) → rows_at now t ≡ rows_at old t → rows_at now 0 ≡ rows_at old 0 → successors table now t ≡ successors table old t
successors_same table old now t same_rows same_first =
    let width : width_of now ≡ width_of old = ap (λ rows. length (get_or rows 0 [])) same_first in
    ap (λ height. map (successor_row table now t) (range_with_len 0 height)) (ap length same_first)
    ∙ map_all (successor_row table now t) (successor_row table old t) (λ y. row_same table old now t y same_rows width) (range_with_len 0 (height_of old))
