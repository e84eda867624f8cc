-- A history is made of the pieces of its cells.
use Rattle.std.proofs.Common.{◌≡◌, ℕ, ◌*◌, ◌==◌, true, List, [], ◌∷◌, ◌++◌, length, take, drop, flat_map, refl, sym, ap, ◌∙◌, arith, length-append}
use Rattle.std.specs.List.{list_all}
use Rattle.std.proofs.lemmas.Bool.{and_parts, and_from, eqb-true}
use Rattle.std.proofs.lemmas.Grind.{flat_map-append}
use Rattle.std.proofs.lemmas.List.Folds.{list_all-append}
use Rattle.std.proofs.Math.Seq.{take-append_seam, drop-append_seam}
use Rattle.lls_grid.specs.Chunks.{chunked}
use Rattle.lls_grid.specs.History.{History, HasSizes, has_shape, folded, cells_of, cells_of_rows}
use Rattle.lls_grid.proofs.Chunks.{folded-chunked}
use Rattle.lls_grid.proofs.InOrder.{length-cells_of}

-- lists of one length, joined and cut again
chunked-joined : {X : Type 0} (size : ℕ) (pieces : List (List X)) → list_all (λ piece. length piece == size) pieces ≡ true
    → chunked size (length pieces) (flat_map (λ piece. piece) pieces) ≡ pieces
chunked-joined size [] all = refl
chunked-joined size (piece ∷ pieces) all =
    let parts = and_parts (length piece == size) (list_all (λ piece. length piece == size) pieces) all in
    let rest = flat_map (λ piece. piece) pieces in
    let sized : size ≡ length piece = sym (eqb-true (length piece) size parts.0) in
    ap (λ n. take n (piece ++ rest) ∷ chunked size (length pieces) (drop n (piece ++ rest))) sized
    ∙ (rw (take-append_seam piece rest, drop-append_seam piece rest) refl ∙ ap (λ more. piece ∷ more) (chunked-joined size pieces parts.1))

joined_twice : (history : History) → cells_of history ≡ flat_map (λ row. row) (flat_map (λ rows. rows) history)
joined_twice [] = refl
joined_twice (rows ∷ history) =
    ap (λ cells. cells_of_rows rows ++ cells) (joined_twice history) ∙ sym (flat_map-append (λ row. row) rows (flat_map (λ rows. rows) history))

heights : (height width : ℕ) (history : History) → list_all (has_shape height width) history ≡ true → list_all (λ rows. length rows == height) history ≡ true
heights height width [] all = refl
heights height width (rows ∷ history) all =
    let parts = and_parts (has_shape height width rows) (list_all (has_shape height width) history) all in
    and_from (length rows == height) (list_all (λ rows. length rows == height) history) (and_parts (length rows == height) _ parts.0).0 (heights height width history parts.1)

widths : (height width : ℕ) (history : History) → list_all (has_shape height width) history ≡ true → list_all (λ row. length row == width) (flat_map (λ rows. rows) history) ≡ true
widths height width [] all = refl
widths height width (rows ∷ history) all =
    let parts = and_parts (has_shape height width rows) (list_all (has_shape height width) history) all in
    list_all-append (λ row. length row == width) rows (flat_map (λ rows. rows) history)
    ∙ and_from (list_all (λ row. length row == width) rows) _ (and_parts (length rows == height) (list_all (λ row. length row == width) rows) parts.0).1 (widths height width history parts.1)

count_rows : (height width : ℕ) (history : History) → list_all (has_shape height width) history ≡ true → length (flat_map (λ rows. rows) history) ≡ height * length history
count_rows height width [] all = omega arith
count_rows height width (rows ∷ history) all =
    let parts = and_parts (has_shape height width rows) (list_all (has_shape height width) history) all in
    let high = eqb-true (length rows) height (and_parts (length rows == height) (list_all (λ row. length row == width) rows) parts.0).0 in
    omega (arith, length-append rows (flat_map (λ rows. rows) history), count_rows height width history parts.1, high)

-- a history is made of the pieces of its cells
pub chunked-cells_of : (generations height width : ℕ) (history : History) → HasSizes generations height width history
    → chunked height generations (chunked width (height * generations) (cells_of history)) ≡ history
chunked-cells_of generations height width history sizes =
    let rows = flat_map (λ rows. rows) history in
    let count : height * generations ≡ length rows = omega (arith, count_rows height width history sizes.1, ap (λ n. height * n) sizes.0) in
    ap (λ cells. chunked height generations (chunked width (height * generations) cells)) (joined_twice history)
    ∙ (ap (λ n. chunked height generations (chunked width n (flat_map (λ row. row) rows))) count
    ∙ (ap (chunked height generations) (chunked-joined width rows (widths height width history sizes.1))
    ∙ (ap (λ n. chunked height n rows) (sym sizes.0) ∙ chunked-joined height history (heights height width history sizes.1))))

pub folded-cells_of : (generations height width : ℕ) (history : History) → HasSizes generations height width history → folded generations height width (cells_of history) ≡ history
folded-cells_of generations height width history sizes =
    folded-chunked generations height width (cells_of history) (length-cells_of generations height width history sizes) ∙ chunked-cells_of generations height width history sizes
