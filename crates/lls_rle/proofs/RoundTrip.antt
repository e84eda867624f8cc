-- A printed text is read as the generation.
use Rattle.std.proofs.Common.{◌≡◌, ◌<◌, eqb, List, [], ◌∷◌, length, Ok, ap, ◌∙◌, ℕ, Bool, arith}
use Rattle.std.specs.List.{list_all}
use Rattle.std.proofs.lemmas.Bool.{and_parts}
use Rattle.lls_hensel.specs.Printing.{rule_text}
use Rattle.lls_grid.specs.History.{History, IsHistory, rows_at, height_of, width_of}
use Rattle.lls_grid.proofs.InOrder.{shape_at}
use Rattle.lls_grid.proofs.Steps.{rows_count}
use Rattle.lls_rle.specs.Picture.{pictured}
use Rattle.lls_rle.specs.Reading.{read_body, rle_of}
use Rattle.lls_rle.specs.Printing.{items_of_rows, body_text, rle_text}
use Rattle.lls_rle.proofs.ItemRows.{small_rows, small_weaker}
use Rattle.lls_rle.proofs.Pictured.{pictured-items_of_rows}
use Rattle.lls_rle.proofs.Bodies.{body-read}
use Rattle.lls_rle.proofs.RuleBytes.{rule_printed}
use Rattle.lls_rle.proofs.Headers.{body_of-printed}

pub rle_of-rle_text : (table : List Bool) (history : History) (t : ℕ) → IsHistory history → t < length history
    → rle_of (height_of history) (width_of history) (rle_text table history t) ≡ Ok (rows_at history t ∷ [])
rle_of-rle_text table history t h t_in =
    let rows = rows_at history t in
    let items = items_of_rows rows in
    let height = height_of history in
    let width = width_of history in
    let count : length rows ≡ height = rows_count (length history) height width t history h.sizes t_in in
    let even = (and_parts (eqb (length rows) height) (list_all (λ row. eqb (length row) width) rows) (shape_at height width history t h.sizes.1 t_in)).1 in
    ap (read_body height width) (body_of-printed width height (rule_text table) (body_text items) h.width.1 h.height.1 (rule_printed table))
    ∙ ap (pictured height width) (body-read items 2 (small_weaker 4160 999999 items (omega arith) (small_rows history t 0 h t_in)))
    ∙ pictured-items_of_rows height width rows count even
