-- A cell of a history.
use Rattle.std.proofs.Common.{◌≡◌, ◌<◌, ℕ, Bool, false, List, [], length, get_or, ap, arith}
use Rattle.std.specs.Prelude.{pos, unwrap_or}
use Rattle.std.proofs.lemmas.Option.{slice_get-get_or}
use Rattle.lls_rule.specs.Rule.{background}
use Rattle.lls_grid.specs.History.{History, IsHistory, at, height_of, width_of, rows_at}
use Rattle.lls_grid.proofs.Steps.{cells_count}
use Rattle.lls_rle.specs.Stacked.{cell_of}

pub at-cell_of : (table : List Bool) (history : History) (t y x : ℕ) → IsHistory history → t < length history → y < height_of history → x < width_of history
    → at table history t (pos y) (pos x) ≡ cell_of history t y x
at-cell_of table history t y x h t_in y_in x_in =
    let row = get_or (rows_at history t) y [] in
    let long : length row ≡ width_of history = cells_count (length history) (height_of history) (width_of history) t y history h.sizes t_in y_in in
    ap (λ cell. unwrap_or cell (background table t)) (slice_get-get_or row x false (omega (arith, long, x_in)))
