use Rattle.std.proofs.Common.{◌≡◌, ◌∙◌, ◌*◌, ◌<◌, ap, arith, length}
use Rattle.lls_grid.specs.History.{rows_at, height_of, width_of}
use Rattle.lls_grid.proofs.Folded.{HasSizes-shape, length-folded}
use Rattle.lls_grid.proofs.Growth.{rows_at-folded_front, take_one}
use Rattle.lls_grid.proofs.history.History.begin.Goals as goal

pub returns-clause-sizes : goal.returns-clause-sizes
returns-clause-sizes c =
    let some : 0 < c.args.generations = omega (arith, c.requires.generations) in
    let high : c.sizes.result.height ≡ height_of c.args.first.now = ap (λ sizes. sizes.height) c.sizes.ensures.sizes in
    let wide : c.sizes.result.width ≡ width_of c.args.first.now = ap (λ sizes. sizes.width) c.sizes.ensures.sizes in
    let rows : 0 < c.sizes.result.height = omega (arith, high, c.sizes.ensures.kept.height) in
    rw (c.from_cells.ensures, ← high, ← wide) (HasSizes-shape c.args.generations c.sizes.result.height c.sizes.result.width c.in_ok-cells.cells.items)

pub returns-clause-begins : goal.returns-clause-begins
returns-clause-begins c =
    let front = c.cells_at.result.now in
    let high : c.sizes.result.height ≡ height_of c.args.first.now = ap (λ sizes. sizes.height) c.sizes.ensures.sizes in
    let wide : c.sizes.result.width ≡ width_of c.args.first.now = ap (λ sizes. sizes.width) c.sizes.ensures.sizes in
    let size : length front ≡ c.sizes.result.width * c.sizes.result.height = rw (high, wide) c.cells_at.ensures.count in
    let count : length c.from_cells.result ≡ c.args.generations = ap length c.from_cells.ensures ∙ length-folded _ _ _ c.in_ok-cells.cells.items in
    take_one c.from_cells.result c.args.first.now (omega (arith, count, c.requires.generations)) (omega (arith, c.sizes.ensures.kept.generations))
    (ap (λ history. rows_at history 0) c.from_cells.ensures
    ∙ (rows_at-folded_front c.args.generations c.sizes.result.height c.sizes.result.width c.in_ok-cells.cells.items front c.in_ok-cells.ensures.count (omega (arith, c.requires.generations)) size c.in_ok-cells.ensures.first
    ∙ rw (high, wide) c.cells_at.ensures.rows))
