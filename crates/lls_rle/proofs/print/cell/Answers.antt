use Rattle.std.proofs.Common.{◌≡◌, ◌<◌, ◌∙◌, arith, pos, w32, to_z}
use Rattle.std.proofs.lemmas.Int.{ints}
use Rattle.lls_rle.proofs.Cells.{at-cell_of}
use Rattle.lls_rle.proofs.print.cell.Goals as goal

pub returns : goal.returns
returns c =
    let kept = c.sizes-sizes.ensures.kept in
    let row : c.args.y < 64 = omega (arith, c.requires.row, kept.height.1) in
    let column : c.args.x < 64 = omega (arith, c.requires.column, kept.width.1) in
    let y : to_z w32 c.args.y ≡ pos c.args.y = omega (arith, ints) in
    let x : to_z w32 c.args.x ≡ pos c.args.x = omega (arith, ints) in
    rw y at rw x at c.at.ensures ∙ at-cell_of c.args.rule.now c.args.history.now c.args.t c.args.y c.args.x kept c.requires.generation c.requires.row c.requires.column
