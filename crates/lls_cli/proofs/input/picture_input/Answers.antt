use Rattle.std.proofs.Common.{◌≤◌, ◌*◌, arith}
use Rattle.lls_grid.specs.declared.history.TheConstants.History.{MOST_CELLS}
use Rattle.lls_rle.proofs.GridSizes.{has_grid}
use Rattle.lls_cli.proofs.input.picture_input.Goals as goal

pub evolve-requires-clause-most : goal.evolve-requires-clause-most
evolve-requires-clause-most c =
    let file = c.posed.inside in
    let kept = c.posed.invariant in
    let grid = has_grid file.height file.width c.args.bytes.now c.in-Ok.first (omega (arith, kept.height)) c.in-Ok.ensures in
    let cells : file.width * (file.height * file.generations) ≤ MOST_CELLS = omega (arith, kept.count, kept.most) in
    rw (grid.high, grid.wide) cells
