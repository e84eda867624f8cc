use Rattle.std.proofs.Common.{arith}
use Rattle.lls_solver.proofs.Conflicts.{current_most, level_most}
use Rattle.lls_solver.proofs.glue.LevelStamps.glue.Goals as goal

pub index-requires : goal.index-requires
index-requires c =
    let t = c.args.trail.now in
    omega (arith, level_most t c.var.result c.known_level-level.result c.current.ensures.kept c.known_level-level.ensures, current_most t c.current.ensures.kept, c.requires.stamps, c.loop-lit.invariant.stamps)

pub index_mut-requires : goal.index_mut-requires
index_mut-requires c =
    let t = c.args.trail.now in
    omega (arith, level_most t c.var.result c.known_level-level.result c.current.ensures.kept c.known_level-level.ensures, current_most t c.current.ensures.kept, c.requires.stamps, c.loop-lit.invariant.stamps)
