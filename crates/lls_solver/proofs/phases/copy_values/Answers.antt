use Rattle.std.proofs.Common.{arith}
use Rattle.lls_solver.proofs.Levels.{variable_read}
use Rattle.lls_solver.proofs.phases.copy_values.Goals as goal

pub bounds-values-index : goal.bounds-values-index
bounds-values-index c =
    omega (arith, variable_read c.args.trail.now c.loop-k.k c.lit-lit.result c.len-k-end.ensures.kept c.lit-lit.ensures, c.index.ensures.place, c.var.ensures.var, c.requires, c.loop-k.invariant.values)
