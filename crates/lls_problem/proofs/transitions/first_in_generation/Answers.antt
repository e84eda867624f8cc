use Rattle.std.proofs.Common.{below_more}
use Rattle.lls_problem.specs.Transitions.{KeepsLine}
use Rattle.lls_problem.proofs.transitions.first_in_generation.Goals as goal

pub loop-line-preserved : goal.loop-line-preserved
loop-line-preserved c =
    below_more (KeepsLine c.args.problem.now c.args.history.now c.args.t) c.loop-line.line c.loop-line.invariant c.in_default.ensures
