use Rattle.std.proofs.Common.{below_more}
use Rattle.lls_problem.specs.Transitions.{KeepsRule}
use Rattle.lls_problem.proofs.transitions.first_in_line.Goals as goal

pub loop-column-preserved : goal.loop-column-preserved
loop-column-preserved c =
    below_more (KeepsRule c.args.problem.now c.args.history.now c.args.t c.args.line) c.loop-column.column c.loop-column.invariant c.if-not-keeps_rule.ensures
