use Rattle.lls_rule.proofs.Tables.{same_table_of}
use Rattle.std.proofs.Common.{arith}
use Rattle.lls_hensel.specs.Sides.{with_entries}
use Rattle.lls_hensel.proofs.group.Group.beside.Goals as goal

pub returns : goal.returns
unfolding with_entries
returns c = same_table_of c.loop-nine.both _ c.loop-nine.invariant.whole (λ n h. c.loop-nine.invariant.done n (omega arith))
