use Rattle.std.proofs.Common.{arith}
use Rattle.lls_transition.proofs.Tabled.{filled_none, filled_all}
use Rattle.lls_open.specs.Formula.{is_settled_forbidden, settled_table}
use Rattle.lls_open.proofs.table.settled_table.Goals as goal

pub loop-row-init : goal.loop-row-init
loop-row-init c = filled_none 1024 (is_settled_forbidden c.args.low.now c.args.classes.now) c.empty-table.result c.empty-table.ensures

pub returns : goal.returns
unfolding settled_table
returns c = filled_all 1024 (is_settled_forbidden c.args.low.now c.args.classes.now) c.loop-row.row c.loop-row.table (omega (arith, c.row_count-row-end.ensures.inputs)) c.loop-row.invariant
