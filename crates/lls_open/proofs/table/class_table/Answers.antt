use Rattle.std.proofs.Common.{arith}
use Rattle.lls_transition.proofs.Tabled.{filled_none, filled_all}
use Rattle.lls_open.specs.Formula.{is_class_forbidden, class_table}
use Rattle.lls_open.proofs.table.class_table.Goals as goal

pub loop-row-init : goal.loop-row-init
loop-row-init c = filled_none 2048 (is_class_forbidden c.args.class) c.empty-table.result c.empty-table.ensures

pub returns : goal.returns
unfolding class_table
returns c = filled_all 2048 (is_class_forbidden c.args.class) c.loop-row.row c.loop-row.table (omega (arith, c.row_count-row-end.ensures.inputs)) c.loop-row.invariant
