use Rattle.std.proofs.Common.{arith}
use Rattle.lls_transition.specs.Transition.{is_forbidden, table_of}
use Rattle.lls_transition.proofs.Tabled.{filled_none, filled_all}
use Rattle.lls_transition.proofs.table.table_of.Goals as goal

pub loop-row-init : goal.loop-row-init
loop-row-init c = filled_none 1024 (is_forbidden c.args.rule.now) c.empty-table.result c.empty-table.ensures

pub returns : goal.returns
unfolding table_of
returns c = filled_all 1024 (is_forbidden c.args.rule.now) c.loop-row.row c.loop-row.table (omega (arith, c.row_count-row-end.ensures.inputs)) c.loop-row.invariant
