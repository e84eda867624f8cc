use Rattle.lls_transition.proofs.Tabled.{IsFilled}
use Rattle.lls_open.specs.Formula.{is_settled_forbidden}
use Rattle.lls_open.proofs.table.settled_table.Given as goal

-- the rows so far are forbidden or not, and no later row is
abbrev pub invariant-loop-row : goal.invariant-loop-row
invariant-loop-row l = IsFilled 1024 (is_settled_forbidden l.low l.classes) l.row l.table
