use Rattle.lls_transition.proofs.Tabled.{IsFilled}
use Rattle.lls_open.specs.Formula.{is_class_forbidden}
use Rattle.lls_open.proofs.table.class_table.Given as goal

-- the rows so far are forbidden or not, and no later row is
abbrev pub invariant-loop-row : goal.invariant-loop-row
invariant-loop-row l = IsFilled 2048 (is_class_forbidden l.class) l.row l.table
