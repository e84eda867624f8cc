use Rattle.lls_transition.specs.Transition.{is_forbidden}
use Rattle.lls_transition.proofs.Tabled.{IsFilled}
use Rattle.lls_transition.proofs.table.table_of.Given as goal

-- the rows so far are forbidden or not, and no later row is
abbrev pub invariant-loop-row : goal.invariant-loop-row
invariant-loop-row l = IsFilled 1024 (is_forbidden l.rule) l.row l.table
