use Rattle.std.proofs.Common.{◌≡◌, ◌≤◌, true, take}
use Rattle.lls_lit.specs.Formula.{is_within}
use Rattle.lls_lit.specs.declared.var.TheConstants.Var.{MOST}
use Rattle.lls_lrat.proofs.checker.greatest_variable.Given as goal

abbrev pub invariant-loop-lit : goal.invariant-loop-lit
invariant-loop-lit l = (is_within l.most (take l.lit-index l.lits) ≡ true) × (l.most ≤ MOST)
