use Rattle.std.proofs.Common.{◌≡◌, ◌≤◌, take, true}
use Rattle.lls_lit.specs.Formula.{is_within}
use Rattle.lls_lit.specs.declared.var.TheConstants.Var.{MOST}
use Rattle.lls_hinting.proofs.survey.greater.Given as goal

abbrev pub invariant-loop-lit : goal.invariant-loop-lit
invariant-loop-lit l = record {
  most : l.vars ≤ MOST;
  before : l.before ≤ l.vars;
  within : is_within l.vars (take l.lit-index l.lits) ≡ true;
}
