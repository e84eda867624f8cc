use Rattle.std.proofs.Common.{◌≡◌, false, take}
use Rattle.lls_lit.specs.Formula.{satisfies_clause}
use Rattle.lls_cnf.proofs.assignment.has_true.Given as goal

abbrev pub invariant-loop-lit : goal.invariant-loop-lit
invariant-loop-lit l = satisfies_clause l.values (take l.lit-index l.clause) ≡ false
