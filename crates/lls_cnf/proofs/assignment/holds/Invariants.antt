use Rattle.std.proofs.Common.{◌≡◌, true, take}
use Rattle.lls_lit.specs.Formula.{satisfies}
use Rattle.lls_cnf.proofs.assignment.holds.Given as goal

abbrev pub invariant-loop-k : goal.invariant-loop-k
invariant-loop-k l = satisfies l.values (take l.k l.formula.clauses) ≡ true
