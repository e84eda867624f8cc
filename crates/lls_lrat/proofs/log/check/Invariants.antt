use Rattle.std.proofs.Common.{◌≡◌, false, drop}
use Rattle.std.specs.Prelude.{fold}
use Rattle.lls_lrat.specs.Verdict.{start, step_taken}
use Rattle.lls_lrat.specs.UnderWay.{at_line}
use Rattle.lls_lrat.proofs.log.check.Given as goal

abbrev pub invariant-loop-k : goal.invariant-loop-k
invariant-loop-k l = record {
  formula : l.checker.formula ≡ l.formula;
  going : l.checker.done ≡ false;
  taken : fold step_taken (at_line l.checker l.k) (drop l.k l.log.steps) ≡ fold step_taken (start l.formula) l.log.steps;
}
