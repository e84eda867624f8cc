use Rattle.lls_lrat.proofs.Checks.{IsChecking-start}
use Rattle.lls_lrat.proofs.checker.Checker.new.Goals as goal

pub invariant_of-result : goal.invariant_of-result
invariant_of-result c =
    rw (c.in_ok-live.ensures, c.in_ok-assumed.ensures) (IsChecking-start c.args.formula.now c.vars.result c.vars.ensures.within)
