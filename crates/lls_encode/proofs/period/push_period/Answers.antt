use Rattle.std.proofs.Common.{◌≡◌, ◌∙◌, ap, sym, Some}
use Rattle.lls_problem.specs.declared.demands.Demands.{Demands}
use Rattle.lls_encode.proofs.period.push_period.Goals as goal

pub push_returns-requires-clause-period : goal.push_returns-requires-clause-period
push_returns-requires-clause-period c =
    let asked : c.args.problem.now.demands.period ≡ Some c.in-Some.period = sym (ap (λ (d : Demands). d.period) c.demands.ensures.value) ∙ c.in-Some.is in
    c.demands.ensures.kept.period c.in-Some.period asked
