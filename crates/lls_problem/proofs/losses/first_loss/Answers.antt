use Rattle.std.proofs.Common.{ap, sym, ◌∙◌}
use Rattle.lls_problem.proofs.losses.first_loss.Goals as goal

pub first_of-requires-clause-period : goal.first_of-requires-clause-period
first_of-requires-clause-period c =
    c.demands.ensures.kept.period c.in-Some.period (ap (λ d. d.period) (sym c.demands.ensures.value) ∙ c.in-Some.is)
