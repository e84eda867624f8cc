use Rattle.std.proofs.Common.{ap, sym, ◌∙◌}
use Rattle.lls_problem.proofs.exact.first_shorter.Goals as goal

pub first_of-requires-clause-period : goal.first_of-requires-clause-period
first_of-requires-clause-period c =
    c.demands-demands.ensures.kept.period c.in-Some.period (ap (λ d. d.period) (sym c.demands-demands.ensures.value) ∙ c.in-Some.is)
