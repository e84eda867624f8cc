use Rattle.std.proofs.Common.{ap, sym, ◌∙◌}
use Rattle.lls_encode.proofs.exact.push_exact.Goals as goal

pub push_parts-requires-clause-period : goal.push_parts-requires-clause-period
push_parts-requires-clause-period c =
    c.demands-demands.ensures.kept.period c.in-Some.period (ap (λ d. d.period) (sym c.demands-demands.ensures.value) ∙ c.in-Some.is)
