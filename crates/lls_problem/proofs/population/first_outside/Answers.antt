use Rattle.std.proofs.Common.{ap, sym, ◌∙◌}
use Rattle.lls_problem.specs.declared.demands.Demands.{Demands}
use Rattle.lls_problem.proofs.Populated.{outside_found, outside_later}
use Rattle.lls_problem.proofs.population.first_outside.Goals as goal

pub returns-then-excludes : goal.returns-then-excludes
returns-then-excludes c =
    outside_found c.args.problem.now c.args.history.now c.items-bound-items.result.now c.loop-bound.bound-index c.population-live.result _
    (c.items-bound-items.ensures ∙ ap (λ (d : Demands). d.bounds) c.demands.ensures.value)
    c.loop-bound.invariant c.loop-bound-test.true c.population-live.ensures (sym c.excludes.ensures ∙ c.if-excludes.true)

pub loop-bound-preserved : goal.loop-bound-preserved
loop-bound-preserved c =
    outside_later c.args.history.now c.items-bound-items.result.now c.loop-bound.bound-index c.population-live.result _
    c.loop-bound.invariant c.loop-bound-test.true c.population-live.ensures (sym c.excludes.ensures ∙ c.if-excludes.false)
