use Rattle.std.proofs.Common.{ap, sym, ◌∙◌}
use Rattle.lls_problem.proofs.Fitting.{missing_of_bounds, missing_behind_bounds}
use Rattle.lls_problem.proofs.problem.missing_generation.Goals as goal

pub returns-in-Some : goal.returns-in-Some
returns-in-Some c =
    missing_of_bounds c.args.posed.now c.args.demands.now c.posed.inside.generations c.in-Some.t c.items.result.now (ap (λ f. f.generations) c.posed.view_is) c.items.ensures (sym c.in-Some.is ∙ c.missing_bound.ensures)

pub returns-in-None : goal.returns-in-None
returns-in-None c =
    missing_behind_bounds c.args.posed.now c.args.demands.now c.posed.inside.generations c.items.result.now c.missing_of_two.result (ap (λ f. f.generations) c.posed.view_is) c.items.ensures (sym c.in-None.is ∙ c.missing_bound.ensures) c.missing_of_two.ensures
