use Rattle.std.proofs.Common.{◌≤◌, subst, sym}
use Rattle.lls_problem.specs.Bounds.{grid_size}
use Rattle.lls_least.proofs.Solutions.{live_cells-le}
use Rattle.lls_answers.proofs.extremal.asked_beyond.Goals as goal

pub beyond-requires-clause-within : goal.beyond-requires-clause-within
beyond-requires-clause-within c =
    subst (λ n. n ≤ grid_size c.args.asked.now.problem.posed) (sym c.population-live.ensures)
    (live_cells-le c.args.asked.now.problem c.args.history.now c.posed-posed.ensures.kept.generations.0 c.requires.solution)
