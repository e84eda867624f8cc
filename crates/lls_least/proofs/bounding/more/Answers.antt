use Rattle.lls_problem.specs.Bounds.{grid_size}
use Rattle.lls_least.proofs.Made.{within-at_least}
use Rattle.lls_least.proofs.bounding.more.Goals as goal

pub bounded-requires-clause-within : goal.bounded-requires-clause-within
bounded-requires-clause-within c = within-at_least (grid_size c.args.problem.now.posed) c.args.k c.requires.within
