use Rattle.std.proofs.Common.{arith}
use Rattle.lls_problem.specs.Bounds.{grid_size}
use Rattle.lls_least.proofs.Made.{within-at_most}
use Rattle.lls_least.proofs.bounding.fewer.Goals as goal

pub bounded-requires-clause-within : goal.bounded-requires-clause-within
bounded-requires-clause-within c = within-at_most (grid_size c.args.problem.now.posed) c.args.k (omega (arith, c.requires.below))
