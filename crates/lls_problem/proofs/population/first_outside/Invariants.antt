use Rattle.std.proofs.Common.{◌≡◌, take, None}
use Rattle.std.specs.List.{find}
use Rattle.lls_grid.specs.Changes.{population}
use Rattle.lls_problem.specs.Bounds.{excludes}
use Rattle.lls_problem.proofs.population.first_outside.Given as goal

-- the bounds so far are kept
abbrev pub invariant-loop-bound : goal.invariant-loop-bound
invariant-loop-bound l = find (λ bound. excludes bound (population l.history bound.generation)) (take l.bound-index l.bound-items) ≡ None
