-- The first bound that the live cells of its generation are outside of.
use Rattle.std.specs.Prelude.{List, find, Option, option_map}
use Rattle.lls_grid.specs.History.{History}
use Rattle.lls_grid.specs.Changes.{population}
use Rattle.lls_problem.specs.declared.bounds.Bound.{Bound}
use Rattle.lls_problem.specs.declared.population.Count.{Count}
use Rattle.lls_problem.specs.Problem.{PosedProblem}
use Rattle.lls_problem.specs.Bounds.{excludes}

-- the live cells of a bound's generation
abbrev pub count_for : History → Bound → Count
count_for history bound = record { t = bound.generation; live = population history bound.generation }

abbrev pub first_outside_of : History → List Bound → Option Count
first_outside_of history bounds = option_map (count_for history) (find (λ bound. excludes bound (population history bound.generation)) bounds)

abbrev pub first_outside : PosedProblem → History → Option Count
first_outside problem history = first_outside_of history problem.demands.bounds
