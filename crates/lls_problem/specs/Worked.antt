-- Worked problems of one free cell in two generations, and what solves them without obeying the rule on the whole plane.
use Rattle.std.specs.Prelude.{Bool, true, false, List, [], ◌∷◌}
use Rattle.lls_rule.specs.Rule.{table_of, has_bit}
use Rattle.lls_grid.specs.History.{History}
use Rattle.lls_search_file.specs.declared.cell.Kind.TheVariants.{Free}
use Rattle.lls_problem.specs.declared.demands.Edge.{Edge}
use Rattle.lls_problem.specs.declared.demands.Edge.TheVariants.{Framed, Bare}
use Rattle.lls_problem.specs.Problem.{PosedProblem, edge_alone}

-- each cell becomes what its right neighbour is: all patterns move to the left
abbrev pub to_the_left : List Bool
to_the_left = table_of (λ nine. has_bit nine 3)

-- the cell of generation 1 may be marked
abbrev pub one_cell : Edge → Bool → PosedProblem
one_cell edge mark = record {
  posed = record { generations = 2; height = 1; width = 1; cells = record { mark = false; kind = Free } ∷ record { mark = mark; kind = Free } ∷ []; names = [] };
  rule = to_the_left;
  demands = edge_alone edge;
}

abbrev pub two_generations : Bool → Bool → History
two_generations early late = ((early ∷ []) ∷ []) ∷ ((late ∷ []) ∷ []) ∷ []

-- under an open edge a live cell leaves the grid, and isn't there where it should be
abbrev pub open_problem : PosedProblem
open_problem = one_cell Bare false

abbrev pub gone : History
gone = two_generations true false

-- under a closed edge a marked cell is live from nothing
abbrev pub marked_problem : PosedProblem
marked_problem = one_cell Framed true

abbrev pub from_nothing : History
from_nothing = two_generations false true
