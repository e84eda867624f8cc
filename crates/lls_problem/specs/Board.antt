-- For private contracts alone: places at which a history can be read.
use Rattle.std.specs.Prelude.{◌<◌}
use Rattle.lls_grid.specs.declared.history.TheConstants.History.{FARTHEST}
use Rattle.lls_grid.specs.Place.{IsWithin}
use Rattle.lls_symmetry.specs.declared.moved.Spot.{Spot}
use Rattle.lls_problem.specs.Problem.{PosedProblem}

-- a generation of the file, and a row and a column near enough to the grid
pub record IsOnBoard (p : PosedProblem) (place : Spot) : Type 0 where
  pub generation : place.t < p.posed.generations
  pub row : IsWithin FARTHEST place.y
  pub column : IsWithin FARTHEST place.x
