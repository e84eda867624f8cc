-- For private contracts alone: what a trail knows of variables, as a list for each thing that is known.
use Rattle.std.specs.Prelude.{◌≡◌, ℕ, List, length, Option}

pub record Columns : Type 0 where
  pub levels : List ℕ
  pub places : List ℕ
  pub reasons : List (Option ℕ)

-- a row for each variable
pub record HasRows (vars : ℕ) (columns : Columns) : Type 0 where
  pub level_each : length columns.levels ≡ vars
  pub place_each : length columns.places ≡ vars
  pub reason_each : length columns.reasons ≡ vars
