-- The additions that the empty clause rests on.
use Rattle.std.specs.Prelude.{◌≡◌, ◌<◌, ◌+◌, ℕ, List, [], length, slice_get, Option, Some, None}
use Rattle.std.specs.Option.{unwrap_or}
use Rattle.std.specs.List.{Contains}
use Rattle.lls_trim.specs.declared.source.Source.{Source}
use Rattle.lls_trim.specs.declared.source.Source.TheVariants.{Added}
use Rattle.lls_trim.specs.Inferences.{Inference}

-- what the addition of that number comes from by unit propagation
abbrev pub sources_in : Option Inference → List Source
sources_in None = []
sources_in (Some inference) = unwrap_or inference.by []

abbrev pub sources_at : List Inference → ℕ → List Source
sources_at inferences k = sources_in (slice_get inferences k)

-- one addition comes from another
abbrev pub ComesFrom : List Inference → ℕ → ℕ → Type 0
ComesFrom inferences k j = Contains (sources_at inferences k) (Added j)

-- the least set of additions that has the last one, which is the empty clause of an accepted proof, and with each addition those that it comes from
pub data IsNeeded (inferences : List Inference) : ℕ → Type 0 where
  last : (k : ℕ) → k + 1 ≡ length inferences → IsNeeded inferences k
  source : (k j : ℕ) → IsNeeded inferences k → ComesFrom inferences k j → IsNeeded inferences j

-- a needed addition that isn't by unit propagation
pub record IsNeededRat (inferences : List Inference) (k line : ℕ) : Type 0 where
  pub needed : IsNeeded inferences k
  pub inference : Inference
  pub there : slice_get inferences k ≡ Some inference
  pub on_line : inference.line ≡ line
  pub not_by : inference.by ≡ None

-- the first of them stands on this line
pub record IsFirstRat (inferences : List Inference) (line : ℕ) : Type 0 where
  pub place : ℕ
  pub rat : IsNeededRat inferences place line
  pub first : (k other : ℕ) → IsNeededRat inferences k other → ¬ (k < place)

-- there is none
abbrev pub NeedsNoRat : List Inference → Type 0
NeedsNoRat inferences = (k line : ℕ) → ¬ IsNeededRat inferences k line
