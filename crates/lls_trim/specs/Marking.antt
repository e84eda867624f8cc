-- For private contracts alone: what marking and renumbering go by.
use Rattle.std.specs.Prelude.{◌≤◌, ◌<◌, ◌==◌, ℕ, ℤ, pos, Bool, false, List, All, slice_index}
use Rattle.std.specs.List.{list_any}
use Rattle.lls_trim.specs.declared.source.Source.{Source}
use Rattle.lls_trim.specs.declared.source.Source.TheVariants.{Given, Added}
use Rattle.lls_trim.specs.Inferences.{Inference}
use Rattle.lls_trim.specs.Needed.{sources_at}

-- an addition of a number below this one, or a clause of the formula
abbrev pub IsBelow : ℕ → Source → Type 0
IsBelow bound (Given id) = Unit {0}
IsBelow bound (Added k) = k < bound

-- what additions come from stands before them
abbrev pub AreOrdered : List Inference → Type 0
AreOrdered inferences = (k : ℕ) → All (IsBelow k) (sources_at inferences k)

-- a clause of the formula, of which there are so many
abbrev pub IsGivenWithin : ℕ → Source → Type 0
IsGivenWithin given (Given id) = (1 ≤ id) × (id ≤ given)
IsGivenWithin given (Added k) = Unit {0}

abbrev pub AreGivenWithin : ℕ → List Inference → Type 0
AreGivenWithin given inferences = (k : ℕ) → All (IsGivenWithin given) (sources_at inferences k)

abbrev pub is_one : ℕ → Source → Bool
is_one k (Given id) = false
is_one k (Added j) = j == k

-- whether the addition of that number is among the sources
abbrev pub names_one : ℕ → List Source → Bool
names_one k sources = list_any (is_one k) sources

-- the new hint for a source, where the additions have these ids
abbrev pub hint_by : List ℕ → Source → ℤ
hint_by ids (Given id) = pos id
hint_by ids (Added k) = pos (slice_index ids k)
