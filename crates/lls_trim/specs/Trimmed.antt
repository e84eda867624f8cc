-- A trimmed proof: the needed additions of another one, numbered anew.
use Rattle.std.specs.Prelude.{◌≡◌, ◌↔◌, ℕ, ◌+◌, ℤ, pos, Bool, true, false, List, [], map, filter, take, length, slice_index_or, count_by}
use Rattle.std.specs.Option.{unwrap_or}
use Rattle.std.specs.List.{enumerate_from}
use Rattle.lls_lit.specs.Formula.{Cnf}
use Rattle.lls_prooflog.specs.declared.step.Step.{Step}
use Rattle.lls_prooflog.specs.declared.step.Step.TheVariants.{Add}
use Rattle.lls_trim.specs.declared.source.Source.{Source}
use Rattle.lls_trim.specs.declared.source.Source.TheVariants.{Given, Added}
use Rattle.lls_trim.specs.Placed.{Placed}
use Rattle.lls_trim.specs.Inferences.{Inference, inferences_of}
use Rattle.lls_trim.specs.Needed.{IsNeeded}

-- whether the addition of that number is marked
abbrev pub is_marked : List Bool → ℕ → Bool
is_marked marks k = slice_index_or marks k false

-- the id of a marked addition: they have those behind the formula's clauses, of which there are so many
abbrev pub new_id : ℕ → List Bool → ℕ → ℕ
new_id given marks k = given + 1 + count_by (λ mark. mark) (take k marks)

abbrev pub new_hint : ℕ → List Bool → Source → ℤ
new_hint given marks (Given id) = pos id
new_hint given marks (Added k) = pos (new_id given marks k)

abbrev pub new_step : ℕ → List Bool → ℕ × Inference → Step
new_step given marks pair = Add (new_id given marks pair.0) pair.1.clause (map (new_hint given marks) (unwrap_or pair.1.by []))

-- the marked additions in their order, with ids and hints anew
abbrev pub renumbered : ℕ → List Bool → List Inference → List Step
renumbered given marks inferences = map (new_step given marks) (filter (λ pair. is_marked marks pair.0) (enumerate_from 0 inferences))

-- just the needed additions are marked
pub record AreMarked (inferences : List Inference) (marks : List Bool) : Type 0 where
  pub as_many : length marks ≡ length inferences
  pub needed : (k : ℕ) → (is_marked marks k ≡ true) ↔ IsNeeded inferences k

-- these steps are the needed additions, numbered anew behind so many clauses
pub record Trims (given : ℕ) (inferences : List Inference) (steps : List Step) : Type 0 where
  pub marks : List Bool
  pub marked : AreMarked inferences marks
  pub steps_are : steps ≡ renumbered given marks inferences

abbrev pub IsTrimmed : Cnf → Placed → List Step → Type 0
IsTrimmed formula placed steps = Trims (length formula.clauses) (inferences_of formula placed) steps
