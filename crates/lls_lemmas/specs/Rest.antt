-- The steps of a log that its empty clause rests on.
use Rattle.std.specs.Prelude.{◌≡◌, ◌==◌, ◌↔◌, ◌||◌, ◌&&◌, ℕ, ℤ, Bool, true, false, nat_le, nat_lt, List, [], ◌∷◌, ◌++◌, Some, filter, slice_get, slice_index_or, if◌then◌else◌}
use Rattle.std.specs.List.{list_any}
use Rattle.lls_lit.specs.Literal.{variable_of}
use Rattle.lls_lit.specs.Formula.{Clause}
use Rattle.lls_prooflog.specs.declared.step.Step.{Step}
use Rattle.lls_prooflog.specs.declared.step.Step.TheVariants.{Add, Del}

-- an id is named by hints, that of a clause along which unit propagation goes or that of a group of hints, and comes before another
abbrev pub names : List ℤ → ℕ → ℕ → Bool
names hints id other = list_any (λ hint. variable_of hint == other && nat_lt other id) hints

-- an addition names an id that was given before its own
pub record Names (steps : List Step) (id other : ℕ) : Type 0 where
  pub place : ℕ
  pub lits : Clause
  pub hints : List ℤ
  pub step : slice_get steps place ≡ Some (Add id lits hints)
  pub named : names hints id other ≡ true

-- the last step adds a clause under that id
pub record IsLast (steps : List Step) (id : ℕ) : Type 0 where
  pub before : List Step
  pub lits : Clause
  pub hints : List ℤ
  pub ends : steps ≡ before ++ Add id lits hints ∷ []

-- the least set of ids that has that of the last addition, and with each addition's those that its hints name
pub data IsNeeded (steps : List Step) : ℕ → Type 0 where
  last : (id : ℕ) → IsLast steps id → IsNeeded steps id
  named : (id other : ℕ) → IsNeeded steps id → Names steps id other → IsNeeded steps other

-- what a marked addition names
abbrev pub rests : List Bool → Step → ℕ → Bool
rests marks (Add id lits hints) other = slice_index_or marks id false && names hints id other
rests marks (Del ids) other = false

-- an id of the formula's clauses, of which there are so many, or one that is marked
abbrev pub keeps : ℕ → List Bool → ℕ → Bool
keeps given marks id = nat_le id given || slice_index_or marks id false

abbrev pub kept_deletion : List ℕ → List Step
kept_deletion [] = []
kept_deletion (id ∷ ids) = Del (id ∷ ids) ∷ []

-- of an addition, it or nothing; of a deletion, that of the ids that are kept, where there are any
abbrev pub kept_step : (ℕ → Bool) → Step → List Step
kept_step keep (Add id lits hints) = if keep id then Add id lits hints ∷ [] else []
kept_step keep (Del ids) = kept_deletion (filter keep ids)

abbrev pub kept_steps : (ℕ → Bool) → List Step → List Step
kept_steps keep [] = []
kept_steps keep (step ∷ steps) = kept_step keep step ++ kept_steps keep steps

-- the additions that the last one rests on, and the deletions of such clauses and of the formula's
pub record IsRest (given : ℕ) (whole rest : List Step) : Type 0 where
  pub marks : List Bool
  pub needed : (id : ℕ) → (slice_index_or marks id false ≡ true) ↔ IsNeeded whole id
  pub rest_is : rest ≡ kept_steps (keeps given marks) whole
