-- What holds of every trimmed proof.
use Rattle.std.specs.Prelude.{◌≡◌, ◌<◌, ◌+◌, ℕ, ℤ, pos, true, not, List, [], ◌∷◌, ◌++◌, length, slice_get, Option, Some, None}
use Rattle.std.specs.List.{list_all, Contains}
use Rattle.lls_lit.specs.Formula.{Clause}
use Rattle.lls_prooflog.specs.declared.step.Step.{Step}
use Rattle.lls_prooflog.specs.declared.step.Step.TheVariants.{Add, Del}
use Rattle.lls_prooflog.specs.Steps.{is_empty_addition}

-- some elements of a list in their order
pub data IsSublist {X : Type 0} : List X → List X → Type 0 where
  nothing : IsSublist [] []
  keeps : (x : X) (part whole : List X) → IsSublist part whole → IsSublist (x ∷ part) (x ∷ whole)
  skips : (x : X) (part whole : List X) → IsSublist part whole → IsSublist part (x ∷ whole)

-- the clauses that steps add
abbrev pub clauses_added : List Step → List Clause
clauses_added [] = []
clauses_added (Add id lits hints ∷ steps) = lits ∷ clauses_added steps
clauses_added (Del ids ∷ steps) = clauses_added steps

abbrev pub id_in : Option Step → ℕ
id_in None = 0
id_in (Some (Add id lits hints)) = id
id_in (Some (Del ids)) = 0

abbrev pub hints_in : Option Step → List ℤ
hints_in None = []
hints_in (Some (Add id lits hints)) = hints
hints_in (Some (Del ids)) = []

-- a later step has this one's id among its hints
pub record IsUsed (steps : List Step) (k : ℕ) : Type 0 where
  pub user : ℕ
  pub later : k < user
  pub named : Contains (hints_in (slice_get steps user)) (pos (id_in (slice_get steps k)))

-- each step but the last
abbrev pub AreUsed : List Step → Type 0
AreUsed steps = (k : ℕ) → k + 1 < length steps → IsUsed steps k

-- the last step adds the empty clause, and no other does
pub record EndsEmpty (steps : List Step) : Type 0 where
  pub front : List Step
  pub last : Step
  pub whole : steps ≡ front ++ last ∷ []
  pub empty : is_empty_addition last ≡ true
  pub none_before : list_all (λ step. not (is_empty_addition step)) front ≡ true
