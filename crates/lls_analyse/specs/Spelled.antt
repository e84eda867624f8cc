-- The clauses of a store as a proof has them.
use Rattle.std.specs.Prelude.{◌≡◌, ℕ, ℤ, List, [], ◌∷◌}
use Rattle.std.specs.FinSet as set
use Rattle.lls_prooflog.specs.UnitWalk.{Live}
use Rattle.lls_prooflog.specs.Steps.{rup_fault}
use Rattle.lls_store.specs.Clauses.{LiveClause}
use Rattle.std.specs.Prelude.{None}

-- one by one the same ids, and lists of the same literals
abbrev pub Spells : List LiveClause → Live → Type 0
Spells [] [] = Unit {0}
Spells [] (pair ∷ pairs) = ⊥
Spells (clause ∷ live) [] = ⊥
Spells (clause ∷ live) (pair ∷ pairs) = (pair.0 ≡ clause.id) × ((set.from_list pair.1 ≡ clause.lits) × Spells live pairs)

-- an addition that is good by unit propagation alone, however the store's clauses are spelled
abbrev pub IsGoodOver : List LiveClause → ℕ → List ℤ → List ℤ → Type 0
IsGoodOver live id lits hints = (pairs : Live) → Spells live pairs → rup_fault pairs id lits hints ≡ None
