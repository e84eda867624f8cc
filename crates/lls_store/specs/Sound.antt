-- Each literal that a clause forced was forced by it.
use Rattle.std.specs.Prelude.{◌≡◌, ◌≢◌, ℕ, ℤ, List, ◌∷◌, ◌++◌, Some}
use Rattle.lls_store.specs.Trail.{Entry, TrailState, HasNegated}
use Rattle.lls_store.specs.Clauses.{LiveClause, IsIn, clause_numbered}

-- behind these entries the live clause of that number leaves the literal alone: its other literals are false
pub record IsForced (live : List LiveClause) (before : List Entry) (l : ℤ) (number : ℕ) : Type 0 where
  pub clause : LiveClause
  pub is_live : clause_numbered live number ≡ Some clause
  pub stands : IsIn clause.lits l
  pub others_false : (m : ℤ) → IsIn clause.lits m → m ≢ l → HasNegated before m

-- the clause that an entry names forced it
abbrev pub IsSound : List LiveClause → TrailState → Type 0
IsSound live trail =
    (before after : List Entry) (e : Entry) (reason : ℕ)
    → trail.entries ≡ before ++ e ∷ after
    → e.reason ≡ Some reason
    → IsForced live before e.lit reason
