-- For private contracts, of crates above too: literals whose variables have values.
use Rattle.std.specs.Prelude.{ℤ, List, All, IsSome}
use Rattle.lls_lit.specs.Literal.{variable_of}
use Rattle.lls_store.specs.Trail.{Entry, entry_of}
use Rattle.lls_store.specs.Clauses.{LiveClause, IsIn}

-- the literal's variable has a value
abbrev pub HasValue : List Entry → ℤ → Type 0
HasValue entries l = IsSome (entry_of entries (variable_of l))

-- so have those of all the literals
abbrev pub HaveValues : List Entry → List ℤ → Type 0
HaveValues entries lits = All (HasValue entries) lits

-- and those of all literals of a clause
abbrev pub AllHaveValues : List Entry → LiveClause → Type 0
AllHaveValues entries clause = (l : ℤ) → IsIn clause.lits l → HasValue entries l
