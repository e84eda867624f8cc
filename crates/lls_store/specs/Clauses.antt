-- The clauses that a store holds live, each under a number and an id.
use Rattle.std.specs.Prelude.{◌≡◌, ℕ, ℤ, true, List, Option, find, ◌==◌}
use Rattle.std.specs.Ordering.{int_cmp}
use Rattle.std.specs.FinSet as set

-- literals in no order, none twice
abbrev pub Literals : Type 0
Literals = set.FinSet int_cmp

pub record LiveClause : Type 0 where
  pub number : ℕ
  pub id : ℕ
  pub lits : Literals

abbrev pub IsIn : Literals → ℤ → Type 0
IsIn lits l = set.contains lits l ≡ true

-- the live clause of that number
abbrev pub clause_numbered : List LiveClause → ℕ → Option LiveClause
clause_numbered live number = find (λ clause. clause.number == number) live
