-- Clauses that have no two different literals, which no list watches.
use Rattle.std.specs.Prelude.{◌≡◌, ◌<◌, ℕ, ℤ, List, All, slice_get, Some}
use Rattle.lls_store.specs.Trail.{Entry, Has}
use Rattle.lls_store.specs.Changes.{entries_up_to}
use Rattle.lls_store.specs.Clauses.{LiveClause, Literals, IsIn, clause_numbered}
use Rattle.lls_store.specs.Store.{AreWithin}

-- one literal at the most, and that of a variable up to vars
pub record HasOneAtMost (vars : ℕ) (lits : Literals) : Type 0 where
  pub within : AreWithin vars lits
  pub alone : (l m : ℤ) → IsIn lits l → IsIn lits m → l ≡ m

-- so it is where the clause of that number is live
abbrev pub IsShort : List LiveClause → ℕ → ℕ → Type 0
IsShort live vars c = (clause : LiveClause) → clause_numbered live c ≡ Some clause → HasOneAtMost vars clause.lits

abbrev pub AreShort : List LiveClause → ℕ → List ℕ → Type 0
AreShort live vars cs = All (IsShort live vars) cs

-- where the clause of that number is live, some literal of it is true
abbrev pub IsSatisfied : List LiveClause → List Entry → ℕ → Type 0
IsSatisfied live entries c = (clause : LiveClause) → clause_numbered live c ≡ Some clause → (l : ℤ) × (IsIn clause.lits l × Has entries l)

-- so it is of as many of these clauses, from the first
abbrev pub AreSatisfied : List LiveClause → List Entry → List ℕ → ℕ → Type 0
AreSatisfied live entries cs n = (k c : ℕ) → k < n → slice_get cs k ≡ Some c → IsSatisfied live entries c

-- and at level 0, so for good
abbrev pub AreSatisfiedForGood : List LiveClause → List Entry → List ℕ → ℕ → Type 0
AreSatisfiedForGood live entries cs n = AreSatisfied live (entries_up_to 0 entries) cs n
