-- Where unit propagation has nothing to do.
use Rattle.std.specs.Prelude.{◌≢◌, ℕ, ℤ, nat_lt, List, Contains, take_while}
use Rattle.lls_store.specs.Trail.{Entry, TrailState, Has, HasNegated}
use Rattle.lls_store.specs.Clauses.{LiveClause, Literals, IsIn}

-- a clause has a true literal, or two different ones that aren't false
pub data IsSettled (entries : List Entry) (lits : Literals) : Type 0 where
  satisfied : (l : ℤ) → IsIn lits l → Has entries l → IsSettled entries lits
  two_left : (l m : ℤ) → IsIn lits l → IsIn lits m → l ≢ m → ¬ HasNegated entries l → ¬ HasNegated entries m → IsSettled entries lits

-- each live clause is so
abbrev pub AreSettled : List LiveClause → List Entry → Type 0
AreSettled live entries = (clause : LiveClause) → Contains live clause → IsSettled entries clause.lits

abbrev pub IsClosed : List LiveClause → TrailState → Type 0
IsClosed live trail = AreSettled live trail.entries

-- the entries up to the first of the level
abbrev pub entries_below : ℕ → List Entry → List Entry
entries_below level entries = take_while (λ e. nat_lt e.level level) entries

-- so it was before the current level began
abbrev pub IsClosedBelow : List LiveClause → TrailState → Type 0
IsClosedBelow live trail = AreSettled live (entries_below trail.current trail.entries)
