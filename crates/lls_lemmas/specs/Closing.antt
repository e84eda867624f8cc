-- For private contracts: hints that are gathered from the last to the first.
use Rattle.std.specs.Prelude.{◌≡◌, ◌⊎◌, ℕ, ℤ, true, ◌&&◌, Bool, List, take, reverse, Contains, None, Some}
use Rattle.lls_lit.specs.Literal.{negation}
use Rattle.lls_lit.specs.Formula.{is_within}
use Rattle.lls_prooflog.specs.Range.{is_hint}
use Rattle.lls_prooflog.specs.Spent.{is_positive}
use Rattle.lls_prooflog.specs.UnitWalk.{Live, is_among, unit_walk}
use Rattle.lls_store.specs.Trail.{Entry, HasNegated}
use Rattle.lls_store.specs.Clauses.{LiveClause, Literals, IsIn, clause_numbered}
use Rattle.lls_analyse.specs.Spelled.{Spells}
use Rattle.lls_lemmas.specs.Behind.{GivesClause}

-- the hints lead to a conflict where at least the clause's literals, and those that are needed, are taken as false
abbrev pub Closes : List LiveClause → List ℤ → (ℤ → Type 0) → List ℤ → Type 0
Closes live lits needed hints =
    (pairs : Live) (assumed : List ℤ)
    → Spells live pairs
    → ((l : ℤ) → Contains lits l → is_among assumed l ≡ true)
    → ((l : ℤ) → needed l → is_among assumed l ≡ true)
    → unit_walk pairs assumed hints ≡ None

-- the literal is marked, and became false before that place of the trail
abbrev pub IsMarkedBelow : Literals → List Entry → ℕ → ℤ → Type 0
IsMarkedBelow marked entries place l = IsIn marked l × HasNegated (take place entries) l

-- each marked literal is in the list, and that has literals of the variables alone
pub record AreListed (vars : ℕ) (marked : Literals) (met : List ℤ) : Type 0 where
  pub listed : (l : ℤ) → IsIn marked l → Contains met l
  pub within : is_within vars met ≡ true

-- a hint that is an id
abbrev pub is_id_hint : ℤ → Bool
is_id_hint hint = is_hint hint && is_positive hint

-- what was decided is the negation of a literal of the clause
abbrev pub DecidesFor : List ℤ → List Entry → Type 0
DecidesFor lits entries = (e : Entry) → Contains entries e → e.reason ≡ None → Contains lits (negation e.lit)

-- the live clause of that number has none but these literals and others that became false before that place
pub record IsFalseBut (live : List LiveClause) (lits : List ℤ) (entries : List Entry) (place number : ℕ) : Type 0 where
  pub clause : LiveClause
  pub is_live : clause_numbered live number ≡ Some clause
  pub each : (l : ℤ) → IsIn clause.lits l → Contains lits l ⊎ HasNegated (take place entries) l

-- each false literal of the live clause of that number is marked
abbrev pub MarksFalse : List LiveClause → List Entry → ℕ → Literals → Type 0
MarksFalse live entries number marked =
    (clause : LiveClause) → clause_numbered live number ≡ Some clause → (l : ℤ) → IsIn clause.lits l → HasNegated entries l → IsIn marked l

-- hints that close where what is marked below one place is needed go on to hints that close where what is marked below another is
abbrev pub CarriesOver : List LiveClause → List Entry → Literals → ℕ → List ℤ → Literals → ℕ → List ℤ → Type 0
CarriesOver live entries marked high hints marked_then low hints_then =
    (lits : List ℤ)
    → DecidesFor lits entries
    → Closes live lits (IsMarkedBelow marked entries high) (reverse hints)
    → Closes live lits (IsMarkedBelow marked_then entries low) (reverse hints_then)

-- the hints lead to each clause for which the trail decides, of whose literals and of false ones the closing clause consists
abbrev pub GivesEach : List LiveClause → List Entry → ℕ → ℕ → List ℤ → Type 0
GivesEach live entries place number hints =
    (lits : List ℤ) → DecidesFor lits entries → IsFalseBut live lits entries place number → GivesClause live lits hints
