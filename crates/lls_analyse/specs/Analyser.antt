-- What an analyser is seen as, and what it tells of the last conflict.
use Rattle.std.specs.Prelude.{◌≡◌, ◌≢◌, ◌⊎◌, ℕ, ℤ, true, List, [], ◌∷◌, ◌++◌, AllPairs, Contains, Some, IsSome}
use Rattle.lls_lit.specs.Literal.{variable_of}
use Rattle.lls_lit.specs.Formula.{is_within}
use Rattle.lls_prooflog.specs.Spent.{has_variables_once}
use Rattle.lls_store.specs.Trail.{Entry, TrailState, HasNegated, reason_of}
use Rattle.lls_store.specs.Clauses.{LiveClause, Literals, IsIn, clause_numbered}
use Rattle.lls_store.specs.Uip.{IsUip}
use Rattle.lls_analyse.specs.Visited.{IsListed}

pub record AnalyserState : Type 0 where
  -- the number of variables
  pub vars : ℕ
  -- the literals that resolution came by at the last conflict, in that order, one of each variable
  pub met : List ℤ
  -- the numbers of the clauses that it resolved: the conflict, and then the reason of each literal that it followed
  pub resolved : List ℕ

-- one that tells of no conflict
abbrev pub tells_nothing : ℕ → AnalyserState
tells_nothing vars = record { vars = vars; met = []; resolved = [] }

-- a literal of one of the clauses of these numbers
pub record IsOfOne (live : List LiveClause) (numbers : List ℕ) (l : ℤ) : Type 0 where
  pub number : ℕ
  pub clause : LiveClause
  pub among : Contains numbers number
  pub is_live : clause_numbered live number ≡ Some clause
  pub is_in : IsIn clause.lits l

-- the clause of that number forced the negation of one of the literals
pub record ForcedOne (entries : List Entry) (lits : List ℤ) (number : ℕ) : Type 0 where
  pub lit : ℤ
  pub stands : Contains lits lit
  pub has_reason : reason_of entries (variable_of lit) ≡ Some number

-- a clause of one of these numbers forced the negation of the literal
pub record IsForcedByOne (entries : List Entry) (numbers : List ℕ) (l : ℤ) : Type 0 where
  pub number : ℕ
  pub among : Contains numbers number
  pub has_reason : reason_of entries (variable_of l) ≡ Some number

-- first the literals of the clause stand there
pub record BeginsWith (lits : Literals) (met : List ℤ) : Type 0 where
  pub own : List ℤ
  pub others : List ℤ
  pub parts : met ≡ own ++ others
  pub each_own : (l : ℤ) → Contains own l → IsIn lits l
  pub all_own : (l : ℤ) → IsIn lits l → Contains own l

-- the literals that were met: false, and one of each variable that a resolved clause has
pub record AreMet (live : List LiveClause) (trail : TrailState) (met : List ℤ) (resolved : List ℕ) : Type 0 where
  pub within : is_within trail.vars met ≡ true
  pub once : has_variables_once met ≡ true
  pub all_false : (l : ℤ) → Contains met l → HasNegated trail.entries l
  pub of_resolved : (l : ℤ) → Contains met l → IsOfOne live resolved l
  pub no_other : (l : ℤ) → IsOfOne live resolved l → IsListed met (variable_of l)

-- what resolution from the conflict of that number to the first unique implication point came by
pub record ComesBy (live : List LiveClause) (trail : TrailState) (conflict : ℕ) (met : List ℤ) (resolved : List ℕ) : Type 0 where
  pub from_clause : LiveClause
  pub from_live : clause_numbered live conflict ≡ Some from_clause
  pub uip : Literals
  pub is_uip : IsUip live trail from_clause.lits uip
  pub reasons : List ℕ
  pub begins : resolved ≡ conflict ∷ reasons
  pub are_reasons : (n : ℕ) → Contains reasons n → ForcedOne trail.entries met n
  -- no clause twice
  pub once : AllPairs (λ a b. a ≢ b) resolved
  pub are_live : (n : ℕ) → Contains resolved n → IsSome (clause_numbered live n)
  pub are_met : AreMet live trail met resolved
  pub conflict_first : BeginsWith from_clause.lits met
  -- each literal is of the point, or gave way to the clause that forced its negation
  pub gave_way : (l : ℤ) → Contains met l → IsIn uip l ⊎ IsForcedByOne trail.entries reasons l
