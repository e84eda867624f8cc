-- The clause of the first unique implication point (Marques-Silva and Sakallah, GRASP, 1996): from false literals back along reasons,
-- until one literal of the current level is left.
use Rattle.std.specs.Prelude.{◌≡◌, ◌≢◌, ◌<◌, ℕ, ℤ, List, ◌∷◌, ◌++◌, Some}
use Rattle.std.specs.FinSet as set
use Rattle.lls_lit.specs.Literal.{variable_of, negation}
use Rattle.lls_store.specs.Trail.{Entry, TrailState, HasNegated, level_of}
use Rattle.lls_store.specs.Clauses.{LiveClause, Literals, IsIn, clause_numbered}

-- a literal of the set, of the current level
pub record IsCurrent (trail : TrailState) (lits : Literals) (l : ℤ) : Type 0 where
  pub is_in : IsIn lits l
  pub of_level : level_of trail.entries (variable_of l) ≡ Some trail.current

-- exactly one literal is of the current level
pub record HasOneCurrent (trail : TrailState) (lits : Literals) : Type 0 where
  pub one : ℤ
  pub is_current : IsCurrent trail lits one
  pub alone : (m : ℤ) → IsCurrent trail lits m → m ≡ one

-- at least two are
pub record HasTwoCurrent (trail : TrailState) (lits : Literals) : Type 0 where
  pub first : ℤ
  pub second : ℤ
  pub apart : first ≢ second
  pub first_current : IsCurrent trail lits first
  pub second_current : IsCurrent trail lits second

-- a literal of the set, whose negation stands last in the trail, and the live clause that forced that negation
pub record IsLast (live : List LiveClause) (trail : TrailState) (lits : Literals) (l : ℤ) (clause : LiveClause) : Type 0 where
  pub before : List Entry
  pub entry : Entry
  pub after : List Entry
  pub reason : ℕ
  pub is_in : IsIn lits l
  pub stands : trail.entries ≡ before ++ entry ∷ after
  pub negated : entry.lit ≡ negation l
  pub none_later : (m : ℤ) → IsIn lits m → ¬ HasNegated after m
  pub has_reason : entry.reason ≡ Some reason
  pub is_live : clause_numbered live reason ≡ Some clause

-- the literal is replaced by the others of the clause that forced its negation
abbrev pub resolved_on : Literals → ℤ → LiveClause → Literals
resolved_on lits l clause = set.union (set.remove lits l) (set.remove clause.lits (negation l))

pub data LeadsTo (live : List LiveClause) (trail : TrailState) : Literals → Literals → Type 0 where
  reached : (lits : Literals) → HasOneCurrent trail lits → LeadsTo live trail lits lits
  resolved : (lits uip : Literals) (l : ℤ) (clause : LiveClause) → HasTwoCurrent trail lits → IsLast live trail lits l clause → LeadsTo live trail (resolved_on lits l clause) uip → LeadsTo live trail lits uip

-- from these literals, all false and some of the current level, to those of the first unique implication point
pub record IsUip (live : List LiveClause) (trail : TrailState) (lits uip : Literals) : Type 0 where
  pub above_zero : 0 < trail.current
  pub all_false : (l : ℤ) → IsIn lits l → HasNegated trail.entries l
  pub leads : LeadsTo live trail lits uip

-- no literals lead to two such sets
abbrev pub HasOnePoint : Type 0
HasOnePoint = (live : List LiveClause) (trail : TrailState) (lits first second : Literals) → IsUip live trail lits first → IsUip live trail lits second → first ≡ second
