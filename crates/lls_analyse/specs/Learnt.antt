-- What is learnt from a conflict.
use Rattle.std.specs.Prelude.{◌≡◌, ◌≢◌, ◌<◌, ◌≤◌, ℕ, ℤ, true, List, [], ◌∷◌, ◌++◌, length, Contains, Some}
use Rattle.std.specs.List.{list_all}
use Rattle.std.specs.FinSet as set
use Rattle.lls_lit.specs.Literal.{variable_of}
use Rattle.lls_lit.specs.Formula.{is_within}
use Rattle.lls_prooflog.specs.UnitWalk.{Live}
use Rattle.lls_prooflog.specs.Steps.{clauses_of}
use Rattle.lls_prooflog.specs.Fresh.{IsFresh}
use Rattle.lls_prooflog.specs.Spent.{has_variables_once, is_positive}
use Rattle.lls_prooflog.specs.declared.step.Step.{Step}
use Rattle.lls_prooflog.specs.declared.step.Step.TheVariants.{Add}
use Rattle.lls_store.specs.Trail.{TrailState, HasNegated, level_of}
use Rattle.lls_store.specs.Clauses.{LiveClause, Literals, IsIn}
use Rattle.lls_store.specs.Closed.{IsClosedBelow}
use Rattle.lls_store.specs.Uip.{IsCurrent, HasOneCurrent, IsUip}
use Rattle.lls_store.specs.Store.{StoreState, IsConflict, sealed}
use Rattle.lls_analyse.specs.Spelled.{Spells, IsGoodOver}

-- a conflict, one of whose literals is of the current level
pub record IsCurrentConflict (live : List LiveClause) (trail : TrailState) (number : ℕ) : Type 0 where
  pub conflict : IsConflict live trail number
  pub literal : ℤ
  pub is_current : IsCurrent trail conflict.clause.lits literal

-- the literals are among those of the first unique implication point
pub record IsPartOfUip (live : List LiveClause) (trail : TrailState) (conflict : Literals) (lits : List ℤ) : Type 0 where
  pub uip : Literals
  pub is_uip : IsUip live trail conflict uip
  pub among : (l : ℤ) → Contains lits l → IsIn uip l

-- the highest level of the literals below the current one: 0 where there is none
pub data IsBack (trail : TrailState) (lits : List ℤ) : ℕ → Type 0 where
  alone : length lits ≡ 1 → IsBack trail lits 0
  highest : (l : ℤ) (back : ℕ) → Contains lits l → level_of trail.entries (variable_of l) ≡ Some back → back < trail.current
      → ((m : ℤ) (level : ℕ) → Contains lits m → level_of trail.entries (variable_of m) ≡ Some level → level ≢ trail.current → level ≤ back)
      → IsBack trail lits back

-- what the literals of a learnt clause are
pub record AreLearnt (live : List LiveClause) (trail : TrailState) (conflict : Literals) (lits : List ℤ) (back : ℕ) : Type 0 where
  pub part_of_uip : IsPartOfUip live trail conflict lits
  pub all_false : (l : ℤ) → Contains lits l → HasNegated trail.entries l
  pub one_current : HasOneCurrent trail (set.from_list lits)
  pub once : has_variables_once lits ≡ true
  pub within : is_within trail.vars lits ≡ true
  pub is_back : IsBack trail lits back

-- a clause that the live ones don't absorb, however they are spelled
abbrev pub IsFreshOver : List LiveClause → List ℤ → Type 0
IsFreshOver live lits = (pairs : Live) → Spells live pairs → IsFresh (clauses_of pairs) lits

-- an addition that is good, with hints that are ids
pub record IsLogged (live : List LiveClause) (id : ℕ) (lits hints : List ℤ) (before after : List Step) : Type 0 where
  pub logged : after ≡ before ++ Add id lits hints ∷ []
  pub good : IsGoodOver live id lits hints
  pub positive : list_all is_positive hints ≡ true

-- a clause was learnt from a conflict: it stands in the store under the next number, and its step in the log
pub record Learns (old new : StoreState) (trail : TrailState) (conflict id back : ℕ) (before after : List Step) : Type 0 where
  pub from_clause : IsConflict old.live trail conflict
  pub lits : List ℤ
  pub hints : List ℤ
  pub clause : AreLearnt old.live trail from_clause.clause.lits lits back
  pub fresh : IsClosedBelow old.live trail → IsFreshOver old.live lits
  pub step : IsLogged old.live id lits hints before after
  pub store : new ≡ sealed (record old { tail = lits }) id

-- the empty clause was derived from a conflict at level 0
pub record Refutes (live : List LiveClause) (id : ℕ) (before after : List Step) : Type 0 where
  pub hints : List ℤ
  pub step : IsLogged live id [] hints before after
