-- For private contracts: a trail on which literals are taken as false.
use Rattle.std.specs.Prelude.{◌≡◌, ◌≤◌, ℤ, List, ◌++◌, None}
use Rattle.std.specs.List.{Contains}
use Rattle.lls_lit.specs.Literal.{negation}
use Rattle.lls_store.specs.Trail.{Entry, TrailState, HasNegated, IsTrail}
use Rattle.lls_store.specs.Clauses.{LiveClause}
use Rattle.lls_store.specs.Closed.{IsClosed}

-- a trail of level 0 that goes on: what was decided are negations of the literals, and all that came behind is of higher levels
pub record Assumes (base : TrailState) (lits : List ℤ) (trail : TrailState) : Type 0 where
  pub more : List Entry
  pub same_vars : trail.vars ≡ base.vars
  pub goes_on : trail.entries ≡ base.entries ++ more
  pub above : (e : Entry) → Contains more e → 1 ≤ e.level
  pub decided : (e : Entry) → Contains more e → e.reason ≡ None → Contains lits (negation e.lit)

-- the literals are all false, and unit propagation has nothing to do
pub record IsOpen (live : List LiveClause) (lits : List ℤ) (trail : TrailState) : Type 0 where
  pub closed : IsClosed live trail
  pub all_false : (l : ℤ) → Contains lits l → HasNegated trail.entries l

-- so they are on some trail: no hints lead to a clause of these literals
pub record CanBeFalse (live : List LiveClause) (lits : List ℤ) : Type 0 where
  pub trail : TrailState
  pub is_trail : IsTrail trail
  pub is_open : IsOpen live lits trail
