-- For private contracts: what comes of an analysis.
use Rattle.std.specs.Prelude.{◌≡◌, ◌≤◌, ◌<◌, ℕ, ℤ, true, List}
use Rattle.lls_lit.specs.declared.var.TheConstants.Var.{MOST}
use Rattle.lls_lit.specs.Formula.{is_within}
use Rattle.lls_store.specs.Trail.{TrailState}
use Rattle.lls_store.specs.Clauses.{LiveClause}
use Rattle.lls_analyse.specs.Visited.{VisitedState, AreVisited}
use Rattle.lls_analyse.specs.Marked.{IsResolved, nothing_seen}
use Rattle.lls_analyse.specs.Hinted.{AreHints}
use Rattle.lls_analyse.specs.Gathered.{Gathers}

-- back from the conflict until one literal of the current level is left, with the hints and the literals
pub record IsAnalysis (live : List LiveClause) (trail : TrailState) (number : ℕ) (clause hints : List ℤ) : Type 0 where
  pub seen : VisitedState
  pub visited : AreVisited seen
  pub resolved : IsResolved live trail number 1 seen
  pub hinted : AreHints live trail.entries seen number hints
  pub gathered : Gathers trail.entries seen clause

-- back from a conflict at level 0, until none is left
pub record IsRefutation (live : List LiveClause) (trail : TrailState) (number : ℕ) (hints : List ℤ) : Type 0 where
  pub seen : VisitedState
  pub visited : AreVisited seen
  pub resolved : IsResolved live trail number 0 seen
  pub hinted : AreHints live trail.entries seen number hints

-- nothing is known, and there is room for all literals, places and hints
pub record IsReady (vars : ℕ) (s : VisitedState) (clause_room places_room hints_room : ℕ) : Type 0 where
  pub few : vars ≤ MOST
  pub nothing : s ≡ nothing_seen vars
  pub clause_fits : vars ≤ clause_room
  pub places_fit : vars ≤ places_room
  pub hints_fit : vars < hints_room

-- the literals are of the variables, and there is room for all literals and numbers
pub record CanTell (vars : ℕ) (met : List ℤ) (met_room resolved_room : ℕ) : Type 0 where
  pub within : is_within vars met ≡ true
  pub met_fits : vars ≤ met_room
  pub resolved_fits : vars < resolved_room
