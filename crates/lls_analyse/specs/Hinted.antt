-- For private contracts: the hints of a learnt clause.
use Rattle.std.specs.Prelude.{true, ◌≤◌, ◌+◌, ◌++◌, ◌∷◌, [], map, length, ◌≡◌, ◌≢◌, ◌⊎◌, ℕ, ℤ, pos, List, Contains, Option, Some, slice_get, unwrap_or, option_map, option_and_then, None, if◌then◌else◌}
use Rattle.std.specs.List.{list_all}
use Rattle.std.specs.List.Sorted.{IsNonDecreasing}
use Rattle.lls_lit.specs.Literal.{variable_of}
use Rattle.lls_store.specs.Trail.{Entry, place_of}
use Rattle.lls_analyse.specs.declared.visited.Seen.{Seen}
use Rattle.lls_analyse.specs.declared.visited.Seen.TheVariants.{Followed}
use Rattle.lls_prooflog.specs.Range.{is_hint}
use Rattle.lls_prooflog.specs.Spent.{is_positive}
use Rattle.lls_analyse.specs.Visited.{VisitedState, is_followed, status}
use Rattle.lls_store.specs.Clauses.{LiveClause, IsIn, clause_numbered}

-- the clause that forced the literal at a place
abbrev pub forcing_at : List LiveClause → List Entry → ℕ → Option LiveClause
forcing_at live entries place = option_and_then (clause_numbered live) (option_and_then (λ e. e.reason) (slice_get entries place))

-- its id
abbrev pub hint_at : List LiveClause → List Entry → ℕ → ℤ
hint_at live entries place = pos (unwrap_or (option_map (λ clause. clause.id) (forcing_at live entries place)) 0)

-- the literal's variable stands at one of the places
pub record StandsIn (entries : List Entry) (places : List ℕ) (l : ℤ) : Type 0 where
  pub place : ℕ
  pub at : place_of entries (variable_of l) ≡ Some place
  pub among : Contains places place

-- the literal is of the clause, or its variable stands at one of the places
abbrev pub IsCovered : List Entry → List ℤ → List ℕ → ℤ → Type 0
IsCovered entries lits places l = Contains lits l ⊎ StandsIn entries places l

-- a clause forced the literal at the place, and its other literals are covered
pub record IsFollowed (live : List LiveClause) (entries : List Entry) (lits : List ℤ) (places : List ℕ) (place : ℕ) : Type 0 where
  pub entry : Entry
  pub reason : ℕ
  pub clause : LiveClause
  pub at : slice_get entries place ≡ Some entry
  pub has_reason : entry.reason ≡ Some reason
  pub is_live : clause_numbered live reason ≡ Some clause
  pub others : (m : ℤ) → IsIn clause.lits m → m ≢ entry.lit → IsCovered entries lits places m

-- a clause forced the literal at the place
pub record IsForcedPlace (live : List LiveClause) (entries : List Entry) (place : ℕ) : Type 0 where
  pub entry : Entry
  pub reason : ℕ
  pub clause : LiveClause
  pub at : slice_get entries place ≡ Some entry
  pub has_reason : entry.reason ≡ Some reason
  pub is_live : clause_numbered live reason ≡ Some clause

-- the id of a live clause, as a hint
abbrev pub hint_of : List LiveClause → ℕ → ℤ
hint_of live number = pos (unwrap_or (option_map (λ clause. clause.id) (clause_numbered live number)) 0)

-- where the literal gave way, its place
abbrev pub place_followed : List Entry → List Seen → ℤ → Option ℕ
place_followed entries seen l = if is_followed (status seen l) then place_of entries (variable_of l) else None

-- the places are those of the literals that gave way
pub record ArePlaces (entries : List Entry) (s : VisitedState) (places : List ℕ) : Type 0 where
  pub stand : (l : ℤ) → Contains s.lits l → status s.seen l ≡ Followed → StandsIn entries places l
  pub of_followed : (k : ℕ) → Contains places k → (l : ℤ) × (Contains s.lits l × ((status s.seen l ≡ Followed) × (place_of entries (variable_of l) ≡ Some k)))

-- the hints are those of the places in their order, and then the conflict's
pub record AreHints (live : List LiveClause) (entries : List Entry) (s : VisitedState) (number : ℕ) (hints : List ℤ) : Type 0 where
  pub places : List ℕ
  pub are_places : ArePlaces entries s places
  pub ascending : IsNonDecreasing places
  pub gathered : hints ≡ map (hint_at live entries) places ++ hint_of live number ∷ []
  pub few : length hints ≤ s.vars + 1
  pub in_range : list_all is_hint hints ≡ true
  pub positive : list_all is_positive hints ≡ true
