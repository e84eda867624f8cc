-- For private contracts: the clauses that were resolved, by what is known of the literals that were visited.
use Rattle.std.specs.Prelude.{◌≡◌, ◌≢◌, ℕ, ℤ, List, ◌∷◌, AllPairs, Contains, Some}
use Rattle.lls_lit.specs.Literal.{variable_of}
use Rattle.lls_store.specs.Trail.{Entry, reason_of}
use Rattle.lls_store.specs.Clauses.{LiveClause, clause_numbered}
use Rattle.lls_analyse.specs.declared.visited.Seen.TheVariants.{Followed}
use Rattle.lls_analyse.specs.Visited.{VisitedState, status}
use Rattle.lls_analyse.specs.Analyser.{BeginsWith, IsOfOne}

-- the clause of that number forced the negation of a literal that was followed
pub record ForcedFollowed (entries : List Entry) (s : VisitedState) (number : ℕ) : Type 0 where
  pub lit : ℤ
  pub stands : Contains s.lits lit
  pub is_followed : status s.seen lit ≡ Followed
  pub has_reason : reason_of entries (variable_of lit) ≡ Some number

-- the conflict and the reasons of the literals that were followed, to which all that were visited belong
pub record IsTraced (live : List LiveClause) (entries : List Entry) (number : ℕ) (s : VisitedState) (resolved : List ℕ) : Type 0 where
  pub conflict : LiveClause
  pub is_live : clause_numbered live number ≡ Some conflict
  pub conflict_first : BeginsWith conflict.lits s.lits
  pub reasons : List ℕ
  pub begins : resolved ≡ number ∷ reasons
  pub are_reasons : (n : ℕ) → Contains reasons n → ForcedFollowed entries s n
  pub once : AllPairs (λ a b. a ≢ b) reasons
  pub all_followed : (l : ℤ) (n : ℕ) → Contains s.lits l → status s.seen l ≡ Followed → reason_of entries (variable_of l) ≡ Some n → Contains reasons n
  pub of_resolved : (l : ℤ) → Contains s.lits l → IsOfOne live resolved l
