-- For private contracts: a lemma that is tried by its pivot, against each live clause that holds the pivot's negation.
use Rattle.std.specs.Prelude.{◌≡◌, ◌≢◌, ◌++◌, ℕ, ℤ, true, List, Option, Some, None, Contains, ◌==◌}
use Rattle.std.specs.List.{list_any}
use Rattle.std.specs.FinSet as set
use Rattle.lls_lit.specs.Literal.{negation}
use Rattle.lls_lit.specs.Formula.{Clause}
use Rattle.lls_prooflog.specs.declared.step_fault.StepFault.{StepFault}
use Rattle.lls_prooflog.specs.UnitWalk.{Live, walk_on}
use Rattle.lls_prooflog.specs.Rat.{groups_of, groups_fault, others, rat_fault, resolvent_fault}
use Rattle.lls_store.specs.Trail.{TrailState, HasNegated, IsTrail}
use Rattle.lls_store.specs.Clauses.{LiveClause, IsIn, clause_numbered}
use Rattle.lls_store.specs.Closed.{IsClosed}
use Rattle.lls_analyse.specs.Spelled.{Spells}

-- the hints lead to the clause by unit propagation or by its pivot, however the store's clauses are spelled
abbrev pub AddsClause : List LiveClause → List ℤ → List ℤ → Type 0
AddsClause live lits hints = (pairs : Live) → Spells live pairs → walk_on pairs (rat_fault pairs lits (groups_of hints)) lits hints ≡ None

-- nothing is wrong with the resolvent with that clause, however it is spelled, and whatever stands behind the hints
abbrev pub ResolvesBy : List LiveClause → ℤ → List ℤ → LiveClause → List ℤ → Type 0
ResolvesBy live pivot lits clause hints =
    (pairs : Live) (spelled : Clause) (more : List ℤ)
    → Spells live pairs
    → set.from_list spelled ≡ clause.lits
    → resolvent_fault pairs lits (others (negation pivot) spelled) (hints ++ more) ≡ None

-- groups of hints for the clauses of these numbers: nothing stands before them, nothing is wrong with them, and they leave out no clause that
-- holds the pivot's negation, whatever stands behind them
pub record AreGroups (live : List LiveClause) (pivot : ℤ) (lits : List ℤ) (tried : List ℕ) (hints : List ℤ) : Type 0 where
  pub front : (pairs : Live) (at_end : List ℤ → Option StepFault) (more : List ℤ) → walk_on pairs at_end lits more ≡ at_end lits → walk_on pairs at_end lits (hints ++ more) ≡ at_end lits
  pub good : (pairs : Live) (more : List ℤ) → Spells live pairs → groups_fault pairs pivot lits (groups_of more) ≡ None → groups_fault pairs pivot lits (groups_of (hints ++ more)) ≡ None
  pub covers : (c : LiveClause) (more : List ℤ) → Contains live c → Contains tried c.number → IsIn c.lits (negation pivot) → list_any (λ group. group.id == c.id) (groups_of (hints ++ more)) ≡ true

-- the live clause of that number has the literal
pub record HoldsLit (live : List LiveClause) (number : ℕ) (l : ℤ) : Type 0 where
  pub clause : LiveClause
  pub is_live : clause_numbered live number ≡ Some clause
  pub inside : IsIn clause.lits l

-- a live clause holds the pivot's negation, and the literals of the resolvent can be false with no conflict
pub record IsUnresolved (live : List LiveClause) (pivot : ℤ) (lits : List ℤ) : Type 0 where
  pub clause : LiveClause
  pub trail : TrailState
  pub is_live : Contains live clause
  pub opposes : IsIn clause.lits (negation pivot)
  pub is_trail : IsTrail trail
  pub closed : IsClosed live trail
  pub lits_false : (l : ℤ) → Contains lits l → HasNegated trail.entries l
  pub others_false : (l : ℤ) → IsIn clause.lits l → l ≢ negation pivot → HasNegated trail.entries l
