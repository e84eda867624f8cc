-- What an engine of lemmas is seen as, and what a lemma or a deletion makes of it.
use Rattle.std.specs.Prelude.{◌≡◌, ◌≢◌, ◌<◌, ℕ, ℤ, Bool, true, false, List, [], ◌∷◌, ◌++◌, Contains, Some, None, fold}
use Rattle.std.specs.List.{list_any}
use Rattle.std.specs.FinSet as set
use Rattle.std.specs.Ordering.{int_cmp}
use Rattle.lls_lit.specs.Literal.{negation}
use Rattle.lls_lit.specs.Formula.{Clause, Cnf, IsUnsatisfiable}
use Rattle.lls_prooflog.specs.UnitWalk.{Live, find_clause, is_among, unit_walk}
use Rattle.lls_prooflog.specs.Steps.{fault_of}
use Rattle.lls_prooflog.specs.Spent.{LogState, EachStep, log_start, log_after, live_after}
use Rattle.lls_prooflog.specs.declared.step.Step.{Step}
use Rattle.lls_prooflog.specs.declared.step.Step.TheVariants.{Add, Del}

-- the formula, the greatest variable that a lemma may have, the steps of the log, whether a lemma was added that unit propagation didn't give,
-- whether each literal that the live clauses imply by unit propagation alone has a unit clause, and whether the empty clause was added
pub record LemmasState : Type 0 where
  pub formula : Cnf
  pub vars : ℕ
  pub steps : List Step
  pub has_redundant : Bool
  pub settled : Bool
  pub refuted : Bool

-- a literal stands beside its negation
abbrev pub is_tautology : Clause → Bool
is_tautology lits = list_any (λ l. is_among lits (negation l)) lits

-- nothing is wrong with a step in its turn: it is a deletion, or an addition that hints give by unit propagation or by its first literal
abbrev pub HasNoFault : LogState → Step → Type 0
HasNoFault state step = fault_of state.live step ≡ None

-- a log goes on by steps that are such, each in its turn
pub record GoesOnBy (IsSuch : LogState → Step → Type 0) (formula : Cnf) (old new : List Step) : Type 0 where
  pub more : List Step
  pub follows : new ≡ old ++ more
  pub each : EachStep IsSuch (fold log_after (log_start formula) old) more

-- a log goes on by steps with which nothing is wrong
abbrev pub GoesOnWell : Cnf → List Step → List Step → Type 0
GoesOnWell formula old new = GoesOnBy HasNoFault formula old new

-- no clause of this literal alone is live
abbrev pub LacksUnit : Live → ℤ → Type 0
LacksUnit live l = (id : ℕ) (clause : Clause) → find_clause live id ≡ Some clause → set.from_list {R = int_cmp} clause ≢ set.from_list (l ∷ [])

-- a step adds the empty clause, or a clause of one literal of which none was live
abbrev pub AddsUnit : LogState → Step → Type 0
AddsUnit state (Add id [] hints) = Unit {0}
AddsUnit state (Add id (l ∷ []) hints) = LacksUnit state.live l
AddsUnit state (Add id (l ∷ (m ∷ lits)) hints) = ⊥
AddsUnit state (Del ids) = ⊥

-- a log goes on by nothing else
abbrev pub AddsUnits : Cnf → List Step → List Step → Type 0
AddsUnits formula old new = GoesOnBy AddsUnit formula old new

-- a log goes on by one step that adds the lemma, and by nothing else before and behind it than clauses of one literal or the empty clause
pub record AddsLemma (formula : Cnf) (old new : List Step) (lits : Clause) : Type 0 where
  pub before : List Step
  pub id : ℕ
  pub hints : List ℤ
  pub units_before : AddsUnits formula old before
  pub units_behind : AddsUnits formula (before ++ Add id lits hints ∷ []) new

-- a clause of just these literals, in this order, is live behind the steps
pub record IsLive (formula : Cnf) (steps : List Step) (lits : Clause) : Type 0 where
  pub id : ℕ
  pub found : find_clause (live_after formula steps) id ≡ Some lits

-- a step takes a live clause out in which a literal stands beside its negation
abbrev pub DropsTautology : LogState → Step → Type 0
DropsTautology state (Del (id ∷ [])) = (clause : Clause) × (find_clause state.live id ≡ Some clause) × (is_tautology clause ≡ true)
DropsTautology state step = ⊥

-- how a log begins: it takes out clauses of the formula that hold for any values, and goes on by clauses of one literal or the empty clause
pub record Begins (formula : Cnf) (steps : List Step) : Type 0 where
  pub before : List Step
  pub drops : GoesOnBy DropsTautology formula [] before
  pub units : AddsUnits formula before steps

-- what is live behind some steps is live behind others
abbrev pub KeepsLive : Cnf → List Step → List Step → Type 0
KeepsLive formula old new = (id : ℕ) (clause : Clause) → find_clause (live_after formula old) id ≡ Some clause → find_clause (live_after formula new) id ≡ Some clause

-- so is each clause in which no literal stands beside its negation
abbrev pub KeepsPlain : Cnf → List Step → List Step → Type 0
KeepsPlain formula old new =
    (id : ℕ) (clause : Clause) → find_clause (live_after formula old) id ≡ Some clause → is_tautology clause ≡ false → find_clause (live_after formula new) id ≡ Some clause

-- the id of the last addition, or the one before them
abbrev pub last_id : ℕ → List Step → ℕ
last_id last [] = last
last_id last (Add id lits hints ∷ steps) = last_id id steps
last_id last (Del ids ∷ steps) = last_id last steps

-- each addition has a greater id than those before it
abbrev pub AreRising : ℕ → List Step → Type 0
AreRising last [] = Unit {0}
AreRising last (Add id lits hints ∷ steps) = (last < id) × AreRising id steps
AreRising last (Del ids ∷ steps) = AreRising last steps

-- the last step adds the empty clause
pub record EndsEmpty (steps : List Step) : Type 0 where
  pub before : List Step
  pub id : ℕ
  pub hints : List ℤ
  pub ends : steps ≡ before ++ Add id [] hints ∷ []

-- no hints lead from the clauses that are live behind the steps to the clause
abbrev pub IsNotImplied : Cnf → List Step → Clause → Type 0
IsNotImplied formula steps lits = (hints : List ℤ) → unit_walk (live_after formula steps) lits hints ≡ None → ⊥

-- no addition of the clause is without fault behind the steps
abbrev pub IsNotAddable : Cnf → List Step → Clause → Type 0
IsNotAddable formula steps lits = (id : ℕ) (hints : List ℤ) → fault_of (live_after formula steps) (Add id lits hints) ≡ None → ⊥

-- a clause of just these literals is live behind the steps, in any order and with repetitions
pub record HasClause (formula : Cnf) (steps : List Step) (lits : Clause) : Type 0 where
  pub id : ℕ
  pub clause : Clause
  pub found : find_clause (live_after formula steps) id ≡ Some clause
  pub same_literals : set.from_list {R = int_cmp} clause ≡ set.from_list lits

-- some literal of the clause holds for good: a clause of it alone is live behind the steps
pub record HoldsForGood (formula : Cnf) (steps : List Step) (lits : Clause) : Type 0 where
  pub lit : ℤ
  pub inside : Contains lits lit
  pub unit : HasClause formula steps (lit ∷ [])

-- one step more, the deletion of a live clause of just these literals
pub record DeletesOne (formula : Cnf) (old new : List Step) (lits : Clause) : Type 0 where
  pub was_live : HasClause formula old lits
  pub deleted : new ≡ old ++ Del (was_live.id ∷ []) ∷ []

-- a lemma that unit propagation gives was added, and there may be more of them
pub record TakesImplied (old new : LemmasState) (lits : Clause) : Type 0 where
  pub adds : AddsLemma old.formula old.steps new.steps lits
  pub live : IsLive old.formula new.steps lits
  pub none_redundant : new.has_redundant ≡ old.has_redundant
  pub settled : new.settled ≡ true
  pub going : new.refuted ≡ false

-- one was added that unit propagation doesn't give
pub record TakesRedundant (old new : LemmasState) (lits : Clause) : Type 0 where
  pub adds : AddsLemma old.formula old.steps new.steps lits
  pub live : IsLive old.formula new.steps lits
  pub not_given : old.settled ≡ true → IsNotImplied old.formula old.steps lits
  pub told : new.has_redundant ≡ true
  pub settled : new.settled ≡ true
  pub going : new.refuted ≡ false

-- one wasn't added, since no hints whatever show that it may be
pub record TurnsDown (old new : LemmasState) (lits : Clause) : Type 0 where
  pub adds : AddsUnits old.formula old.steps new.steps
  pub not_implied : IsNotImplied old.formula new.steps lits
  pub not_addable : IsNotAddable old.formula new.steps lits
  pub stays : old.settled ≡ true → new ≡ old
  pub none_redundant : new.has_redundant ≡ old.has_redundant
  pub settled : new.settled ≡ true
  pub going : new.refuted ≡ false

-- the empty clause was added, so nothing satisfies the formula
pub record IsAtEnd (state : LemmasState) : Type 0 where
  pub refuted : state.refuted ≡ true
  pub ends : EndsEmpty state.steps
  pub unsatisfiable : IsUnsatisfiable state.formula
