-- For private contracts: a store and a log that agree.
use Rattle.std.specs.Prelude.{◌≡◌, ◌≤◌, ℕ, ℤ, true, List, [], ◌∷◌, ◌++◌, length, None, Some}
use Rattle.std.specs.List.{Contains}
use Rattle.lls_lit.specs.Formula.{Clause, Cnf}
use Rattle.lls_prooflog.specs.UnitWalk.{Live, find_clause, is_among, unit_walk}
use Rattle.lls_prooflog.specs.Steps.{KeepsSatisfiable}
use Rattle.lls_prooflog.specs.Spent.{IsGood, live_after}
use Rattle.lls_prooflog.specs.declared.step.Step.{Step}
use Rattle.lls_prooflog.specs.declared.step.Step.TheVariants.{Add}
use Rattle.lls_store.specs.Clauses.{LiveClause}
use Rattle.lls_store.specs.Store.{StoreState}
use Rattle.lls_analyse.specs.Spelled.{Spells}
use Rattle.lls_lemmas.specs.Lemmas.{AddsUnits, AreRising, GoesOnBy, last_id}

-- the store's clauses are those that are live behind the steps, no id is above the last that was given, of which each is greater than those
-- before it, and the clauses stay satisfiable where the formula is
pub record HoldsLive (formula : Cnf) (steps : List Step) (store : StoreState) (last : ℕ) : Type 0 where
  pub no_tail : store.tail ≡ []
  pub spelled : Spells store.live (live_after formula steps)
  pub ids : (clause : LiveClause) → Contains store.live clause → clause.id ≤ last
  pub rising : AreRising (length formula.clauses) steps
  pub most : last_id (length formula.clauses) steps ≤ last
  pub kept : KeepsSatisfiable formula (live_after formula steps)

-- the hints lead to the clause, however the store's clauses are spelled, and where at least its literals are taken as false
abbrev pub GivesClause : List LiveClause → List ℤ → List ℤ → Type 0
GivesClause live lits hints = (pairs : Live) (assumed : List ℤ) → Spells live pairs → ((l : ℤ) → Contains lits l → is_among assumed l ≡ true) → unit_walk pairs assumed hints ≡ None

-- a log goes on by clauses of at most one literal, which unit propagation gives, and what was live stays so
pub record Grows (formula : Cnf) (old new : List Step) : Type 0 where
  pub well : GoesOnBy IsGood formula old new
  pub units : AddsUnits formula old new
  pub stays : (id : ℕ) (clause : Clause) → find_clause (live_after formula old) id ≡ Some clause → find_clause (live_after formula new) id ≡ Some clause

-- one step more, which adds the lemma
pub record PushesLemma (old new : List Step) (lits : Clause) : Type 0 where
  pub id : ℕ
  pub hints : List ℤ
  pub follows : new ≡ old ++ Add id lits hints ∷ []
