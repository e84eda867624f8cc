-- For private contracts: the unit clauses that stand for the values of level 0.
use Rattle.std.specs.Prelude.{◌≡◌, ◌≤◌, ◌<◌, ℕ, ◌+◌, ◌-◌, ℤ, pos, List, [], ◌∷◌, length, Option, Some, None, slice_get, slice_index_or, IsSome, option_map}
use Rattle.std.specs.List.{Contains}
use Rattle.std.specs.FinSet as set
use Rattle.lls_lit.specs.Literal.{variable_of}
use Rattle.lls_lit.specs.Formula.{Cnf}
use Rattle.lls_prooflog.specs.declared.step.Step.{Step}
use Rattle.lls_store.specs.declared.store.TheConstants.{MOST_ID}
use Rattle.lls_store.specs.Trail.{Entry, TrailState, Has, IsTrail}
use Rattle.lls_store.specs.Clauses.{LiveClause, clause_numbered}
use Rattle.lls_store.specs.Closed.{IsClosed}
use Rattle.lls_store.specs.Sound.{IsSound}
use Rattle.lls_store.specs.Store.{StoreState}
use Rattle.lls_lemmas.specs.Behind.{HoldsLive}

-- the id of the unit clause that stands for the value of a literal's variable
abbrev pub unit_of : List (Option ℕ) → ℤ → Option ℕ
unit_of units l = slice_index_or units (variable_of l - 1) None

-- a live clause has the id and a single literal, which is true and of that variable
pub record IsUnit (live : List LiveClause) (entries : List Entry) (v id : ℕ) : Type 0 where
  pub clause : LiveClause
  pub lit : ℤ
  pub is_live : Contains live clause
  pub same_id : clause.id ≡ id
  pub single : clause.lits ≡ set.from_list (lit ∷ [])
  pub is_true : Has entries lit
  pub of_variable : variable_of lit ≡ v

-- such is each id of the table, that of a variable at its index
abbrev pub AreUnits : List LiveClause → List Entry → List (Option ℕ) → Type 0
AreUnits live entries units = (i id : ℕ) → slice_index_or units i None ≡ Some id → IsUnit live entries (i + 1) id

-- each literal before that place of the trail has one
abbrev pub HaveUnits : List Entry → List (Option ℕ) → ℕ → Type 0
HaveUnits entries units done = (k : ℕ) (e : Entry) → k < done → slice_get entries k ≡ Some e → IsSome (unit_of units e.lit)

-- a trail at level 0 over a store, whose first literals have unit clauses
pub record HasUnits (store : StoreState) (trail : TrailState) (units : List (Option ℕ)) (done : ℕ) : Type 0 where
  pub level : trail.current ≡ 0
  pub is_trail : IsTrail trail
  pub sound : IsSound store.live trail
  pub same_vars : store.vars ≡ trail.vars
  pub unit_each : length units ≡ trail.vars
  pub are_units : AreUnits store.live trail.entries units
  pub complete : HaveUnits trail.entries units done
  pub done_within : done ≤ length trail.entries

-- what holds between calls, where the empty clause wasn't added: a store and a log that agree, and a trail with unit clauses
pub record IsAtRest (formula : Cnf) (steps : List Step) (store : StoreState) (trail : TrailState) (units : List (Option ℕ)) (done last : ℕ) : Type 0 where
  pub holds : HoldsLive formula steps store last
  pub has_units : HasUnits store trail units done

-- the hint of the unit clause, where there is one
abbrev pub unit_hint : List (Option ℕ) → ℤ → Option ℤ
unit_hint units l = option_map pos (unit_of units l)

-- each id of the table is in range
abbrev pub AreIds : List (Option ℕ) → Type 0
AreIds units = (i id : ℕ) → slice_index_or units i None ≡ Some id → (1 ≤ id) × (id ≤ MOST_ID)

-- clauses came behind those of the store, which stay live under their numbers, and each is satisfied where unit propagation over those before
-- had nothing to do
pub record StoreGrows (trail : TrailState) (old new : StoreState) : Type 0 where
  pub kept : (number : ℕ) (clause : LiveClause) → clause_numbered old.live number ≡ Some clause → clause_numbered new.live number ≡ Some clause
  pub closed : IsClosed old.live trail → IsClosed new.live trail

-- unit propagation has nothing to do, and each literal of the trail has a unit clause
pub record HasSettled (store : StoreState) (trail : TrailState) (done : ℕ) : Type 0 where
  pub closed : IsClosed store.live trail
  pub all_done : done ≡ length trail.entries

-- clauses can be tried: at level 0 unit propagation has nothing to do, each literal of the trail has a unit clause, and each variable marks
pub record IsReady (store : StoreState) (trail : TrailState) (units : List (Option ℕ)) (marks : ℕ) : Type 0 where
  pub has_units : HasUnits store trail units (length trail.entries)
  pub closed : IsClosed store.live trail
  pub marks_vars : marks ≡ trail.vars
