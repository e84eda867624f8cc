-- For private contracts: a live clause that is found by its literals, and whether it may go.
use Rattle.std.specs.Prelude.{◌≡◌, true, ◌≢◌, ◌⊎◌, ℕ, ◌-◌, ℤ, List, Option, Some, slice_index_or, None}
use Rattle.std.specs.FinSet as set
use Rattle.lls_store.specs.Trail.{Entry, reason_of}
use Rattle.lls_store.specs.Clauses.{LiveClause, clause_numbered}
use Rattle.lls_store.specs.Removal.{IsNoReason}
use Rattle.lls_lemmas.specs.Lemmas.{is_tautology}

-- the clause of that number is live and has just these literals
pub record HasLiterals (live : List LiveClause) (number : ℕ) (lits : List ℤ) : Type 0 where
  pub clause : LiveClause
  pub is_live : clause_numbered live number ≡ Some clause
  pub same : set.from_list lits ≡ clause.lits

-- the clause of that number is live, and a literal stands beside its negation in it
pub record IsTautologyAt (live : List LiveClause) (number : ℕ) : Type 0 where
  pub lits : List ℤ
  pub has : HasLiterals live number lits
  pub tautology : is_tautology lits ≡ true

-- it forced the value of a variable, or stands for it at level 0
pub record IsNeeded (live : List LiveClause) (entries : List Entry) (units : List (Option ℕ)) (number : ℕ) : Type 0 where
  pub variable : ℕ
  pub clause : LiveClause
  pub is_live : clause_numbered live number ≡ Some clause
  pub why : (reason_of entries variable ≡ Some number) ⊎ (slice_index_or units (variable - 1) None ≡ Some clause.id)

-- it forced no literal, and stands for no value of level 0
pub record IsFree (live : List LiveClause) (entries : List Entry) (units : List (Option ℕ)) (number : ℕ) : Type 0 where
  pub no_reason : IsNoReason entries number
  pub no_unit : (clause : LiveClause) → clause_numbered live number ≡ Some clause → (i id : ℕ) → slice_index_or units i None ≡ Some id → clause.id ≢ id
