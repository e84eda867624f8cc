-- For private contracts alone: clauses pushed behind a formula's.
use Rattle.std.specs.Prelude.{◌≡◌, ℕ, ◌+◌, ◌≤◌, List, ◌++◌, length}
use Rattle.lls_lit.specs.Formula.{Clause, Cnf}
use Rattle.lls_cnf.specs.declared.formula.TheConstants.Formula.{MOST_CLAUSES}

abbrev pub with_clauses : Cnf → List Clause → Cnf
with_clauses formula clauses = record formula { clauses = formula.clauses ++ clauses }

-- some clauses stand behind those that were there, and nothing else is new
pub record IsBegun (formula now : Cnf) : Type 0 where
  pub more : List Clause
  pub is : now ≡ with_clauses formula more

-- so many clauses more can be pushed
abbrev pub HasRoom : Cnf → ℕ → Type 0
HasRoom formula more = length formula.clauses + more ≤ MOST_CLAUSES
