-- For private contracts alone: the room that the maker of the formula needs, and a formula that grows.
use Rattle.std.specs.Prelude.{ℕ, ◌+◌, ◌≤◌, List, ◌++◌, length}
use Rattle.lls_lit.specs.Formula.{Clause, Cnf}
use Rattle.lls_cnf.specs.declared.formula.TheConstants.Formula.{MOST_CLAUSES}

-- so many clauses more can be pushed
abbrev pub HasRoom : Cnf → ℕ → Type 0
HasRoom formula more = length formula.clauses + more ≤ MOST_CLAUSES

-- the formula with so many variables more and these clauses behind its own
abbrev pub with_more : Cnf → ℕ → List Clause → Cnf
with_more formula n clauses = record { vars = formula.vars + n; clauses = formula.clauses ++ clauses }
