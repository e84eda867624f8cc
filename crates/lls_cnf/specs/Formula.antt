-- For private contracts alone: what holds of a formula's parts.
use Rattle.std.specs.Prelude.{◌≡◌, ◌≤◌, ℕ, true, List, length}
use Rattle.std.specs.List.{list_all}
use Rattle.lls_lit.specs.Formula.{Clause, is_within}
use Rattle.lls_lit.specs.declared.var.TheConstants.Var.{MOST}
use Rattle.lls_cnf.specs.declared.formula.TheConstants.Formula.{MOST_CLAUSES}

pub record IsFormula (vars : ℕ) (clauses : List Clause) : Type 0 where
  pub vars_fit : vars ≤ MOST
  pub clauses_fit : length clauses ≤ MOST_CLAUSES
  pub within : list_all (is_within vars) clauses ≡ true
