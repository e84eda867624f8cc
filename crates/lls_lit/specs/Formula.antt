-- Clauses, formulas and assignments (DIMACS CNF), and what it means that an assignment satisfies them.
use Rattle.std.specs.Prelude.{◌≡◌, ℕ, zero, suc, ℤ, pos, negsuc, Bool, false, not, ◌&&◌, nat_le, List, length, slice_index_or}
use Rattle.std.specs.List.{list_any, list_all}
use Rattle.lls_lit.specs.Literal.{variable_of}

-- a clause: literals, of which one has to be true
abbrev pub Clause : Type 0
Clause = List ℤ

-- a number of variables, and clauses that all have to be true
pub record Cnf : Type 0 where
  pub vars : ℕ
  pub clauses : List Clause

-- the value of the variable n + 1 is the nth of the list; past its end a variable is false
abbrev pub value_at : List Bool → ℕ → Bool
value_at values n = slice_index_or values n false

-- the truth of a literal; 0 is no literal and isn't true
abbrev pub is_true : List Bool → ℤ → Bool
is_true values (pos zero) = false
is_true values (pos (suc n)) = value_at values n
is_true values (negsuc n) = not (value_at values n)

-- some literal is true
abbrev pub satisfies_clause : List Bool → Clause → Bool
satisfies_clause values clause = list_any (is_true values) clause

-- each clause is satisfied
abbrev pub satisfies : List Bool → List Clause → Bool
satisfies values clauses = list_all (satisfies_clause values) clauses

-- no list of one value a variable satisfies the formula
abbrev pub IsUnsatisfiable : Cnf → Type 0
IsUnsatisfiable formula = (values : List Bool) → length values ≡ formula.vars → satisfies values formula.clauses ≡ false

-- a literal of a variable from 1 to vars, so not 0
abbrev pub is_literal_of : ℕ → ℤ → Bool
is_literal_of vars l = nat_le 1 (variable_of l) && nat_le (variable_of l) vars

-- each literal is one of the variables from 1 to vars
abbrev pub is_within : ℕ → Clause → Bool
is_within vars clause = list_all (is_literal_of vars) clause
