-- A literal is a whole number that isn't 0: v for a variable, -v for its negation, as DIMACS CNF writes them.
use Rattle.std.specs.Prelude.{◌<◌, ◌≤◌, ℕ, zero, suc, ◌+◌, ◌-◌, ◌*◌, ◌/◌, ◌%◌, ℤ, pos, negsuc, Bool, true, false, if◌then◌else◌, ◌==◌}
use Rattle.lls_lit.specs.declared.var.TheConstants.Var.{MOST}

-- a variable's number
abbrev pub IsVariable : ℕ → Type 0
IsVariable n = (1 ≤ n) × (n ≤ MOST)

-- the variable of a literal; 0, which is no literal, has none
abbrev pub variable_of : ℤ → ℕ
variable_of (pos n) = n
variable_of (negsuc n) = n + 1

-- a literal's number
abbrev pub IsLiteral : ℤ → Type 0
IsLiteral l = IsVariable (variable_of l)

-- -l
abbrev pub negation : ℤ → ℤ
negation (pos zero) = pos 0
negation (pos (suc n)) = negsuc n
negation (negsuc n) = pos (n + 1)

-- where a literal stands in a table of two entries a variable
abbrev pub index_of : ℤ → ℕ
index_of (pos n) = 2 * (n - 1)
index_of (negsuc n) = 2 * n + 1

-- the literal at a place of that table
abbrev pub literal_at : ℕ → ℤ
literal_at i = if i % 2 == 0 then pos (i / 2 + 1) else negsuc (i / 2)

-- a place in the table of all variables
abbrev pub IsIndex : ℕ → Type 0
IsIndex i = i < 2 * MOST

-- whether a literal is its variable, and not the negation
abbrev pub is_positive : ℤ → Bool
is_positive (pos n) = true
is_positive (negsuc n) = false
