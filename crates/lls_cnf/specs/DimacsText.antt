-- The text of a formula in DIMACS CNF: the header, then a line for each clause.
use Rattle.std.specs.Prelude.{ℕ, List, ◌++◌, length, codes}
use Rattle.std.specs.List.{flat_map}
use Rattle.std.specs.Fmt.{decimal, signed_decimal}
use Rattle.lls_lit.specs.Formula.{Clause, Cnf}

abbrev pub header_text : Cnf → List ℕ
header_text formula = codes "p cnf " ++ decimal formula.vars ++ codes " " ++ decimal (length formula.clauses) ++ codes "\n"

-- the literals and 0, with one space between
abbrev pub clause_text : Clause → List ℕ
clause_text clause = flat_map (λ l. signed_decimal l ++ codes " ") clause ++ codes "0\n"

abbrev pub dimacs_text : Cnf → List ℕ
dimacs_text formula = header_text formula ++ flat_map clause_text formula.clauses
