-- For private contracts alone: what was read so far, as the numbers that it was read from.
use Rattle.std.specs.Prelude.{ℤ, pos, List, [], ◌∷◌, ◌++◌, Option, unwrap_or}
use Rattle.std.specs.List.{flat_map}
use Rattle.lls_lit.specs.Formula.{Clause}

-- clauses, each with its zero, and then a clause that has none yet
abbrev pub written : List Clause → List ℤ → List ℤ
written clauses open_clause = flat_map (λ clause. clause ++ pos 0 ∷ []) clauses ++ open_clause

-- the number of a literal, or zero
abbrev pub number_of : Option ℤ → ℤ
number_of lit = unwrap_or lit (pos 0)
