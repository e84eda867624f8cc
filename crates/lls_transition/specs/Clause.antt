-- The clause of a cube of rows: that some input differs from its bit.
use Rattle.std.specs.Prelude.{ℕ, ◌-◌, ◌==◌, Bool, true, false, not, List, [], ◌∷◌, ◌++◌, map, fold, Option, None, Some, length, slice_index_or, if◌then◌else◌}
use Rattle.std.specs.Option.{option_map}
use Rattle.std.specs.List.{filter_map, list_any, range_with_len}
use Rattle.std.specs.Int.{bit_at}
use Rattle.std.specs.Ordering.{int_eq}
use Rattle.std.specs.Cmp.Lexicographic.{pointwise}
use Rattle.lls_lit.specs.Literal.{negation}
use Rattle.lls_lit.specs.Formula.{Clause, Cnf}
use Rattle.lls_rule.specs.Rule.{number_of}
use Rattle.lls_cube.specs.declared.cube.Cube.{Cube}
use Rattle.lls_transition.specs.declared.place.Place.{Place}
use Rattle.lls_transition.specs.declared.place.Place.TheVariants.{Known, Of}
use Rattle.lls_transition.specs.Place.{value_of}

-- an input's literal, negated where the bit is 1: what is true where the input isn't the bit
abbrev pub differing : Place → Bool → Place
differing place false = place
differing (Known value) true = Known (not value)
differing (Of literal) true = Of (negation literal)

-- The clause that one of these is true. A constant that is true leaves the clause out, and one that is false is dropped.
abbrev pub clause_of : List Place → Option Clause
clause_of [] = Some []
clause_of (Known true ∷ places) = None
clause_of (Known false ∷ places) = clause_of places
clause_of (Of literal ∷ places) = option_map (λ clause. literal ∷ clause) (clause_of places)

-- the bit of input i of so many, from the greatest weight to the least
abbrev pub input_bit : ℕ → ℕ → ℕ → Bool
input_bit inputs n i = bit_at n (inputs - 1 - i) == 1

-- what input i adds to a cube's clause; one that the cube doesn't care for adds nothing
abbrev pub cube_place : List Place → Cube → ℕ → Place
cube_place inputs cube i =
    if input_bit (length inputs) cube.care i then differing (slice_index_or inputs i (Known false)) (input_bit (length inputs) cube.value i) else Known false

unfoldable pub cube_places : List Place → Cube → List Place
cube_places inputs cube = map (cube_place inputs cube) (range_with_len 0 (length inputs))

abbrev pub cube_clause : List Place → Cube → Option Clause
cube_clause inputs cube = clause_of (cube_places inputs cube)

-- the clauses of cubes, in their order
abbrev pub cube_clauses : List Place → List Cube → List Clause
cube_clauses inputs cubes = filter_map (cube_clause inputs) cubes

-- the row of the inputs' values under an assignment
abbrev pub row_of : List Bool → List Place → ℕ
row_of values inputs = number_of (map (value_of values) inputs)

-- the formula with these clauses behind its own
abbrev pub with_clauses : Cnf → List Clause → Cnf
with_clauses formula clauses = record formula { clauses = formula.clauses ++ clauses }

-- a clause behind others, unless it stands among them
abbrev pub with_new : List Clause → Clause → List Clause
with_new clauses clause = if list_any (pointwise int_eq clause) clauses then clauses else clauses ++ clause ∷ []

-- the clauses without those that stood before, in their order
abbrev pub distinct : List Clause → List Clause
distinct clauses = fold with_new [] clauses
