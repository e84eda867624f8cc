-- The transitions that a rule forbids, and their clauses.
use Rattle.std.specs.Prelude.{◌≡◌, ℕ, ◌<◌, ◌-◌, ◌/◌, ◌%◌, ◌^◌, ◌==◌, Bool, false, List, All, map, take, slice_index_or, if◌then◌else◌}
use Rattle.std.specs.List.{range_with_len, list_any}
use Rattle.lls_lit.specs.Formula.{Clause}
use Rattle.lls_rule.specs.Rule.{answer, successor}
use Rattle.lls_cube.specs.Table.{forbidden_rows}
use Rattle.lls_cube.specs.Table as table
use Rattle.lls_cube.specs.Cube.{contains, row_cube}
use Rattle.lls_cube.specs.declared.cube.Cube.{Cube}
use Rattle.lls_transition.specs.declared.place.Place.{Place}
use Rattle.lls_transition.specs.declared.place.Place.TheVariants.{Known}
use Rattle.lls_transition.specs.declared.table.TheConstants.{INPUTS}
use Rattle.lls_transition.specs.Place.{value_of}
use Rattle.lls_transition.specs.Clause.{cube_clauses}

-- the row's last bit isn't the rule's successor of the nine before it
abbrev pub is_forbidden : List Bool → ℕ → Bool
is_forbidden rule row = if answer rule (row / 2) then row % 2 == 0 else row % 2 == 1

-- row by row
unfoldable pub table_of : List Bool → List Bool
table_of rule = map (is_forbidden rule) (range_with_len 0 (2 ^ INPUTS))

-- the clauses of a transition with these inputs: each forbidden row is ruled out, ascending
abbrev pub transition_clauses : List Bool → List Place → List Clause
transition_clauses rule inputs = cube_clauses inputs (map (row_cube INPUTS) (forbidden_rows (table_of rule)))

-- the last input's value is the rule's successor of the values of the nine before it
abbrev pub Obeys : List Bool → List Bool → List Place → Type 0
Obeys values rule inputs =
    value_of values (slice_index_or inputs (INPUTS - 1) (Known false)) ≡ successor rule (map (value_of values) (take (INPUTS - 1) inputs))

-- the cubes care for the inputs alone, and contain just the rows that the rule forbids
pub record ContainForbidden (rule : List Bool) (cubes : List Cube) : Type 0 where
  pub inputs : All (λ cube. cube.care < 2 ^ INPUTS) cubes
  pub rows : (row : ℕ) → row < 2 ^ INPUTS → list_any (contains row) cubes ≡ table.is_forbidden (table_of rule) row
