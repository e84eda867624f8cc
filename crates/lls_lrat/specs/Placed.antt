-- What a `Places` is seen as: the place of each id. The contracts of its calls that other crates make speak of `place_of` alone;
-- `slot` and `in_table`, of which it is made, are for private contracts besides.
use Rattle.std.specs.Prelude.{ℕ, ◌-◌, List, Option, None, slice_get, if◌then◌else◌, ◌==◌, nat_lt}
use Rattle.std.specs.Option.{option_flatten, option_or}
use Rattle.std.specs.Map.{lookup}
use Rattle.lls_lrat.specs.declared.places.Places.{Places}

-- what a table has at an index, and nothing beyond its end
abbrev pub slot : List (Option ℕ) → ℕ → Option ℕ
slot table k = option_flatten (slice_get table k)

-- the entry of an id, where a table has those of the ids from the first on
abbrev pub in_table : ℕ → List (Option ℕ) → ℕ → Option ℕ
in_table first table id = if nat_lt id first then None else slot table (id - first)

-- the place of an id, None where it has none: the entry of the table, else that of the map
abbrev pub place_of : Places → ℕ → Option ℕ
place_of places id = option_or (in_table places.first places.table.items id) (lookup (λ q. id == q) places.rest.entries)
