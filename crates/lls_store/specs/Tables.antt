-- For private contracts alone: a trail is kept as a list of literals and three tables by variable.
use Rattle.std.specs.Prelude.{◌≡◌, ◌≤◌, ◌<◌, ℕ, ◌+◌, ◌-◌, ℤ, pos, Bool, List, length, map, slice_index_or, Option, None, is_none, option_map, sum_by, if◌then◌else◌}
use Rattle.lls_lit.specs.Literal.{variable_of, is_positive}
use Rattle.lls_store.specs.Trail.{Entry, TrailState, entry_of, IsTrail}

-- a literal with the level and the reason of its variable
abbrev pub entry_in : List ℕ → List (Option ℕ) → ℤ → Entry
entry_in levels reasons l = record {
  lit = l;
  level = slice_index_or levels (variable_of l - 1) 0;
  reason = slice_index_or reasons (variable_of l - 1) None;
}

abbrev pub entries_in : List ℕ → List (Option ℕ) → List ℤ → List Entry
entries_in levels reasons lits = map (entry_in levels reasons) lits

abbrev pub trail_in : ℕ → ℕ → List ℕ → List (Option ℕ) → List ℤ → TrailState
trail_in vars current levels reasons lits = record { vars = vars; current = current; entries = entries_in levels reasons lits }

-- the value of a variable
abbrev pub value_of : List Entry → ℕ → Option Bool
value_of entries v = option_map (λ e. is_positive e.lit) (entry_of entries v)

-- how many variables have no value
abbrev pub unset_count : List (Option Bool) → ℕ
unset_count values = sum_by (λ value. if is_none value then 1 else 0) values

-- the values of the variables from 1 are those of the entries
abbrev pub AreValues : List Entry → List (Option Bool) → Type 0
AreValues entries values = (i : ℕ) → i < length values → slice_index_or values i None ≡ value_of entries (i + 1)

-- each literal stands where the table by variable says
pub record ArePlaced (vars : ℕ) (lits : List ℤ) (places : List ℕ) : Type 0 where
  pub place_each : length places ≡ vars
  pub are_places : (k : ℕ) → k < length lits → slice_index_or places (variable_of (slice_index_or lits k (pos 0)) - 1) 0 ≡ k

-- what holds of the parts of a trail, whose list of literals has so much room
pub record AreTables (trail : TrailState) (room : ℕ) (values : List (Option Bool)) (levels : List ℕ) (reasons : List (Option ℕ)) : Type 0 where
  pub is_trail : IsTrail trail
  pub room_for_all : trail.vars ≤ room
  pub value_each : length values ≡ trail.vars
  pub level_each : length levels ≡ trail.vars
  pub reason_each : length reasons ≡ trail.vars
  pub are_values : AreValues trail.entries values
  pub unset_rest : length trail.entries + unset_count values ≡ trail.vars
