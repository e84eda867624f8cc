-- For private contracts alone: clauses as they are stored. Each has a place, and is live where its id leads to its place.
use Rattle.std.specs.Prelude.{◌≡◌, ◌≤◌, ℕ, zero, suc, ◌+◌, ◌/◌, Bool, true, false, List, [], ◌∷◌, length, Option, Some, None, slice_get, if◌then◌else◌, ◌==◌}
use Rattle.std.specs.List.{zip}
use Rattle.lls_lit.specs.Formula.{Clause}
use Rattle.lls_prooflog.specs.UnitWalk.{Live}
use Rattle.lls_lrat.specs.Checking.{literals_of}

abbrev pub is_at : Option ℕ → ℕ → Bool
is_at None place = false
is_at (Some p) place = p == place

-- of clauses from the place on, those at whose id the map has their place
abbrev pub kept : (ℕ → Option ℕ) → ℕ → Live → Live
kept place_of place [] = []
kept place_of place (pair ∷ rest) =
    if is_at (place_of pair.0) place then pair ∷ kept place_of (place + 1) rest else kept place_of (place + 1) rest

-- the map leads each id to a clause that was stored under it
pub record IsIndexed (place_of : ℕ → Option ℕ) (ids : List ℕ) (clauses : List Clause) : Type 0 where
  pub same_many : length ids ≡ length clauses
  pub under : (id place : ℕ) → place_of id ≡ Some place → slice_get ids place ≡ Some id

-- how many literals some clauses have
abbrev pub literals_in : List Clause → ℕ
literals_in [] = 0
literals_in (clause ∷ clauses) = length clause + literals_in clauses

-- the clauses that are stored from the place on, where those that aren't live are empty
abbrev pub emptied : (ℕ → Option ℕ) → ℕ → Live → List Clause
emptied place_of place [] = []
emptied place_of place (pair ∷ rest) =
    (if is_at (place_of pair.0) place then pair.1 else []) ∷ emptied place_of (place + 1) rest

-- clauses that are stored under ids, with no more dead literals among theirs than so many, which are few beside all
pub record IsStored (place_of : ℕ → Option ℕ) (ids : List ℕ) (clauses : List Clause) (dead : ℕ) : Type 0 where
  pub indexed : IsIndexed place_of ids clauses
  pub dead_at_most : literals_in clauses ≤ literals_of (kept place_of 0 (zip ids clauses)) + dead
  pub few_dead : dead ≤ literals_in clauses / 2 + 2048

abbrev pub where_set : Option Bool → ℕ → Option ℕ
where_set (Some true) place = Some place
where_set (Some false) place = None
where_set None place = None

-- the places of a formula's clauses whose flags are set: the id is one more than the place
abbrev pub flagged : List Bool → ℕ → Option ℕ
flagged flags zero = None
flagged flags (suc place) = where_set (slice_get flags place) place
