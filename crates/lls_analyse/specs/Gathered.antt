-- For private contracts: the literals of a learnt clause, as they are gathered.
use Rattle.std.specs.Prelude.{◌≡◌, ◌&&◌, ℕ, ℤ, Bool, true, not, nat_lt, List, [], ◌∷◌, Contains, Option, Some, None, unwrap_or, fold, filter, if◌then◌else◌}
use Rattle.std.specs.Ordering.{int_eq}
use Rattle.lls_lit.specs.Literal.{variable_of}
use Rattle.lls_store.specs.Trail.{Entry, level_of, place_of}
use Rattle.lls_analyse.specs.declared.visited.Seen.{Seen}
use Rattle.lls_analyse.specs.declared.visited.Seen.TheVariants.{Open}
use Rattle.lls_analyse.specs.Visited.{VisitedState, is_kept, status}

-- the level of a literal's variable, 0 where it has no value
abbrev pub level_or_zero : List Entry → ℤ → ℕ
level_or_zero entries l = unwrap_or (level_of entries (variable_of l)) 0

-- where a literal's variable stands in the trail, 0 where it has no value
abbrev pub place_or_zero : List Entry → ℤ → ℕ
place_or_zero entries l = unwrap_or (place_of entries (variable_of l)) 0

-- the literal's variable stands behind that one's
abbrev pub is_behind : List Entry → Option ℤ → ℤ → Bool
is_behind entries None l = true
is_behind entries (Some m) l = nat_lt (place_or_zero entries m) (place_or_zero entries l)

-- the literal is kept, and became false later than the latest so far
abbrev pub is_later : List Entry → List Seen → Option ℤ → ℤ → Bool
is_later entries seen latest l = is_kept (status seen l) && is_behind entries latest l

-- of the latest so far and another literal
abbrev pub later_of : List Entry → List Seen → Option ℤ → ℤ → Option ℤ
later_of entries seen latest l = if is_later entries seen latest l then Some l else latest

abbrev pub latest_of : List Entry → VisitedState → Option ℤ
latest_of entries s = fold (later_of entries s.seen) None s.lits

-- a literal that is kept, and isn't that one
abbrev pub is_other : List Seen → ℤ → ℤ → Bool
is_other seen second l = is_kept (status seen l) && not (int_eq l second)

-- the literals that are kept, that one first
abbrev pub kept_from : VisitedState → Option ℤ → List ℤ
kept_from s None = []
kept_from s (Some second) = second ∷ filter (is_other s.seen second) s.lits

-- the open literal, of those that are kept the one that became false last, and the others
pub record Gathers (entries : List Entry) (s : VisitedState) (lits : List ℤ) : Type 0 where
  pub first : ℤ
  pub contains : Contains s.lits first
  pub is_open : status s.seen first ≡ Open
  pub gathered : lits ≡ first ∷ kept_from s (latest_of entries s)

-- the level of the second literal, 0 where there is none
abbrev pub back_of : List Entry → List ℤ → ℕ
back_of entries [] = 0
back_of entries (l ∷ []) = 0
back_of entries (l ∷ (m ∷ ms)) = level_or_zero entries m
