-- What a visit finds of a clause of which a watched literal is false.
use Rattle.std.specs.Prelude.{◌≡◌, ◌≢◌, ◌<◌, ◌⊎◌, ℕ, ℤ, pos, Bool, true, false, not, List, length, slice_get, slice_index_or, Some}
use Rattle.lls_lit.specs.Formula.{is_within}
use Rattle.lls_store.specs.Trail.{Entry, Has, HasNegated, IsUnset}
use Rattle.lls_arena.specs.Arena.{HeadState}
use Rattle.lls_watch.specs.declared.visit.Visit.{Visit}
use Rattle.lls_watch.specs.declared.visit.Visit.TheVariants.{Kept, Dead, Moves, Forces, Falsified}
use Rattle.lls_watch.specs.Watches.{IsWatching, watched}

-- the clause of that number is there, watches two literals, and has literals of the variables up to vars
pub record CanBeVisited (heads : List HeadState) (vars c : ℕ) : Type 0 where
  pub head : HeadState
  pub is_head : slice_get heads c ≡ Some head
  pub watching : IsWatching head
  pub within : is_within vars head.lits ≡ true

-- each literal behind the first two is false, or the other watched one once more
abbrev pub AreRestFalse : List Entry → List ℤ → ℤ → Type 0
AreRestFalse entries lits other =
    (n : ℕ) → 1 < n → n < length lits → HasNegated entries (slice_index_or lits n (pos 0)) ⊎ (slice_index_or lits n (pos 0) ≡ other)

-- the literal at that place is behind the first two, isn't false, and isn't the other watched one
pub record CanBeWatched (entries : List Entry) (lits : List ℤ) (other : ℤ) (n : ℕ) : Type 0 where
  pub behind : 1 < n
  pub inside : n < length lits
  pub not_false : ¬ HasNegated entries (slice_index_or lits n (pos 0))
  pub differs : slice_index_or lits n (pos 0) ≢ other

-- what the visit says of the clause whose first literal is false, or whose second is, and of the other watched literal
abbrev pub IsVisit : HeadState → List Entry → Bool → Visit → Type 0
IsVisit head entries w Kept = Has entries (watched (not w) head)
IsVisit head entries w Dead = head.live ≡ false
IsVisit head entries w (Moves n) = (head.live ≡ true) × CanBeWatched entries head.lits (watched (not w) head) n
IsVisit head entries w (Forces other) = (head.live ≡ true) × (other ≡ watched (not w) head) × IsUnset entries other × AreRestFalse entries head.lits other
IsVisit head entries w Falsified = (head.live ≡ true) × HasNegated entries (watched (not w) head) × AreRestFalse entries head.lits (watched (not w) head)
