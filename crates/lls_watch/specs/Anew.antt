-- Lists that are threaded anew.
use Rattle.std.specs.Prelude.{◌≡◌, ◌≢◌, ◌≤◌, ◌<◌, ◌⊎◌, ℕ, ℤ, pos, Bool, true, List, length, map, slice_get, slice_index_or, Some}
use Rattle.lls_lit.specs.Literal.{IsLiteral, index_of}
use Rattle.lls_arena.specs.Arena.{HeadState, unlinked}
use Rattle.lls_watch.specs.Watches.{WatchState, Lists, IsThreaded, IsWatching, has, watched}
use Rattle.lls_watch.specs.Passed.{AreListed}

-- there are two literals, and the first two differ
pub record BeginApart (lits : List ℤ) : Type 0 where
  pub long : 1 < length lits
  pub differ : slice_index_or lits 0 (pos 0) ≢ slice_index_or lits 1 (pos 0)

-- a watched literal of each clause that watches two has a list
abbrev pub CanBeListed : WatchState → Type 0
CanBeListed state =
    (c : ℕ) (head : HeadState) (w : Bool) → slice_get state.arena.heads c ≡ Some head → IsWatching head → IsLiteral (watched w head) × (index_of (watched w head) < length state.first)

-- but for links and where lists begin, both are the same
pub record IsRelinked (old new : WatchState) : Type 0 where
  pub heads : map unlinked new.arena.heads ≡ map unlinked old.arena.heads
  pub same : new.arena ≡ record old.arena { heads = new.arena.heads; planned = new.arena.planned }
  pub first : length new.first ≡ length old.first

-- beside what they had, the lists have one clause more: where it watches two literals, those of both have it
pub record AreLonger (new : WatchState) (lists : Lists) (c : ℕ) : Type 0 where
  pub others : Lists
  pub threaded : IsThreaded new others
  pub grown : (i k : ℕ) → has (lists i) k ≡ true → has (others i) k ≡ true
  pub only : (i k : ℕ) → has (others i) k ≡ true → (k ≡ c) ⊎ (has (lists i) k ≡ true)
  pub both : (head : HeadState) (w : Bool) → slice_get new.arena.heads c ≡ Some head → IsWatching head → has (others (index_of (watched w head))) c ≡ true

-- of the clauses from that number on, and of no others, each that watches two literals is in the lists of both
pub record AreListedFrom (state : WatchState) (n : ℕ) : Type 0 where
  pub lists : Lists
  pub threaded : IsThreaded state lists
  pub among : (i k : ℕ) → has (lists i) k ≡ true → n ≤ k
  pub listed : (c : ℕ) (head : HeadState) (w : Bool) → n ≤ c → slice_get state.arena.heads c ≡ Some head → IsWatching head → has (lists (index_of (watched w head))) c ≡ true

-- each that watches two literals is in the lists of both
abbrev pub HasLists : WatchState → Type 0
HasLists state = (lists : Lists) × (IsThreaded state lists × AreListed state.arena.heads lists)
