-- A store over watches: what holds of it, and what fits a trail.
use Rattle.std.specs.Prelude.{◌≡◌, ◌≤◌, ◌<◌, ◌+◌, ◌⊎◌, ℕ, ℤ, Bool, true, ◌&&◌, nat_lt, nat_le, List, All, length}
use Rattle.lls_lit.specs.declared.var.TheConstants.Var.{MOST}
use Rattle.lls_store.specs.declared.store.TheConstants.{MOST_CLAUSES}
use Rattle.lls_store.specs.Trail.{TrailState}
use Rattle.lls_store.specs.Changes.{decided}
use Rattle.lls_store.specs.Store.{StoreState, AreLive}
use Rattle.lls_store.specs.Scan.{IsTail}
use Rattle.lls_watch.specs.declared.progress.Progress.{Progress}
use Rattle.lls_watch.specs.Watches.{WatchState, has}
use Rattle.lls_watch.specs.Passed.{live_from, store_of}
use Rattle.lls_watch.specs.Propagating.{ArePropagating, WatchesTwo}
use Rattle.lls_watch.specs.Short.{AreSatisfiedForGood, AreShort}

-- the watches, how far propagation has come, the clauses of one literal and how many of them there is room for, and how many of them are satisfied for good
pub record WatchStoreState : Type 0 where
  pub vars : ℕ
  pub watches : WatchState
  pub progress : Progress
  pub short : List ℕ
  pub short_room : ℕ
  pub satisfied : ℕ

abbrev pub store_in : WatchStoreState → StoreState
store_in s = store_of s.vars s.watches.arena

-- one more clause, of any kind, and as many literals at the tail as there are variables
abbrev pub room_in : WatchStoreState → Bool
room_in s = nat_lt 0 s.watches.arena.spare_heads && nat_le s.vars (length s.watches.arena.tail + s.watches.arena.spare_lits) && nat_lt (length s.short) s.short_room

-- what holds of every store over watches
pub record IsWatchStore (s : WatchStoreState) : Type 0 where
  pub vars_fit : s.vars ≤ MOST
  pub are_live : AreLive (store_in s)
  pub few : length s.watches.arena.heads ≤ MOST_CLAUSES
  pub is_tail : IsTail s.vars s.watches.arena.tail
  pub there : All (λ c. c < length s.watches.arena.heads) s.short
  pub are_short : AreShort (live_from 0 s.watches.arena.heads) s.vars s.short
  pub covered : (c : ℕ) → WatchesTwo s.watches.arena.heads c ⊎ (has s.short c ≡ true)
  pub settled : s.satisfied ≤ length s.short

-- what it holds fits the trail
pub record Tracks (s : WatchStoreState) (t : TrailState) : Type 0 where
  pub vars : t.vars ≡ s.vars
  pub propagating : ArePropagating s.watches t s.progress
  pub reach : s.progress.passed ≤ length t.entries
  pub for_good : AreSatisfiedForGood (live_from 0 s.watches.arena.heads) t.entries s.short s.satisfied

-- it fits, and it will where a literal is decided
pub record Settles (s : WatchStoreState) (t : TrailState) : Type 0 where
  pub tracks : Tracks s t
  pub behind : (l : ℤ) → Tracks s (decided t l)
