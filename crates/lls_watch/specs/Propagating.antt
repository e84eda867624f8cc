-- What propagation over watches needs, and keeps.
use Rattle.std.specs.Prelude.{◌≡◌, ◌*◌, ℕ, ℤ, true, List, length, map, slice_get, Option, Some}
use Rattle.lls_lit.specs.Literal.{negation}
use Rattle.lls_lit.specs.Formula.{is_within}
use Rattle.lls_store.specs.Trail.{Entry, TrailState}
use Rattle.lls_store.specs.Sound.{IsSound}
use Rattle.lls_store.specs.Store.{GoesOn}
use Rattle.lls_watch.specs.declared.progress.Progress.{Progress}
use Rattle.lls_arena.specs.Arena.{HeadState}
use Rattle.lls_watch.specs.Watches.{WatchState, Lists, IsThreaded, IsWatching}
use Rattle.lls_watch.specs.Passed.{ArePassed, AreListed, live_from}
use Rattle.lls_watch.specs.Visiting.{IsLast, IsWalk}

-- each literal of the variables has a list, and the clauses have no others
pub record Fits (state : WatchState) (vars : ℕ) : Type 0 where
  pub lists : length state.first ≡ 2 * vars
  pub within : (c : ℕ) (lits : List ℤ) → slice_get (map (λ head. head.lits) state.arena.heads) c ≡ Some lits → is_within vars lits ≡ true

-- the lists, the clauses, the trail and the progress fit one another
pub record ArePropagating (state : WatchState) (trail : TrailState) (progress : Progress) : Type 0 where
  pub lists : Lists
  pub threaded : IsThreaded state lists
  pub listed : AreListed state.arena.heads lists
  pub passed : ArePassed state.arena.heads trail.entries progress
  pub fits : Fits state trail.vars
  pub sound : IsSound (live_from 0 state.arena.heads) trail

-- a clause that is there under that number watches two literals
abbrev pub WatchesTwo : List HeadState → ℕ → Type 0
WatchesTwo heads c = (head : HeadState) → slice_get heads c ≡ Some head → IsWatching head

-- a store sees the same of both, and what watched two literals does
pub record LookAlike (old new : WatchState) : Type 0 where
  pub live : live_from 0 new.arena.heads ≡ live_from 0 old.arena.heads
  pub count : length new.arena.heads ≡ length old.arena.heads
  pub tail : new.arena.tail ≡ old.arena.tail
  pub spare_heads : new.arena.spare_heads ≡ old.arena.spare_heads
  pub spare_lits : new.arena.spare_lits ≡ old.arena.spare_lits
  pub watching : (c : ℕ) → WatchesTwo old.arena.heads c → WatchesTwo new.arena.heads c

-- where a walk along a literal's list stands, by the last clause that was kept and the one that comes next
pub record IsOnItsWay (before now : WatchState) (start trail : TrailState) (progress : Progress) (lit : ℤ) (last next : Option ℕ) : Type 0 where
  pub lists : Lists
  pub kept : List ℕ
  pub rest : List ℕ
  pub entry : Entry
  pub found : slice_get trail.entries progress.passed ≡ Some entry
  pub is_false : entry.lit ≡ negation lit
  pub walk : IsWalk now lists trail.entries progress entry.level lit kept rest next
  pub is_last : IsLast kept last
  pub fits : Fits now trail.vars
  pub sound : IsSound (live_from 0 now.arena.heads) trail
  pub alike : LookAlike before now
  pub grown : GoesOn start trail
