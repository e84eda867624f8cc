-- A walk along a literal's list: what was kept of it, and what is left.
use Rattle.std.specs.Prelude.{◌≡◌, ℕ, ℤ, Bool, true, false, not, List, [], ◌∷◌, ◌++◌, slice_get, Option, Some, None}
use Rattle.std.specs.Option.{option_map_or}
use Rattle.lls_lit.specs.Literal.{index_of}
use Rattle.lls_store.specs.Trail.{Entry}
use Rattle.lls_arena.specs.Arena.{HeadState}
use Rattle.lls_watch.specs.Watches.{WatchState, Lists, IsSegment, IsThreaded, IsWatching, LeadsOn, has, side_of, watched, with_first, with_link_at}
use Rattle.lls_watch.specs.declared.progress.Progress.{Progress}
use Rattle.lls_watch.specs.Passed.{IsOffset, ArePassed, AreListed}

-- where these live clauses watch the literal, which became false at that level at the first place that isn't passed, their other watched literal is true in time
abbrev pub AreVisited : List HeadState → List Entry → Progress → ℕ → ℤ → List ℕ → Type 0
AreVisited heads entries progress level lit cs =
    (c : ℕ) (head : HeadState) (w : Bool)
    → has cs c ≡ true
    → slice_get heads c ≡ Some head
    → head.live ≡ true
    → IsWatching head
    → watched w head ≡ lit
    → IsOffset entries progress.mark progress.passed level (watched (not w) head)

-- The literal's list is what was kept and then what is left, to which a link leads. What was kept was visited.
pub record IsWalk (state : WatchState) (lists : Lists) (entries : List Entry) (progress : Progress) (level : ℕ) (lit : ℤ) (kept rest : List ℕ) (next : Option ℕ) : Type 0 where
  pub threaded : IsThreaded state lists
  pub list_is : lists (index_of lit) ≡ kept ++ rest
  pub leads : IsSegment state.arena.heads lit next rest None
  pub passed : ArePassed state.arena.heads entries progress
  pub listed : AreListed state.arena.heads lists
  pub visited : AreVisited state.arena.heads entries progress level lit kept

-- the last of these clauses, if there is any
abbrev pub IsLast : List ℕ → Option ℕ → Type 0
IsLast kept None = kept ≡ []
IsLast kept (Some p) = (before : List ℕ) × (kept ≡ before ++ p ∷ [])

-- the clause of that number, if one is named, has an edge with the literal
abbrev pub HasEdge : WatchState → ℤ → Option ℕ → Type 0
HasEdge state lit None = Unit {0}
HasEdge state lit (Some p) = (next : Option ℕ) × LeadsOn state.arena.heads lit p next

-- which edge of the clause of that number has the literal
abbrev pub edge_of : WatchState → ℤ → ℕ → Bool
edge_of state lit p = option_map_or (λ head. side_of head lit) (slice_get state.arena.heads p) false

-- that clause, or the literal's list where none is named, leads on to another one
abbrev pub leading_on : Option ℕ → ℤ → Option ℕ → WatchState → WatchState
leading_on None lit next state = with_first (index_of lit) next state
leading_on (Some p) lit next state = with_link_at p (edge_of state lit p) next state
