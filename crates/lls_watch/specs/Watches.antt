-- Lists of the clauses that watch each literal, threaded through the links of an arena.
use Rattle.std.specs.Prelude.{◌≡◌, ◌≢◌, ◌<◌, ℕ, ℤ, pos, Bool, true, false, not, List, [], ◌∷◌, ◌++◌, length, slice_get, slice_index_or, slice_set, Option, Some, None, if◌then◌else◌, ◌==◌, ⊤}
use Rattle.std.specs.List.{list_any}
use Rattle.std.specs.Option.{option_map_or}
use Rattle.std.specs.Ordering.{int_eq}
use Rattle.lls_lit.specs.Literal.{IsLiteral, index_of, literal_at}
use Rattle.lls_arena.specs.Arena.{ArenaState, HeadState, link_of, with_link, changed_at, swapped, place_of}

-- the arena, and for each literal, by its place in a table, the first clause of its list
pub record WatchState : Type 0 where
  pub arena : ArenaState
  pub first : List (Option ℕ)

-- the clauses of each literal's list, by the literal's place in a table
abbrev pub Lists : Type 0
Lists = ℕ → List ℕ

-- the literal that a clause's first edge has, or its second
abbrev pub watched : Bool → HeadState → ℤ
watched w head = slice_index_or head.lits (place_of w) (pos 0)

-- a clause that watches two different literals
pub record IsWatching (head : HeadState) : Type 0 where
  pub long : 1 < length head.lits
  pub differ : watched false head ≢ watched true head

-- which edge of a clause has the literal: the second one or the first
abbrev pub side_of : HeadState → ℤ → Bool
side_of head lit = int_eq (watched true head) lit

-- the clause of that number has an edge with this literal, which leads on so
pub record LeadsOn (heads : List HeadState) (lit : ℤ) (c : ℕ) (next : Option ℕ) : Type 0 where
  pub head : HeadState
  pub is_head : slice_get heads c ≡ Some head
  pub watching : IsWatching head
  pub has : watched (side_of head lit) head ≡ lit
  pub next_is : link_of (side_of head lit) head ≡ next

-- the clause of that number watches the literal by one of its edges
pub record HasEdgeOf (heads : List HeadState) (lit : ℤ) (c : ℕ) : Type 0 where
  pub head : HeadState
  pub is_head : slice_get heads c ≡ Some head
  pub watching : IsWatching head
  pub has : watched (side_of head lit) head ≡ lit

-- the links from a start on lead through these clauses, by their edges with this literal, and then to an end
abbrev pub IsSegment : List HeadState → ℤ → Option ℕ → List ℕ → Option ℕ → Type 0
IsSegment heads lit start [] end = start ≡ end
IsSegment heads lit start (c ∷ cs) end = (start ≡ Some c) × ((next : Option ℕ) × (LeadsOn heads lit c next × IsSegment heads lit next cs end))

-- a list has a clause
abbrev pub has : List ℕ → ℕ → Bool
has cs c = list_any (λ k. k == c) cs

-- no clause stands twice
abbrev pub IsOnce : List ℕ → Type 0
IsOnce [] = ⊤
IsOnce (c ∷ cs) = (has cs c ≡ false) × IsOnce cs

-- the lists are threaded through the links
pub record IsThreaded (w : WatchState) (lists : Lists) : Type 0 where
  pub chained : (i : ℕ) → i < length w.first → IsSegment w.arena.heads (literal_at i) (slice_index_or w.first i None) (lists i) None
  pub once : (i : ℕ) → i < length w.first → IsOnce (lists i)

-- one list is another one
abbrev pub with_list : ℕ → List ℕ → Lists → Lists
with_list i list lists k = if k == i then list else lists k

-- the clause of that number has the link of one edge changed, and no list begins elsewhere
abbrev pub with_link_at : ℕ → Bool → Option ℕ → WatchState → WatchState
with_link_at c w next state = record state { arena = record state.arena { heads = changed_at (with_link w next) c state.arena.heads; planned = false } }

-- a literal's list begins with that clause
abbrev pub with_first : ℕ → Option ℕ → WatchState → WatchState
with_first i start state = record state { first = slice_set state.first i start }

-- the clause of that number is there and watches two literals; the one of this edge has a list
pub record WatchesAt (state : WatchState) (c : ℕ) (w : Bool) : Type 0 where
  pub head : HeadState
  pub is_head : slice_get state.arena.heads c ≡ Some head
  pub watching : IsWatching head
  pub within : index_of (watched w head) < length state.first

-- the literal of a clause's edge
abbrev pub literal_of : WatchState → ℕ → Bool → ℤ
literal_of state c w = option_map_or (watched w) (slice_get state.arena.heads c) (pos 0)

-- which list the edge belongs to
abbrev pub list_of : WatchState → ℕ → Bool → ℕ
list_of state c w = index_of (literal_of state c w)

-- the clause is put before its edge's list
abbrev pub attached : ℕ → Bool → WatchState → WatchState
attached c w old = with_first (list_of old c w) (Some c) (with_link_at c w (slice_index_or old.first (list_of old c w) None) old)

abbrev pub AttachedAt : ℕ → Bool → WatchState → WatchState → Type 0
AttachedAt c w old new = new ≡ attached c w old

-- the clause isn't in that list
abbrev pub IsNotIn : Lists → WatchState → ℕ → Bool → Type 0
IsNotIn lists state c w = has (lists (list_of state c w)) c ≡ false

abbrev pub with_attached : Lists → WatchState → ℕ → Bool → Lists
with_attached lists state c w = with_list (list_of state c w) (c ∷ lists (list_of state c w)) lists

-- the literal's list begins with that clause, which leads on so
pub record BeginsWith (state : WatchState) (lists : Lists) (lit : ℤ) (c : ℕ) (next : Option ℕ) (cs : List ℕ) : Type 0 where
  pub list_is : lists (index_of lit) ≡ c ∷ cs
  pub leads : LeadsOn state.arena.heads lit c next

-- in the literal's list that clause stands behind another one, and leads on so
pub record ComesAfter (state : WatchState) (lists : Lists) (lit : ℤ) (p c : ℕ) (next : Option ℕ) (before cs : List ℕ) : Type 0 where
  pub list_is : lists (index_of lit) ≡ before ++ p ∷ c ∷ cs
  pub leads : LeadsOn state.arena.heads lit c next

-- the edge of a clause has that literal, which is one
pub record HasLiteral (state : WatchState) (c : ℕ) (w : Bool) (lit : ℤ) : Type 0 where
  pub is_literal : IsLiteral lit
  pub read : option_map_or (watched w) (slice_get state.arena.heads c) (pos 0) ≡ lit

-- a clause of which a literal behind the first two can take the place of a watched one
pub record CanRewatch (state : WatchState) (c : ℕ) (w : Bool) (n : ℕ) : Type 0 where
  pub head : HeadState
  pub is_head : slice_get state.arena.heads c ≡ Some head
  pub watching : IsWatching head
  pub behind : 1 < n
  pub inside : n < length head.lits
  pub differ : slice_index_or head.lits n (pos 0) ≢ watched (not w) head
  pub was_literal : IsLiteral (watched w head)
  pub is_literal : IsLiteral (slice_index_or head.lits n (pos 0))
  pub within : index_of (slice_index_or head.lits n (pos 0)) < length state.first

-- it took that place
abbrev pub swapped_at : WatchState → ℕ → Bool → ℕ → WatchState
swapped_at state c w n = record state { arena = record state.arena { heads = changed_at (swapped (place_of w) n) c state.arena.heads } }

-- a clause of which the first literal and the one at a place behind it differ, and both have lists
pub record CanBegin (state : WatchState) (c n : ℕ) : Type 0 where
  pub head : HeadState
  pub is_head : slice_get state.arena.heads c ≡ Some head
  pub behind : 0 < n
  pub inside : n < length head.lits
  pub differ : slice_index_or head.lits n (pos 0) ≢ slice_index_or head.lits 0 (pos 0)
  pub first_literal : IsLiteral (slice_index_or head.lits 0 (pos 0))
  pub other_literal : IsLiteral (slice_index_or head.lits n (pos 0))
  pub first_within : index_of (slice_index_or head.lits 0 (pos 0)) < length state.first
  pub other_within : index_of (slice_index_or head.lits n (pos 0)) < length state.first

-- that literal becomes the second, and the clause is put before the lists of both
abbrev pub begun : ℕ → ℕ → WatchState → WatchState
begun c n old = attached c true (attached c false (swapped_at old c true n))

-- the clause is in no list
abbrev pub IsInNone : Lists → WatchState → ℕ → Type 0
IsInNone lists state c = (i : ℕ) → i < length state.first → has (lists i) c ≡ false

abbrev pub with_begun : Lists → WatchState → ℕ → ℕ → Lists
with_begun lists old c n = with_attached (with_attached lists (swapped_at old c true n) c false) (attached c false (swapped_at old c true n)) c true
