-- For private contracts alone: an arena is kept as a table of edges, three that tell of each clause, and one buffer of literals.
use Rattle.std.specs.Prelude.{◌≡◌, ◌≤◌, ◌<◌, ℕ, ◌+◌, ℤ, pos, Bool, true, false, List, [], ◌∷◌, ◌⊎◌, count_by, drop, filter, length, map, slice_index_or, take, Some}
use Rattle.std.specs.List.{slice_range}
use Rattle.lls_arena.specs.declared.TheConstants.{MOST_HEADS, MOST_LITS}
use Rattle.lls_arena.specs.declared.edges.Edges.{Edges}
use Rattle.lls_arena.specs.declared.arena.Span.{Span}
use Rattle.lls_arena.specs.Arena.{ArenaState, HeadState, unlinked}
use Rattle.lls_arena.specs.Links.{link_in}

-- what three tables tell of a clause: where its literals stand, its id, and whether it is live
pub record SpanState : Type 0 where
  pub start : ℕ
  pub end : ℕ
  pub id : ℕ
  pub live : Bool

abbrev pub span_of : Span → Bool → ℕ → SpanState
span_of span live id = record { start = span.start; end = span.end; id = id; live = live }

-- the three tables as one
abbrev pub spans_in : List Span → List Bool → List ℕ → List SpanState
spans_in [] lives ids = []
spans_in spans [] ids = []
spans_in spans lives [] = []
spans_in (s ∷ spans) (l ∷ lives) (i ∷ ids) = span_of s l i ∷ spans_in spans lives ids

-- the three have a row for each clause
pub record HaveRows (spans : List Span) (lives : List Bool) (ids : List ℕ) : Type 0 where
  pub lives_each : length lives ≡ length spans
  pub ids_each : length ids ≡ length spans

-- the clause of a span, with its edges
abbrev pub head_at : List ℤ → Edges → SpanState → HeadState
head_at lits edges span = record {
  id = span.id;
  live = span.live;
  lits = slice_range lits span.start span.end;
  first = link_in edges.first.next;
  second = link_in edges.second.next;
}

abbrev pub heads_in : List ℤ → List Edges → List SpanState → List HeadState
heads_in lits [] spans = []
heads_in lits edges [] = []
heads_in lits (e ∷ es) (s ∷ spans) = head_at lits e s ∷ heads_in lits es spans

abbrev pub arena_in : List Edges → List SpanState → List ℤ → ℕ → ℕ → ℕ → Bool → ArenaState
arena_in edges spans lits tail spare_heads spare_lits planned = record {
  heads = heads_in lits edges spans;
  tail = drop tail lits;
  spare_heads = spare_heads;
  spare_lits = spare_lits;
  planned = planned;
}

-- the spans follow one another from a place on, and end by the tail
abbrev pub AreInOrder : ℕ → List SpanState → ℕ → Type 0
AreInOrder from [] tail = from ≤ tail
AreInOrder from (s ∷ spans) tail = (from ≤ s.start) × (s.start ≤ s.end) × AreInOrder s.end spans tail

-- the edges have the first two literals of the clause
pub record AreWatched (lits : List ℤ) (edges : Edges) (span : SpanState) : Type 0 where
  pub first : span.start < span.end → edges.first.lit ≡ slice_index_or lits span.start (pos 0)
  pub second : span.start + 1 < span.end → edges.second.lit ≡ slice_index_or lits (span.start + 1) (pos 0)

abbrev pub AreAllWatched : List ℤ → List Edges → List SpanState → Type 0
AreAllWatched lits [] [] = Unit {0}
AreAllWatched lits [] (s ∷ spans) = ⊥
AreAllWatched lits (e ∷ es) [] = ⊥
AreAllWatched lits (e ∷ es) (s ∷ spans) = AreWatched lits e s × AreAllWatched lits es spans

-- the tables have room for so many more, of which each gets a number, and a place among the literals fits into four bytes
pub record HaveRoom (edges spans lits spare_heads spare_lits edges_room spans_room lives_room ids_room lits_room : ℕ) : Type 0 where
  pub for_edges : edges + spare_heads ≤ edges_room
  pub for_spans : spans + spare_heads ≤ spans_room
  pub for_lives : spans + spare_heads ≤ lives_room
  pub for_ids : spans + spare_heads ≤ ids_room
  pub for_lits : lits + spare_lits ≤ lits_room
  pub few_heads : spans + spare_heads ≤ MOST_HEADS
  pub few_lits : lits + spare_lits ≤ MOST_LITS

-- what holds of the parts of an arena
pub record AreParts (edges : List Edges) (spans : List SpanState) (lits : List ℤ) (tail : ℕ) : Type 0 where
  pub few : length spans ≤ MOST_HEADS
  pub in_order : AreInOrder 0 spans tail
  pub tail_begins : tail ≤ length lits
  pub watched : AreAllWatched lits edges spans

-- how many of the first clauses are live
abbrev pub live_among : List Bool → ℕ → ℕ
live_among lives k = count_by (λ live. live) (take k lives)

abbrev pub is_live_at : List Bool → ℕ → Bool
is_live_at lives k = slice_index_or lives k false

-- the first edge of each live clause leads to where it is to go
abbrev pub SayWhereTo : List Edges → List Bool → Type 0
SayWhereTo edges lives = (k : ℕ) (d : Edges) → k < length lives → is_live_at lives k ≡ true → link_in (slice_index_or edges k d).first.next ≡ Some (live_among lives k)

-- the edges after the live ones were told where to go, and nothing else changed
pub record AreTold (old new : List Edges) (lives : List Bool) : Type 0 where
  pub length_same : length new ≡ length old
  pub told : SayWhereTo new lives
  pub first : (k : ℕ) (d : Edges) → (slice_index_or new k d).first.lit ≡ (slice_index_or old k d).first.lit
  pub second : (k : ℕ) (d : Edges) → (slice_index_or new k d).second ≡ (slice_index_or old k d).second

-- the two differ between those places alone
pub record DifferWithin (xs ys : List ℤ) (low high : ℕ) : Type 0 where
  pub length_same : length ys ≡ length xs
  pub outside : (k : ℕ) (d : ℤ) → (k < low) ⊎ (high ≤ k) → slice_index_or ys k d ≡ slice_index_or xs k d

-- the first clauses and the front of the buffer are what is left of these clauses without the dead ones and the links
pub record AreSlid (heads : List HeadState) (edges : List Edges) (spans : List SpanState) (lits : List ℤ) (kept end : ℕ) : Type 0 where
  pub fewer : kept ≤ length spans
  pub shorter : end ≤ length lits
  pub live : heads_in lits (take kept edges) (take kept spans) ≡ map unlinked (filter (λ head. head.live) heads)
  pub in_order : AreInOrder 0 (take kept spans) end
  pub watched : AreAllWatched lits (take kept edges) (take kept spans)
