-- What an arena of clauses is seen as, and what its calls make of it.
use Rattle.std.specs.Prelude.{◌≡◌, ℕ, zero, suc, ◌-◌, ℤ, Bool, true, false, List, [], ◌∷◌, ◌++◌, map, filter, count_by, slice_get, swap, take, Option, Some, None}

-- a clause under its id, whether it is live, and the links of its two edges
pub record HeadState : Type 0 where
  pub id : ℕ
  pub live : Bool
  pub lits : List ℤ
  pub first : Option ℕ
  pub second : Option ℕ

-- the clauses by number, the clause that is being built, how many more clauses and literals there is room for, and whether it is
-- said where clauses are to go
pub record ArenaState : Type 0 where
  pub heads : List HeadState
  pub tail : List ℤ
  pub spare_heads : ℕ
  pub spare_lits : ℕ
  pub planned : Bool

abbrev pub empty_arena : ArenaState
empty_arena = record { heads = []; tail = []; spare_heads = 0; spare_lits = 0; planned = false }

abbrev pub lives_of : List HeadState → List Bool
lives_of heads = map (λ head. head.live) heads

-- the clause of that number is live
abbrev pub IsLive : List HeadState → ℕ → Type 0
IsLive heads c = slice_get (lives_of heads) c ≡ Some true

-- the first edge's link or the second's
abbrev pub link_of : Bool → HeadState → Option ℕ
link_of false head = head.first
link_of true head = head.second

-- where an edge's literal stands in its clause
abbrev pub place_of : Bool → ℕ
place_of false = 0
place_of true = 1

abbrev pub with_link : Bool → Option ℕ → HeadState → HeadState
with_link false next head = record head { first = next }
with_link true next head = record head { second = next }

abbrev pub killed : HeadState → HeadState
killed head = record head { live = false }

abbrev pub swapped : ℕ → ℕ → HeadState → HeadState
swapped i j head = record head { lits = swap head.lits i j }

abbrev pub unlinked : HeadState → HeadState
unlinked head = record head { first = None; second = None }

-- one clause is changed
abbrev pub changed_at : (HeadState → HeadState) → ℕ → List HeadState → List HeadState
changed_at change c [] = []
changed_at change zero (head ∷ heads) = change head ∷ heads
changed_at change (suc c) (head ∷ heads) = head ∷ changed_at change c heads

-- the clause at the tail becomes the last one
abbrev pub sealed : ArenaState → ℕ → ArenaState
sealed arena id = record arena {
  heads = arena.heads ++ record { id = id; live = true; lits = arena.tail; first = None; second = None } ∷ [];
  tail = [];
  spare_heads = arena.spare_heads - 1;
  planned = false;
}

-- how many live clauses stand before that one
abbrev pub live_before : List HeadState → ℕ → ℕ
live_before heads c = count_by (λ head. head.live) (take c heads)

-- the live clauses alone, with no links
abbrev pub compacted : ArenaState → ArenaState
compacted arena = record arena { heads = map unlinked (filter (λ head. head.live) arena.heads); planned = false }
