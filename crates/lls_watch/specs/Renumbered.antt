-- Numbers of clauses, as those that are live get them where the dead ones are taken away.
use Rattle.std.specs.Prelude.{ℕ, Bool, false, List, map, filter, slice_index_or}
use Rattle.lls_arena.specs.Arena.{HeadState, live_before, lives_of}

-- the clause of that number is there and live
abbrev pub is_live_at : List HeadState → ℕ → Bool
is_live_at heads c = slice_index_or (lives_of heads) c false

-- the live ones of these
abbrev pub live_among : List HeadState → List ℕ → List ℕ
live_among heads cs = filter (is_live_at heads) cs

-- and where each goes to
abbrev pub moved_among : List HeadState → List ℕ → List ℕ
moved_among heads cs = map (live_before heads) (live_among heads cs)
