-- For private contracts: clauses in their order, each under a number and an id, and one more that is being built behind them, in one buffer.
use Rattle.std.specs.Prelude.{◌≡◌, ◌≤◌, ◌<◌, ℕ, ◌-◌, ℤ, List, [], All, drop, length, map, slice_index_or}
use Rattle.std.specs.List.{slice_range}
use Rattle.lls_store.specs.declared.flat.Head.{Head}

-- a clause as it was handed in
pub record KeptClause : Type 0 where
  pub number : ℕ
  pub id : ℕ
  pub lits : List ℤ

-- the clauses, the tail, how many more clauses may come, and how many literals the tail may have
pub record FlatState : Type 0 where
  pub clauses : List KeptClause
  pub tail : List ℤ
  pub spare_heads : ℕ
  pub tail_room : ℕ

abbrev pub no_clauses : FlatState
no_clauses = record { clauses = []; tail = []; spare_heads = 0; tail_room = 0 }

-- the clause of a head
abbrev pub kept_at : List ℤ → Head → KeptClause
kept_at lits head = record { number = head.number; id = head.id; lits = slice_range lits head.start head.end }

abbrev pub kept_in : List ℤ → List Head → List KeptClause
kept_in lits heads = map (kept_at lits) heads

-- what the parts are seen as, where the lists of heads and of literals have so much capacity
abbrev pub flat_in : List Head → List ℤ → ℕ → ℕ → ℕ → FlatState
flat_in heads lits tail heads_capacity lits_capacity = record {
  clauses = kept_in lits heads;
  tail = drop tail lits;
  spare_heads = heads_capacity - length heads;
  tail_room = lits_capacity - tail;
}

-- the piece of the buffer that a head has ends at most there
pub record EndsBy (end : ℕ) (head : Head) : Type 0 where
  pub in_order : head.start ≤ head.end
  pub ends : head.end ≤ end

-- each piece ends before the tail, and that begins within the buffer
pub record AreHeads (heads : List Head) (tail length : ℕ) : Type 0 where
  pub end : All (EndsBy tail) heads
  pub tail_begins : tail ≤ length

-- the k-th has number k, and nothing else changed
pub record AreRenumbered (old new : List KeptClause) : Type 0 where
  pub length_same : length new ≡ length old
  pub each : (k : ℕ) (d : KeptClause) → k < length old → slice_index_or new k d ≡ record (slice_index_or old k d) { number = k }

-- so it is of heads
pub record AreNumbered (old new : List Head) : Type 0 where
  pub length_same : length new ≡ length old
  pub each : (k : ℕ) (d : Head) → k < length old → slice_index_or new k d ≡ record (slice_index_or old k d) { number = k }
