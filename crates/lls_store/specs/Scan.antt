-- For private contracts: a store that scans has its clauses flat, and all of them are live.
use Rattle.std.specs.Prelude.{◌≡◌, ◌≢◌, ◌≤◌, ◌<◌, ℕ, ℤ, Bool, true, ◌&&◌, nat_lt, nat_le, List, length, map, All, AllPairs}
use Rattle.std.specs.FinSet as set
use Rattle.lls_lit.specs.Literal.{variable_of}
use Rattle.lls_lit.specs.Formula.{is_within}
use Rattle.lls_store.specs.declared.store.TheConstants.{MOST_CLAUSES}
use Rattle.lls_store.specs.Clauses.{LiveClause}
use Rattle.lls_store.specs.Store.{StoreState, AreLive, AreWithin}
use Rattle.lls_store.specs.Flat.{FlatState, KeptClause}

pub record ScanState : Type 0 where
  pub vars : ℕ
  pub count : ℕ
  pub flat : FlatState

abbrev pub live_clause : KeptClause → LiveClause
live_clause clause = record { number = clause.number; id = clause.id; lits = set.from_list clause.lits }

abbrev pub live_in : List KeptClause → List LiveClause
live_in clauses = map live_clause clauses

abbrev pub store_of : ScanState → StoreState
store_of s = record { vars = s.vars; count = s.count; live = live_in s.flat.clauses; tail = s.flat.tail }

-- one more clause, and as many literals at the tail as there are variables
abbrev pub room_of : ScanState → Bool
room_of s = nat_lt 0 s.flat.spare_heads && nat_le s.vars s.flat.tail_room

-- literals of the variables up to vars, of which none stands twice
pub record IsTail (vars : ℕ) (lits : List ℤ) : Type 0 where
  pub within : is_within vars lits ≡ true
  pub once : AllPairs (λ l m. variable_of l ≢ variable_of m) lits

-- the numbers rise
abbrev pub AreRising : List LiveClause → Type 0
AreRising live = AllPairs (λ a b. a.number < b.number) live

-- the numbers rise, and each literal is one of the variables up to vars
pub record AreScannable (vars : ℕ) (clauses : List KeptClause) : Type 0 where
  pub rising : AreRising (live_in clauses)
  pub within : All (λ clause. AreWithin vars clause.lits) (live_in clauses)

-- what holds of every store that scans
pub record IsScan (s : ScanState) : Type 0 where
  pub are_live : AreLive (store_of s)
  pub fit : length s.flat.clauses ≤ s.count
  pub few : s.count ≤ MOST_CLAUSES
  pub is_tail : IsTail s.vars s.flat.tail
