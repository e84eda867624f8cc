-- What it makes of live clauses and of a trail to take a clause out, and to number the clauses that are left anew.
use Rattle.std.specs.Prelude.{◌≡◌, ◌≢◌, ◌<◌, ℕ, not, nat_lt, List, All, length, slice_get, map, filter, count_by, Some, option_map, ◌==◌}
use Rattle.lls_store.specs.Trail.{Entry, TrailState, literals_of}
use Rattle.lls_store.specs.Clauses.{LiveClause, clause_numbered}
use Rattle.lls_store.specs.Sound.{IsSound}
use Rattle.lls_store.specs.Store.{StoreState, AreLive}

-- the clauses but the one of that number
abbrev pub all_but : List LiveClause → ℕ → List LiveClause
all_but live number = filter (λ clause. not (clause.number == number)) live

-- the store without the clause of that number
abbrev pub without_clause : StoreState → ℕ → StoreState
without_clause store number = record store { live = all_but store.live number }

-- no literal was forced by the clause of that number
abbrev pub IsNoReason : List Entry → ℕ → Type 0
IsNoReason entries number = All (λ e. e.reason ≢ Some number) entries

-- how many live clauses have a lesser number
abbrev pub new_number : List LiveClause → ℕ → ℕ
new_number live number = count_by (λ clause. nat_lt clause.number number) live

abbrev pub renumbered : List LiveClause → LiveClause → LiveClause
renumbered live clause = record clause { number = new_number live clause.number }

-- the live clauses are numbered from 0 in their order
abbrev pub compacted : StoreState → StoreState
compacted store = record store { count = length store.live; live = map (renumbered store.live) store.live }

abbrev pub renamed_entry : List LiveClause → Entry → Entry
renamed_entry live e = record e { reason = option_map (new_number live) e.reason }

-- each reason is its clause's new number
abbrev pub renamed : List LiveClause → TrailState → TrailState
renamed live trail = record trail { entries = map (renamed_entry live) trail.entries }

-- a number before, and a number now, are those of one clause: it has the same id and the same literals
pub record NamesSameClause (before now : List LiveClause) (old new : ℕ) : Type 0 where
  pub clause : LiveClause
  pub renumbered : LiveClause
  pub was_live : clause_numbered before old ≡ Some clause
  pub is_live : clause_numbered now new ≡ Some renumbered
  pub same_id : renumbered.id ≡ clause.id
  pub same_lits : renumbered.lits ≡ clause.lits

-- numbered anew, a store and a trail say what they said before
pub record SaysTheSame (before now : StoreState) (trail renamed : TrailState) : Type 0 where
  pub ids : map (λ clause. clause.id) now.live ≡ map (λ clause. clause.id) before.live
  pub lits : map (λ clause. clause.lits) now.live ≡ map (λ clause. clause.lits) before.live
  pub numbers : (k : ℕ) → k < now.count → slice_get (map (λ clause. clause.number) now.live) k ≡ Some k
  pub literals : literals_of renamed.entries ≡ literals_of trail.entries
  pub reasons : (k old : ℕ) → slice_get (map (λ e. e.reason) trail.entries) k ≡ Some (Some old)
      → (new : ℕ) × (slice_get (map (λ e. e.reason) renamed.entries) k ≡ Some (Some new)) × NamesSameClause before.live now.live old new

-- so it is of every store and sound trail
abbrev pub CompactingSaysTheSame : Type 0
CompactingSaysTheSame =
    (store : StoreState) (trail : TrailState)
    → AreLive store
    → IsSound store.live trail
    → SaysTheSame store (compacted store) trail (renamed store.live trail)
