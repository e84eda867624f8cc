-- What a store sees of an arena's clauses, how far unit propagation has come, and what holds of the watched literals behind it.
use Rattle.std.specs.Prelude.{◌≡◌, ◌≤◌, ◌<◌, ℕ, suc, ℤ, Bool, true, not, List, [], ◌∷◌, length, slice_get, nat_le, Option, Some, None, if◌then◌else◌, ◌⊎◌}
use Rattle.std.specs.FinSet as set
use Rattle.lls_lit.specs.Literal.{index_of, negation}
use Rattle.lls_store.specs.Trail.{Entry}
use Rattle.lls_store.specs.Clauses.{LiveClause}
use Rattle.lls_store.specs.Store.{StoreState}
use Rattle.lls_arena.specs.Arena.{ArenaState, HeadState}
use Rattle.lls_watch.specs.declared.progress.Progress.{Progress}
use Rattle.lls_watch.specs.Watches.{IsWatching, Lists, has, watched}

-- the live clauses among these, of which the first has that number
abbrev pub live_from : ℕ → List HeadState → List LiveClause
live_from n [] = []
live_from n (head ∷ heads) =
    if head.live then record { number = n; id = head.id; lits = set.from_list head.lits } ∷ live_from (suc n) heads else live_from (suc n) heads

-- the store that an arena's clauses make
abbrev pub store_of : ℕ → ArenaState → StoreState
store_of vars arena = record { vars = vars; count = length arena.heads; live = live_from 0 arena.heads; tail = arena.tail }

-- the place is the marked one or behind it
abbrev pub IsMarked : Option ℕ → ℕ → Type 0
IsMarked None place = ⊥
IsMarked (Some mark) place = mark ≤ place

-- A literal is true, and so from a level on that isn't above a false literal's; or the false one's place is marked.
pub record IsOffset (entries : List Entry) (mark : Option ℕ) (place level : ℕ) (other : ℤ) : Type 0 where
  pub at : ℕ
  pub entry : Entry
  pub found : slice_get entries at ≡ Some entry
  pub is_true : entry.lit ≡ other
  pub in_time : (entry.level ≤ level) ⊎ IsMarked mark place

-- where a watched literal of a live clause is false and was passed, the other one is true in time
abbrev pub ArePassed : List HeadState → List Entry → Progress → Type 0
ArePassed heads entries progress =
    (c : ℕ) (head : HeadState) (w : Bool) (place : ℕ) (entry : Entry)
    → slice_get heads c ≡ Some head
    → head.live ≡ true
    → IsWatching head
    → place < progress.passed
    → slice_get entries place ≡ Some entry
    → entry.lit ≡ negation (watched w head)
    → IsOffset entries progress.mark place entry.level (watched (not w) head)

-- how many of the literals before the mark were passed
abbrev pub passed_before : ℕ → Option ℕ → ℕ
passed_before passed None = passed
passed_before passed (Some mark) = if nat_le mark passed then mark else passed

-- what is left of the progress where the trail is cut
abbrev pub cut_progress : Progress → Progress
cut_progress progress = record { passed = passed_before progress.passed progress.mark; mark = None }

-- each live clause that watches two literals is in the lists of both
abbrev pub AreListed : List HeadState → Lists → Type 0
AreListed heads lists =
    (c : ℕ) (head : HeadState) (w : Bool) → slice_get heads c ≡ Some head → head.live ≡ true → IsWatching head → has (lists (index_of (watched w head))) c ≡ true
