-- What it makes of watches to seal the clause that is being built.
use Rattle.std.specs.Prelude.{◌≡◌, ◌<◌, ◌+◌, ◌-◌, ◌⊎◌, ℕ, List, [], ◌∷◌, ◌++◌, length}
use Rattle.std.specs.FinSet as set
use Rattle.lls_watch.specs.Watches.{WatchState}
use Rattle.lls_watch.specs.Passed.{live_from}
use Rattle.lls_watch.specs.Propagating.{WatchesTwo}
use Rattle.lls_watch.specs.Short.{HasOneAtMost}

-- the clause watches two of its literals, or has one at the most and its number is put behind those of the others that have
abbrev pub IsPut : ℕ → WatchState → List ℕ → WatchState → List ℕ → Type 0
IsPut vars old short new longer =
    (WatchesTwo new.arena.heads (length old.arena.heads) × (longer ≡ short))
    ⊎ (HasOneAtMost vars (set.from_list old.arena.tail) × (longer ≡ short ++ length old.arena.heads ∷ []))

-- there is one clause more, the one that was at the tail
pub record HasSealed (vars : ℕ) (old : WatchState) (short : List ℕ) (id : ℕ) (new : WatchState) (longer : List ℕ) : Type 0 where
  pub count : length new.arena.heads ≡ length old.arena.heads + 1
  pub live : live_from 0 new.arena.heads ≡ live_from 0 old.arena.heads ++ record { number = length old.arena.heads; id = id; lits = set.from_list old.arena.tail } ∷ []
  pub tail : new.arena.tail ≡ []
  pub spare_heads : new.arena.spare_heads ≡ old.arena.spare_heads - 1
  pub spare_lits : new.arena.spare_lits ≡ old.arena.spare_lits
  pub watching : (c : ℕ) → c < length old.arena.heads → WatchesTwo old.arena.heads c → WatchesTwo new.arena.heads c
  pub put : IsPut vars old short new longer
