-- Counts of faults over several calls.
use Rattle.std.proofs.Common.{ℕ, ◌<◌, ◌^◌, arith}
use Rattle.lls_base.specs.Faults.{Counts, Rose}

-- no call
pub Counts-refl : (count : ℕ) → count < 2 ^ 64 → Counts count count
Counts-refl count fits = record { never_falls = omega arith; fits = fits }

-- two calls, one after the other
pub Counts-trans : {before between after : ℕ} → Counts before between → Counts between after → Counts before after
Counts-trans first next = record { never_falls = omega (arith, first.never_falls, next.never_falls); fits = next.fits }

-- the count rose in the second call
pub Rose-after : (before between after : ℕ) → Counts before between → Rose between after → Rose before after
Rose-after before between after first next = omega (arith, first.never_falls, next)

-- the count rose in the first call
pub Rose-before : (before between after : ℕ) → Rose before between → Counts between after → Rose before after
Rose-before before between after first next = omega (arith, first, next.never_falls)
