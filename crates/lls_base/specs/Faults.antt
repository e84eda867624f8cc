-- Counts of faults, of 64 bits. A count that is at its end stays there.
use Rattle.std.specs.Prelude.{ℕ, ◌+◌, ◌^◌, ◌-◌, ◌<◌, ◌≤◌, min}

-- the count at the exit of a call, which never falls
pub record Counts (before after : ℕ) : Type 0 where
  pub never_falls : before ≤ after
  pub fits : after < 2 ^ 64

-- the count rose, or stands at its end at the exit
abbrev pub Rose : ℕ → ℕ → Type 0
Rose before after = min (before + 1) (2 ^ 64 - 1) ≤ after
