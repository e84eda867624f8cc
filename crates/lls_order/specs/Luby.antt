-- Luby numbers (Luby, Sinclair, Zuckerman, 1993).
use Rattle.std.specs.Prelude.{ℕ, ◌+◌, ◌-◌, ◌*◌, ◌^◌, ◌<◌, ◌≤◌, ◌≡◌}

-- the number at a place from 1: at one less than a power of two the half of that power; between two such places, as from the
-- first place on
pub data IsLuby : ℕ → ℕ → Type 0 where
  half : {n : ℕ} (k : ℕ) → n + 1 ≡ 2 * 2 ^ k → IsLuby n (2 ^ k)
  again : {n m : ℕ} (k : ℕ) → 2 ^ k ≤ n → n + 1 < 2 * 2 ^ k → IsLuby (n - 2 ^ k + 1) m → IsLuby n m
