-- Numbers from a seed.
use Rattle.std.specs.Prelude.{ℕ, zero, suc, List, map}
use Rattle.std.specs.List.{range_with_len}
use Rattle.lls_numbers.specs.Numbers.{after}

-- what comes k times after the seed
unfoldable pub nth : ℕ → ℕ → ℕ
nth seed zero = seed
nth seed (suc k) = after (nth seed k)

-- the first so many numbers after the seed
abbrev pub numbers : ℕ → ℕ → List ℕ
numbers seed count = map (nth seed) (range_with_len 1 count)
