-- How many cells and numbers there are.
use Rattle.std.proofs.Common.{◌≡◌, ◌≤◌, ℕ, ◌*◌, arith, length}
use Rattle.std.proofs.Math.Nat.{mul-le-mul}
use Rattle.std.proofs.lemmas.List.FromFn.{length-map-range_with_len}
use Rattle.lls_gen.specs.Numbers.{nth, numbers}

pub square-le : (size : ℕ) → size ≤ 64 → size * size ≤ 4096
square-le size most = omega (arith, mul-le-mul most most)

pub length-numbers : (seed count : ℕ) → length (numbers seed count) ≡ count
length-numbers seed count = length-map-range_with_len (nth seed) 1 count
