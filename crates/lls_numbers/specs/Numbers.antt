-- Numbers of 64 bits by a linear congruential generator.
use Rattle.std.specs.Prelude.{ℕ, ◌+◌, ◌*◌, ◌%◌, ◌^◌}

-- the constants of D. E. Knuth's computer MMIX: what a number is multiplied by, and what is added then
abbrev pub multiplier : ℕ
multiplier = 6364136223846793005

abbrev pub increment : ℕ
increment = 1442695040888963407

-- what comes after a number
abbrev pub after : ℕ → ℕ
after number = (multiplier * number + increment) % 2 ^ 64
