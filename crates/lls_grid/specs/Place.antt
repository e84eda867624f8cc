-- Places along one side of a grid.
use Rattle.std.specs.Prelude.{ℕ, ℤ, pos, negsuc, ◌-ℤ◌, ◌≤ℤ◌, nat_lt, Option, None, Some, if◌then◌else◌}

-- the row or the column of a place, where it is one of `size`
abbrev pub inside : ℤ → ℕ → Option ℕ
inside (pos n) size = if nat_lt n size then Some n else None
inside (negsuc n) size = None

-- the place is at most that far from the first row or column, on either side
abbrev pub IsWithin : ℕ → ℤ → Type 0
IsWithin far place = ((pos 0 -ℤ pos far) ≤ℤ place) × (place ≤ℤ pos far)
