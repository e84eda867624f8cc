-- For private contracts alone: places from one on.
use Rattle.std.specs.Prelude.{ℕ, ◌+◌, ◌&&◌, nat_le, nat_lt, Bool}

-- one of so many places from one on
abbrev pub is_between : ℕ → ℕ → ℕ → Bool
is_between from count k = nat_le from k && nat_lt k (from + count)
