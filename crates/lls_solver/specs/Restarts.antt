-- For private contracts alone: when a restart is due.
use Rattle.std.specs.Prelude.{ℕ, ◌*◌, Bool, ◌&&◌, nat_le, nat_lt}
use Rattle.lls_solver.specs.declared.restarts.TheConstants.{BETWEEN, MARGIN}

-- enough conflicts came since the last one, and the late mean is above the past's by the margin
abbrev pub is_due : ℕ → ℕ → ℕ → Bool
is_due late past since = nat_le BETWEEN since && nat_lt (MARGIN * past) (100 * late)
