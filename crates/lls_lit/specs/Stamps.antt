-- For private contracts alone: marks are kept as a table of stamps.
use Rattle.std.specs.Prelude.{◌≡◌, ℕ, ◌+◌, ◌*◌, ◌≤◌, List, [], ◌∷◌, length, ℤ, All, if◌then◌else◌, ◌==◌}
use Rattle.std.specs.FinSet as set
use Rattle.lls_lit.specs.declared.var.TheConstants.Var.{MOST}
use Rattle.lls_lit.specs.Literal.{literal_at}
use Rattle.lls_lit.specs.Marked.{Marked}

-- the literals, from the place on, whose entry is the stamp
abbrev pub stamped : ℕ → List ℕ → ℕ → List ℤ
stamped place [] stamp = []
stamped place (s ∷ ss) stamp = if s == stamp then literal_at place ∷ stamped (place + 1) ss stamp else stamped (place + 1) ss stamp

abbrev pub marked : ℕ → List ℕ → ℕ → Marked
marked vars stamps stamp = record { vars = vars; lits = set.from_list (stamped 0 stamps stamp) }

-- what holds of the parts of marks
pub record AreStamps (vars : ℕ) (stamps : List ℕ) (stamp : ℕ) : Type 0 where
  pub vars_fit : vars ≤ MOST
  pub two_each : length stamps ≡ 2 * vars
  pub none_above : All (λ s. s ≤ stamp) stamps
  pub some : 1 ≤ stamp
