-- What marks are seen as: a set of literals.
use Rattle.std.specs.Prelude.{ℕ, refl}
use Rattle.std.specs.Ordering.{int_cmp}
use Rattle.std.specs.FinSet as set
use Rattle.std.specs.Coded.{Coded, code_by, coded×, coded_ℕ, coded_ℤ}

-- the greatest variable, and the literals that are marked
pub record Marked : Type 0 where
  pub vars : ℕ
  pub lits : set.FinSet int_cmp

-- marks are stored as the pair of these
abbrev pub marked_code : Coded Marked
marked_code =
    code_by (ℕ × set.FinSet int_cmp) (coded× coded_ℕ (set.code coded_ℤ)) (λ m. (m.vars, m.lits)) (λ p. record { vars = p.0; lits = p.1 }) (λ _. refl)
