-- For private contracts alone: the highest level of literals.
use Rattle.std.specs.Prelude.{◌≡◌, ◌<◌, ◌≤◌, ℕ, ℤ, List, Contains, Some}
use Rattle.lls_lit.specs.Literal.{variable_of}
use Rattle.lls_store.specs.Trail.{TrailState, level_of}

-- a literal of that level
pub record IsOfLevel (trail : TrailState) (lits : List ℤ) (level : ℕ) : Type 0 where
  pub literal : ℤ
  pub contained : Contains lits literal
  pub of_level : level_of trail.entries (variable_of literal) ≡ Some level

-- no literal is of a higher level, and one is of this, where it is above 0
pub record IsHighest (trail : TrailState) (lits : List ℤ) (level : ℕ) : Type 0 where
  pub bound : (l : ℤ) (other : ℕ) → Contains lits l → level_of trail.entries (variable_of l) ≡ Some other → other ≤ level
  pub reached : 0 < level → IsOfLevel trail lits level
