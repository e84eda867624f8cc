-- For private contracts alone: live clauses and their variables.
use Rattle.std.specs.Prelude.{ℕ, Bool}
use Rattle.std.specs.List.{list_all}
use Rattle.lls_lit.specs.Formula.{is_within}
use Rattle.lls_prooflog.specs.UnitWalk.{Live}

-- no clause has a literal beyond the variables
abbrev pub are_within : ℕ → Live → Bool
are_within vars live = list_all (λ pair. is_within vars pair.1) live

-- live clauses, and those of them that were added
pub record LiveParts : Type 0 where
  pub all : Live
  pub added : Live
