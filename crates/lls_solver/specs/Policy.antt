-- For private contracts alone: what is seen of a policy.
use Rattle.std.specs.Prelude.{ℕ, ◌+◌}
use Rattle.lls_store.specs.Store.{StoreState}

-- for so many levels of a trail, with level 0, and for so many numbers of clauses
pub record PolicyState : Type 0 where
  pub levels : ℕ
  pub clauses : ℕ

abbrev pub policy_for : StoreState → PolicyState
policy_for store = record { levels = store.vars + 1; clauses = store.count }
