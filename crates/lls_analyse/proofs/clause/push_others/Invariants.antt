use Rattle.std.proofs.Common.{◌≡◌, ◌++◌, take}
use Rattle.std.specs.Prelude.{filter, vec_capacity}
use Rattle.lls_analyse.specs.Gathered.{is_other}
use Rattle.lls_analyse.proofs.clause.push_others.Given as goal

abbrev pub invariant-loop-lit : goal.invariant-loop-lit
invariant-loop-lit l = (l.clause.items ≡ l.initial.clause.items ++ filter (is_other l.visited.seen l.second) (take l.lit-index l.lit-items)) × (vec_capacity l.clause ≡ vec_capacity l.initial.clause)
