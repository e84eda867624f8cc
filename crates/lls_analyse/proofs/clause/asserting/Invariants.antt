use Rattle.std.proofs.Common.{◌≡◌, All, take, false}
use Rattle.lls_analyse.specs.Visited.{is_open, status}
use Rattle.lls_analyse.proofs.clause.asserting.Given as goal

abbrev pub invariant-loop-lit : goal.invariant-loop-lit
invariant-loop-lit l = All (λ m. is_open (status l.visited.seen m) ≡ false) (take l.lit-index l.lit-items)
