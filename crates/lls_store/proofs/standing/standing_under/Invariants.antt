use Rattle.std.proofs.Common.{take}
use Rattle.lls_store.proofs.Standings.{Leaves}
use Rattle.lls_store.proofs.standing.standing_under.Given as goal

abbrev pub invariant-loop-lit : goal.invariant-loop-lit
invariant-loop-lit l = Leaves l.trail.entries (take l.lit-index l.lits) l.left
