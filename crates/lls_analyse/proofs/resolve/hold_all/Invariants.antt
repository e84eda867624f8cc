use Rattle.std.proofs.Common.{◌≡◌, fold, take}
use Rattle.lls_analyse.specs.Marked.{held_in}
use Rattle.lls_analyse.proofs.resolve.hold_all.Given as goal

abbrev pub invariant-loop-lit : goal.invariant-loop-lit
invariant-loop-lit l = (l.visited ≡ fold (held_in l.trail) l.initial.visited (take l.lit-index l.lits)) × (l.visited.vars ≡ l.trail.vars)
