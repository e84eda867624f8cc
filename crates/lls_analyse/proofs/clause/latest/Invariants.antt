use Rattle.std.proofs.Common.{◌≡◌, fold, take, None}
use Rattle.std.specs.Prelude.{IfSome}
use Rattle.lls_analyse.specs.Gathered.{later_of}
use Rattle.lls_analyse.specs.Valued.{HasValue}
use Rattle.lls_analyse.proofs.clause.latest.Given as goal

abbrev pub invariant-loop-lit : goal.invariant-loop-lit
invariant-loop-lit l = (l.latest ≡ fold (later_of l.trail.entries l.visited.seen) None (take l.lit-index l.lit-items)) × IfSome l.latest (HasValue l.trail.entries)
