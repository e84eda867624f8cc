use Rattle.std.proofs.Common.{◌≡◌, length}
use Rattle.lls_analyse.proofs.analysis.clear.Given as goal

abbrev pub invariant-loop-visited : goal.invariant-loop-visited
invariant-loop-visited l = l.visited.vars ≡ l.initial.visited.vars

abbrev pub decreases-loop-visited : goal.decreases-loop-visited
decreases-loop-visited l = length l.visited.lits
