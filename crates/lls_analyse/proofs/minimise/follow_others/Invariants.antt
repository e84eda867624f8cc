use Rattle.std.proofs.Common.{◌≡◌, take, true}
use Rattle.std.specs.Prelude.{ℤ, Contains}
use Rattle.lls_analyse.specs.Visited.{is_seen, status}
use Rattle.lls_analyse.specs.Minimised.{IsGrown}
use Rattle.lls_analyse.proofs.minimise.follow_others.Given as goal

abbrev pub invariant-loop-lit : goal.invariant-loop-lit
invariant-loop-lit g l = record {
  same_vars : l.visited.vars ≡ l.trail.vars;
  grown : IsGrown l.trail.entries l.initial.visited l.visited;
  seen : (m : ℤ) → Contains (take l.lit-index l.lit-items) m → is_seen (status l.visited.seen m) ≡ true;
}
