use Rattle.std.proofs.Common.{◌≡◌, ◌<◌, ◌≤◌, ◌-◌, length, get_or}
use Rattle.std.specs.Prelude.{ℕ, ℤ, pos}
use Rattle.lls_lit.specs.Literal.{variable_of}
use Rattle.lls_analyse.specs.Marked.{GivesWay}
use Rattle.lls_analyse.specs.Minimised.{IsGrown}
use Rattle.lls_analyse.proofs.minimise.follow_all.Given as goal

abbrev pub invariant-loop-next : goal.invariant-loop-next
invariant-loop-next g l = record {
  same_vars : l.visited.vars ≡ l.trail.vars;
  behind : length l.fn.visited.lits ≤ l.next;
  grown : IsGrown l.trail.entries l.fn.visited l.visited;
  first : (m : ℤ) → variable_of m ≡ l.fn.var → GivesWay (g.S.Store.state l.store).live l.trail.entries l.visited.seen m;
  rest : (k : ℕ) → length l.fn.visited.lits ≤ k → k < l.next → GivesWay (g.S.Store.state l.store).live l.trail.entries l.visited.seen (get_or l.visited.lits k (pos 0));
}

abbrev pub decreases-loop-next : goal.decreases-loop-next
decreases-loop-next g l = l.trail.vars - l.next
