use Rattle.std.proofs.Common.{ap, sym, subst, arith}
use Rattle.lls_store.specs.Sound.{IsSound}
use Rattle.lls_solver.specs.Policy.{PolicyState}
use Rattle.lls_solver.specs.Searching.{SearcherState}
use Rattle.lls_solver.proofs.searcher.Searcher.remove.Goals as goal

pub end_round-requires : goal.end_round-requires
end_round-requires g c = omega (arith, c.count.ensures.count, c.forget_marked.ensures.count, ap (λ (p : PolicyState). p.clauses) c.self.invariant.1.1)

pub forget_marked-requires-clause-sound : goal.forget_marked-requires-clause-sound
forget_marked-requires-clause-sound g c = subst (λ (x : SearcherState). IsSound x.store.live x.trail) (sym c.self.view_is) c.requires.sound
