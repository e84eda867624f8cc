use Rattle.std.proofs.Common.{sym, subst}
use Rattle.std.specs.Prelude.{ℤ, List}
use Rattle.lls_analyse.specs.Analyser.{ComesBy}
use Rattle.lls_analyse.proofs.Traces.{comes_by}
use Rattle.lls_analyse.proofs.trace.trace.Goals as goal

pub returns-clause-comes_by : goal.returns-clause-comes_by
returns-clause-comes_by g c =
    let store = g.S.Store.state c.args.store.now in
    let P : List ℤ → Type 0 = λ ls. ComesBy store.live c.args.trail.now c.args.conflict ls c.resolve.new.resolved.items in
    subst P (sym c.gather_met.ensures.met) (comes_by store c.args.trail.now c.args.conflict c.resolve.new.visited c.resolve.new.resolved.items c.requires.kept c.requires.sound c.requires.conflict.conflict c.requires.live c.resolve.ensures.visited c.resolve.ensures.resolved c.requires.level c.resolve.ensures.traced)
