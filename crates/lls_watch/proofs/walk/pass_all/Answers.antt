use Rattle.std.proofs.Common.{ap, arith, refl}
use Rattle.lls_store.specs.Trail.{TrailState}
use Rattle.lls_store.proofs.Passes.{GoesOn-further, GoesOn-same}
use Rattle.lls_watch.proofs.Led.{alike_further}
use Rattle.lls_watch.proofs.walk.pass_all.Goals as goal

pub loop-progress-init : goal.loop-progress-init
loop-progress-init c = (c.requires.ready, GoesOn-same c.args.trail.now, record { live = refl; count = refl; tail = refl; spare_heads = refl; spare_lits = refl; watching = λ _ watching. watching }, c.requires.reach)

pub visit_list-requires-clause-ready : goal.visit_list-requires-clause-ready
visit_list-requires-clause-ready c = c.loop-progress.invariant.0

pub returns-in-Some-clause-grown : goal.returns-in-Some-clause-grown
returns-in-Some-clause-grown c = GoesOn-further c.args.trail.now c.loop-progress.trail c.visit_list.new.trail c.loop-progress.invariant.1 c.visit_list.ensures.grown

pub returns-in-Some-clause-alike : goal.returns-in-Some-clause-alike
returns-in-Some-clause-alike c = alike_further c.args.watches.now c.loop-progress.watches c.visit_list.new.watches c.loop-progress.invariant.2 c.visit_list.ensures.alike

pub loop-progress-smaller : goal.loop-progress-smaller
loop-progress-smaller c =
    let it = c.in_default.ensures in
    omega (arith, it.passed, ap (λ (t : TrailState). t.vars) c.visit_list.ensures.grown.grown, c.len.ensures.kept.most, c.len.ensures.len, c.loop-progress-test.true)

pub loop-progress-preserved : goal.loop-progress-preserved
loop-progress-preserved c = (
  c.visit_list.ensures.kept,
  GoesOn-further c.args.trail.now c.loop-progress.trail c.visit_list.new.trail c.loop-progress.invariant.1 c.visit_list.ensures.grown,
  alike_further c.args.watches.now c.loop-progress.watches c.visit_list.new.watches c.loop-progress.invariant.2 c.visit_list.ensures.alike,
  c.visit_list.ensures.reach,
)

pub returns-clause-kept : goal.returns-clause-kept
returns-clause-kept c = c.loop-progress.invariant.0

pub returns-clause-grown : goal.returns-clause-grown
returns-clause-grown c = c.loop-progress.invariant.1

pub returns-clause-alike : goal.returns-clause-alike
returns-clause-alike c = c.loop-progress.invariant.2

pub returns-clause-reach : goal.returns-clause-reach
returns-clause-reach c = c.loop-progress.invariant.3
