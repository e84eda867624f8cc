use Rattle.std.proofs.Common.{◌≡◌, ◌+◌, ◌-◌, true, sym, ap, ◌∙◌, subst, arith}
use Rattle.lls_lit.specs.Literal.{variable_of}
use Rattle.lls_store.specs.Trail.{entry_of}
use Rattle.lls_order.specs.Order.{is_in}
use Rattle.lls_order.specs.EitherOrder.{EitherState}
use Rattle.lls_order.specs.Changes.{put_in}
use Rattle.lls_solver.specs.Released.{AreReleased}
use Rattle.lls_solver.proofs.Levels.{known_at_level, is_read, variable_read, IsAbove, above_next, above_end, above_none, test_told, above_told, below_told}
use Rattle.lls_solver.proofs.Waiting.{waiting_put, waiting_front, released_next}
use Rattle.lls_solver.proofs.course.release.Goals as goal

pub is_above-requires : goal.is_above-requires
is_above-requires c =
    let t = c.args.trail.now in
    let l = c.lit-lit.result in
    let read = is_read t (c.loop-k.k - 1) l c.len-k.ensures.kept c.lit-lit.ensures in
    known_at_level (entry_of t.entries (variable_of l)) read.entry.level read.level

pub returns-then-not-is_above-clause-waiting : goal.returns-then-not-is_above-clause-waiting
returns-then-not-is_above-clause-waiting c =
    let t = c.args.trail.now in
    let k = c.loop-k.k - 1 in
    let read = is_read t k c.lit-lit.result c.len-k.ensures.kept c.lit-lit.ensures in
    let next : k + 1 ≡ c.loop-k.k = omega (arith, c.loop-k-test.true) in
    let low = below_told c.args.level read.entry.level c.is_above.result (test_told t k c.args.level c.lit-lit.result c.is_above.result read c.is_above.ensures) c.if-not-is_above.true in
    rw (above_end t c.args.level k read.entry read.at low (subst (IsAbove t c.args.level) (sym next) c.loop-k.invariant.above))
    (waiting_front t.entries c.loop-k.order.order (k + 1) c.loop-k.invariant.waiting (subst (AreReleased t.entries c.loop-k.order.order) (sym next) c.loop-k.invariant.released))

pub put_back-requires : goal.put_back-requires
put_back-requires c =
    omega (arith, variable_read c.args.trail.now (c.loop-k.k - 1) c.lit-lit.result c.len-k.ensures.kept c.lit-lit.ensures, c.requires.vars, c.loop-k.invariant.vars)

pub leave-requires : goal.leave-requires
leave-requires c =
    omega (arith, variable_read c.args.trail.now (c.loop-k.k - 1) c.lit-lit.result c.len-k.ensures.kept c.lit-lit.ensures, c.requires.phases, c.loop-k.invariant.phases)

pub loop-k-preserved : goal.loop-k-preserved
loop-k-preserved c =
    let t = c.args.trail.now in
    let k = c.loop-k.k - 1 in
    let v = c.var.result in
    let read = is_read t k c.lit-lit.result c.len-k.ensures.kept c.lit-lit.ensures in
    let next : k + 1 ≡ c.loop-k.k = omega (arith, c.loop-k-test.true) in
    record {
      vars = ap (λ (o : EitherState). o.order.vars) c.put_back.ensures.put_in ∙ c.loop-k.invariant.vars;
      phases = c.leave.ensures ∙ c.loop-k.invariant.phases;
      within = omega (arith, c.loop-k.invariant.within);
      waiting = rw c.put_back.ensures.put_in (waiting_put t.entries c.loop-k.order.order v c.loop-k.invariant.waiting);
      above = above_next t c.args.level k read.entry read.at (above_told c.args.level read.entry.level c.is_above.result (test_told t k c.args.level c.lit-lit.result c.is_above.result read c.is_above.ensures) c.if-not-is_above.false) (subst (IsAbove t c.args.level) (sym next) c.loop-k.invariant.above);
      released =
          let stands : is_in (put_in c.loop-k.order.order v) v ≡ true = subst (λ (o : EitherState). is_in o.order v ≡ true) c.put_back.ensures.put_in c.put_back.ensures.stands in
          rw c.put_back.ensures.put_in (released_next t.entries c.loop-k.order.order v k read.entry read.at (ap variable_of read.lit ∙ sym c.var.ensures.var) stands (subst (AreReleased t.entries c.loop-k.order.order) (sym next) c.loop-k.invariant.released));
    }

pub returns-clause-waiting : goal.returns-clause-waiting
returns-clause-waiting c =
    let t = c.args.trail.now in
    let none : c.loop-k.k ≡ 0 = omega (arith, c.loop-k-test.false) in
    let front = waiting_front t.entries c.loop-k.order.order 0 c.loop-k.invariant.waiting (subst (AreReleased t.entries c.loop-k.order.order) none c.loop-k.invariant.released) in
    rw (above_none t c.args.level (subst (IsAbove t c.args.level) none c.loop-k.invariant.above)) front
