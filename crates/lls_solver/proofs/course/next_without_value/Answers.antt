use Rattle.std.proofs.Common.{◌<◌, sym, ap, ◌∙◌, subst, arith}
use Rattle.std.specs.Prelude.{pos, count_by}
use Rattle.lls_order.specs.EitherOrder.{EitherState}
use Rattle.lls_solver.proofs.Waiting.{fewer_in, in_least, unset_other, waiting_but, waiting_without, none_some}
use Rattle.lls_solver.proofs.course.next_without_value.Goals as goal

pub returns-in-None-clause-some : goal.returns-in-None-clause-some
returns-in-None-clause-some c =
    let entries = c.args.trail.now.entries in
    let order = c.loop-var.order.order in
    let v = c.in-Some.var in
    record {
      within = omega (arith, c.in-Some.ensures.within, c.loop-var.invariant.vars);
      unset = unset_other entries c.new.result (pos v) c.new.ensures.var (c.value.ensures.unset.0 c.in-None.is);
      others = rw c.in-Some.ensures.out (waiting_but entries order v (in_least order v c.in-Some.ensures.greatest.stands) c.loop-var.invariant.waiting);
    }

pub loop-var-smaller : goal.loop-var-smaller
loop-var-smaller c =
    let P : EitherState → Type 0 = λ o. count_by (λ b. b) o.order.inside < count_by (λ b. b) c.loop-var.order.order.inside in
    subst P (sym c.in-Some.ensures.out) (fewer_in c.loop-var.order.order c.in-Some.var c.in-Some.ensures.greatest.stands)

pub loop-var-preserved : goal.loop-var-preserved
loop-var-preserved c =
    let entries = c.args.trail.now.entries in
    let order = c.loop-var.order.order in
    let v = c.in-Some.var in
    record {
      vars = ap (λ (o : EitherState). o.order.vars) c.in-Some.ensures.out ∙ c.loop-var.invariant.vars;
      waiting = rw c.in-Some.ensures.out (waiting_without entries order v c.new.result (in_least order v c.in-Some.ensures.greatest.stands) c.new.ensures.var c.loop-var.invariant.waiting (λ unset. none_some c.in-Some-value.field-0 (sym (c.value.ensures.unset.1 unset) ∙ c.in-Some-value.is)));
    }
