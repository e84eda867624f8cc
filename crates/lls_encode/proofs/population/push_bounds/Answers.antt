use Rattle.std.proofs.Common.{◌≤◌, ◌∙◌, ap, arith}
use Rattle.lls_problem.specs.declared.demands.Demands.{Demands}
use Rattle.lls_problem.specs.Bounds.{all_counter_vars}
use Rattle.lls_encode.specs.Formula.{generation_size}
use Rattle.lls_encode.proofs.Counters.{bounds_more, bound_room}
use Rattle.lls_encode.proofs.population.push_bounds.Goals as goal

pub loop-bound-preserved : goal.loop-bound-preserved
loop-bound-preserved c =
    bounds_more c.args.problem.now c.args.formula.now c.loop-bound.formula c.push_bound.new.formula c.items-bound-items.result.now c.loop-bound.bound-index _
    c.loop-bound-test.true c.loop-bound.invariant c.in_ok-push_bound.ensures

pub push_bound-requires-clause-room : goal.push_bound-requires-clause-room
push_bound-requires-clause-room c =
    let few : all_counter_vars (generation_size c.args.problem.now) c.items-bound-items.result.now ≤ 1000000 =
    omega (arith, c.demands.ensures.kept.counters, ap (all_counter_vars (generation_size c.args.problem.now)) (c.items-bound-items.ensures ∙ ap (λ (d : Demands). d.bounds) c.demands.ensures.value)) in
    bound_room c.args.problem.now c.posed-posed.ensures.kept c.args.formula.now c.loop-bound.formula c.items-bound-items.result.now c.loop-bound.bound-index _
    c.loop-bound-test.true c.loop-bound.invariant few c.requires.room
