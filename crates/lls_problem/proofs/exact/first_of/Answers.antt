use Rattle.std.proofs.Common.{◌∙◌, ap, arith}
use Rattle.lls_problem.specs.Firsts.{first}
use Rattle.lls_problem.proofs.Shorter.{returning_by, returning_of-parts}
use Rattle.lls_problem.proofs.FirstOf.{found_first, none_more, none_at_all}
use Rattle.lls_problem.proofs.exact.first_of.Goals as goal

pub returns-in-Some : goal.returns-in-Some
returns-in-Some c =
    found_first (returning_by c.args.problem.now c.args.history.now c.args.period) _ c.loop-q.q c.in-Some.length c.loop-q.invariant c.in-Some.ensures (omega (arith, c.loop-q-test.true))
    ∙ ap first (returning_of-parts c.args.problem.now c.args.history.now c.args.period)

pub loop-q-preserved : goal.loop-q-preserved
loop-q-preserved c =
    none_more (returning_by c.args.problem.now c.args.history.now c.args.period) c.loop-q.q c.loop-q.invariant c.in_default.ensures

pub returns : goal.returns
returns c =
    none_at_all (returning_by c.args.problem.now c.args.history.now c.args.period) _ c.loop-q.q c.loop-q.invariant (omega (arith, c.loop-q-test.false, c.loop-q.auto.q-end))
    ∙ ap first (returning_of-parts c.args.problem.now c.args.history.now c.args.period)
