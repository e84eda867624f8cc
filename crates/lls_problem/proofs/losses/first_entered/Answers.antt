use Rattle.std.proofs.Common.{◌≡◌, ap, sym, ◌∙◌, arith}
use Rattle.std.specs.List.{flat_map}
use Rattle.lls_symmetry.specs.Moved.{row_entering}
use Rattle.lls_problem.specs.Firsts.{first}
use Rattle.lls_problem.specs.Losses.{lost_of}
use Rattle.lls_problem.proofs.FirstOf.{found_first, none_more, none_at_all, flat_map-flat_map}
use Rattle.lls_problem.proofs.losses.first_entered.Goals as goal

pub returns-in-Some : goal.returns-in-Some
returns-in-Some c =
    let size : c.behind-problem.inside.height ≡ c.args.problem.now.posed.height = ap (λ f. f.height) (c.behind-problem.view_is ∙ c.posed.ensures.value) in
    found_first (λ y. flat_map (lost_of c.args.problem.now.rule c.args.history.now) (row_entering c.args.course c.args.problem.now.posed.height c.args.problem.now.posed.width y)) c.args.problem.now.posed.height c.loop-y.y c.in-Some.spot c.loop-y.invariant c.in-Some.ensures (omega (arith, size, c.loop-y-test.true))
    ∙ ap first (sym (flat_map-flat_map (lost_of c.args.problem.now.rule c.args.history.now) (row_entering c.args.course c.args.problem.now.posed.height c.args.problem.now.posed.width) _))

pub loop-y-preserved : goal.loop-y-preserved
loop-y-preserved c =
    none_more (λ y. flat_map (lost_of c.args.problem.now.rule c.args.history.now) (row_entering c.args.course c.args.problem.now.posed.height c.args.problem.now.posed.width y)) c.loop-y.y c.loop-y.invariant c.in_default.ensures

pub returns : goal.returns
returns c =
    let size : c.behind-problem.inside.height ≡ c.args.problem.now.posed.height = ap (λ f. f.height) (c.behind-problem.view_is ∙ c.posed.ensures.value) in
    none_at_all (λ y. flat_map (lost_of c.args.problem.now.rule c.args.history.now) (row_entering c.args.course c.args.problem.now.posed.height c.args.problem.now.posed.width y)) c.args.problem.now.posed.height c.loop-y.y c.loop-y.invariant (omega (arith, size, c.loop-y-test.false, c.loop-y.auto.y-end))
    ∙ ap first (sym (flat_map-flat_map (lost_of c.args.problem.now.rule c.args.history.now) (row_entering c.args.course c.args.problem.now.posed.height c.args.problem.now.posed.width) _))
