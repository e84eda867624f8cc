use Rattle.std.proofs.Common.{◌≡◌, ap, sym, ◌∙◌, arith}
use Rattle.std.specs.List.{flat_map}
use Rattle.lls_symmetry.specs.Moved.{entering}
use Rattle.lls_problem.specs.Firsts.{first}
use Rattle.lls_problem.specs.Losses.{lost_of}
use Rattle.lls_problem.proofs.FirstOf.{found_first, none_more, none_at_all, flat_map-flat_map}
use Rattle.lls_problem.proofs.losses.first_entered_in_row.Goals as goal

pub returns-in-Some : goal.returns-in-Some
returns-in-Some c =
    let size : c.behind-problem.inside.width ≡ c.args.problem.now.posed.width = ap (λ f. f.width) (c.behind-problem.view_is ∙ c.posed.ensures.value) in
    found_first (λ x. flat_map (lost_of c.args.problem.now.rule c.args.history.now) (entering c.args.course c.args.problem.now.posed.height c.args.problem.now.posed.width c.args.y x)) c.args.problem.now.posed.width c.loop-x.x c.in-Some.spot c.loop-x.invariant c.in-Some.ensures (omega (arith, size, c.loop-x-test.true))
    ∙ ap first (sym (flat_map-flat_map (lost_of c.args.problem.now.rule c.args.history.now) (entering c.args.course c.args.problem.now.posed.height c.args.problem.now.posed.width c.args.y) _))

pub loop-x-preserved : goal.loop-x-preserved
loop-x-preserved c =
    none_more (λ x. flat_map (lost_of c.args.problem.now.rule c.args.history.now) (entering c.args.course c.args.problem.now.posed.height c.args.problem.now.posed.width c.args.y x)) c.loop-x.x c.loop-x.invariant c.in_default.ensures

pub returns : goal.returns
returns c =
    let size : c.behind-problem.inside.width ≡ c.args.problem.now.posed.width = ap (λ f. f.width) (c.behind-problem.view_is ∙ c.posed.ensures.value) in
    none_at_all (λ x. flat_map (lost_of c.args.problem.now.rule c.args.history.now) (entering c.args.course c.args.problem.now.posed.height c.args.problem.now.posed.width c.args.y x)) c.args.problem.now.posed.width c.loop-x.x c.loop-x.invariant (omega (arith, size, c.loop-x-test.false, c.loop-x.auto.x-end))
    ∙ ap first (sym (flat_map-flat_map (lost_of c.args.problem.now.rule c.args.history.now) (entering c.args.course c.args.problem.now.posed.height c.args.problem.now.posed.width c.args.y) _))
