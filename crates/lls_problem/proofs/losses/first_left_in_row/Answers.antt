use Rattle.std.proofs.Common.{◌≡◌, true, false, Some, ap, sym, ◌∙◌, arith}
use Rattle.std.proofs.lemmas.List.Folds.{flat_map-map}
use Rattle.lls_symmetry.specs.declared.moved.Moved.{Moved}
use Rattle.lls_symmetry.specs.Moved.{leaving}
use Rattle.lls_problem.specs.Firsts.{first}
use Rattle.lls_problem.specs.Losses.{is_lost, lost_of}
use Rattle.lls_problem.proofs.FirstOf.{found_first, none_more, none_at_all, one_where, none_where}
use Rattle.lls_problem.proofs.losses.first_left_in_row.Goals as goal

pub returns-then-is_lost : goal.returns-then-is_lost
returns-then-is_lost c =
    let size : c.behind-problem.inside.width ≡ c.args.problem.now.posed.width = ap (λ f. f.width) (c.behind-problem.view_is ∙ c.posed.ensures.value) in
    let lost : is_lost c.args.problem.now.rule c.args.history.now (leaving c.args.course c.args.y c.loop-x.x) ≡ true =
    ap (is_lost c.args.problem.now.rule c.args.history.now) (sym c.leaving-pair.ensures) ∙ sym c.is_lost.ensures ∙ c.if-is_lost.true in
    ap (λ (pair : Moved). Some pair.early) c.leaving-pair.ensures
    ∙ found_first (λ x. lost_of c.args.problem.now.rule c.args.history.now (leaving c.args.course c.args.y x)) c.args.problem.now.posed.width c.loop-x.x _ c.loop-x.invariant
    (one_where (is_lost c.args.problem.now.rule c.args.history.now (leaving c.args.course c.args.y c.loop-x.x)) _ lost) (omega (arith, size, c.loop-x-test.true))
    ∙ ap first (sym (flat_map-map (lost_of c.args.problem.now.rule c.args.history.now) (leaving c.args.course c.args.y) _))

pub loop-x-preserved : goal.loop-x-preserved
loop-x-preserved c =
    let kept : is_lost c.args.problem.now.rule c.args.history.now (leaving c.args.course c.args.y c.loop-x.x) ≡ false =
    ap (is_lost c.args.problem.now.rule c.args.history.now) (sym c.leaving-pair.ensures) ∙ sym c.is_lost.ensures ∙ c.if-is_lost.false in
    none_more (λ x. lost_of c.args.problem.now.rule c.args.history.now (leaving c.args.course c.args.y x)) c.loop-x.x c.loop-x.invariant
    (none_where (is_lost c.args.problem.now.rule c.args.history.now (leaving c.args.course c.args.y c.loop-x.x)) _ kept)

pub returns : goal.returns
returns c =
    let size : c.behind-problem.inside.width ≡ c.args.problem.now.posed.width = ap (λ f. f.width) (c.behind-problem.view_is ∙ c.posed.ensures.value) in
    none_at_all (λ x. lost_of c.args.problem.now.rule c.args.history.now (leaving c.args.course c.args.y x)) c.args.problem.now.posed.width c.loop-x.x c.loop-x.invariant (omega (arith, size, c.loop-x-test.false, c.loop-x.auto.x-end))
    ∙ ap first (sym (flat_map-map (lost_of c.args.problem.now.rule c.args.history.now) (leaving c.args.course c.args.y) _))
