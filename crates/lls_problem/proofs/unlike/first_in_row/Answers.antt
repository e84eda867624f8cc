use Rattle.std.proofs.Common.{◌≡◌, ap, sym, ◌∙◌, arith}
use Rattle.lls_problem.specs.Unlike.{is_unlike, unlike_at}
use Rattle.lls_problem.proofs.FirstOf.{found_first, none_more, one_where, none_where}
use Rattle.lls_problem.proofs.unlike.first_in_row.Goals as goal

pub returns-then-is_unlike : goal.returns-then-is_unlike
returns-then-is_unlike c =
    let width : c.behind-problem.inside.width ≡ c.args.problem.now.posed.width = ap (λ f. f.width) (c.behind-problem.view_is ∙ c.posed.ensures.value) in
    found_first (unlike_at c.args.problem.now c.args.history.now c.args.k c.args.t c.args.y) _ c.loop-x.x _ c.loop-x.invariant
    (one_where (is_unlike c.args.problem.now c.args.history.now c.args.k c.args.t c.args.y c.loop-x.x) (record { t = c.args.t; y = c.args.y; x = c.loop-x.x }) (sym c.is_unlike.ensures ∙ c.if-is_unlike.true)) (omega (arith, width, c.loop-x-test.true))

pub loop-x-preserved : goal.loop-x-preserved
loop-x-preserved c =
    none_more (unlike_at c.args.problem.now c.args.history.now c.args.k c.args.t c.args.y) c.loop-x.x c.loop-x.invariant
    (none_where (is_unlike c.args.problem.now c.args.history.now c.args.k c.args.t c.args.y c.loop-x.x) (record { t = c.args.t; y = c.args.y; x = c.loop-x.x }) (sym c.is_unlike.ensures ∙ c.if-is_unlike.false))
