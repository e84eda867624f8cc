use Rattle.std.proofs.Common.{◌<◌, ◌≤◌, length, sym, ap, ◌∙◌, subst}
use Rattle.lls_images.specs.Same.{are_ties_kept}
use Rattle.lls_images.proofs.Tests.{all_more, all_fails, all_ends}
use Rattle.lls_images.proofs.cells.keeps_ties.Goals as goal

pub returns-then-not-are_ties_kept : goal.returns-then-not-are_ties_kept
returns-then-not-are_ties_kept c =
    let cells = c.items-j-end.ensures ∙ ap (λ file. file.cells) c.posed.view_is in
    sym (all_fails (are_ties_kept c.args.motion c.args.posed.now) (length c.args.posed.now.cells) c.loop-j.j (subst (λ cells. c.loop-j.j < length cells) cells c.loop-j-test.true) (sym c.are_ties_kept.ensures ∙ c.if-not-are_ties_kept.true))

pub loop-j-preserved : goal.loop-j-preserved
loop-j-preserved c = all_more (are_ties_kept c.args.motion c.args.posed.now) c.loop-j.j c.loop-j.invariant (sym c.are_ties_kept.ensures ∙ c.if-not-are_ties_kept.false)

pub returns : goal.returns
returns c =
    let cells = c.items-j-end.ensures ∙ ap (λ file. file.cells) c.posed.view_is in
    sym (all_ends (are_ties_kept c.args.motion c.args.posed.now) (length c.args.posed.now.cells) c.loop-j.j (subst (λ cells. length cells ≤ c.loop-j.j) cells c.loop-j-test.false)
    (subst (λ cells. c.loop-j.j ≤ length cells) cells c.loop-j.auto.j-end) c.loop-j.invariant)
