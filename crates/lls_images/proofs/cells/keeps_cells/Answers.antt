use Rattle.std.proofs.Common.{◌<◌, ◌≤◌, length, sym, ap, ◌∙◌, subst}
use Rattle.lls_images.specs.Same.{is_kept}
use Rattle.lls_images.proofs.Tests.{all_more, all_fails, all_ends}
use Rattle.lls_images.proofs.cells.keeps_cells.Goals as goal

pub returns-then-not-is_kept : goal.returns-then-not-is_kept
returns-then-not-is_kept c =
    let cells = c.items-k-end.ensures ∙ ap (λ file. file.cells) c.posed.view_is in
    sym (all_fails (is_kept c.args.motion c.args.posed.now) (length c.args.posed.now.cells) c.loop-k.k (subst (λ cells. c.loop-k.k < length cells) cells c.loop-k-test.true) (sym c.is_kept.ensures ∙ c.if-not-is_kept.true))

pub loop-k-preserved : goal.loop-k-preserved
loop-k-preserved c = all_more (is_kept c.args.motion c.args.posed.now) c.loop-k.k c.loop-k.invariant (sym c.is_kept.ensures ∙ c.if-not-is_kept.false)

pub returns : goal.returns
returns c =
    let cells = c.items-k-end.ensures ∙ ap (λ file. file.cells) c.posed.view_is in
    sym (all_ends (is_kept c.args.motion c.args.posed.now) (length c.args.posed.now.cells) c.loop-k.k (subst (λ cells. length cells ≤ c.loop-k.k) cells c.loop-k-test.false)
    (subst (λ cells. c.loop-k.k ≤ length cells) cells c.loop-k.auto.k-end) c.loop-k.invariant)
