use Rattle.std.proofs.Common.{◌<◌, ◌≤◌, length, sym, ap, ◌∙◌, subst, ◌≡◌, true}
use Rattle.std.specs.Prelude.{is_some}
use Rattle.lls_search_file.specs.Posed.{name_of}
use Rattle.lls_problem.specs.Solution.{cell_number}
use Rattle.lls_images.specs.Same.{is_tie_kept, kind_at}
use Rattle.lls_images.proofs.Tests.{all_more, all_fails, all_ends, where_true}
use Rattle.lls_images.proofs.cells.are_ties_kept.Goals as goal

pub returns-then-not-is_tie_kept : goal.returns-then-not-is_tie_kept
returns-then-not-is_tie_kept c =
    let cells = c.items-cells.ensures ∙ ap (λ file. file.cells) c.posed.view_is in
    let named : is_some (name_of (kind_at c.args.posed.now c.args.j)) ≡ true = cc in
    where_true _ _ _ named (sym (all_fails (is_tie_kept c.args.motion c.args.posed.now c.args.j) (length c.args.posed.now.cells) c.loop-k.k (subst (λ cells. c.loop-k.k < length cells) cells c.loop-k-test.true) (sym c.is_tie_kept.ensures ∙ c.if-not-is_tie_kept.true)))

pub loop-k-preserved : goal.loop-k-preserved
loop-k-preserved c = all_more (is_tie_kept c.args.motion c.args.posed.now c.args.j) c.loop-k.k c.loop-k.invariant (sym c.is_tie_kept.ensures ∙ c.if-not-is_tie_kept.false)

pub returns : goal.returns
returns c =
    let cells = c.items-cells.ensures ∙ ap (λ file. file.cells) c.posed.view_is in
    let named : is_some (name_of (kind_at c.args.posed.now c.args.j)) ≡ true =
    ap (λ cells. is_some (name_of (cell_number cells c.args.j).kind)) (sym cells) ∙ ap is_some (sym c.name.ensures) ∙ c.if-is_none.ensures in
    where_true _ _ _ named (sym (all_ends (is_tie_kept c.args.motion c.args.posed.now c.args.j) (length c.args.posed.now.cells) c.loop-k.k (subst (λ cells. length cells ≤ c.loop-k.k) cells c.loop-k-test.false)
    (subst (λ cells. c.loop-k.k ≤ length cells) cells c.loop-k.auto.k-end) c.loop-k.invariant))
