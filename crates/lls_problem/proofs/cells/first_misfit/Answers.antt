use Rattle.std.proofs.Common.{◌≡◌, ap, ◌∙◌, sym, subst}
use Rattle.lls_grid.specs.History.{cells_of}
use Rattle.lls_problem.specs.Solution.{cell_number, HasItsBit}
use Rattle.lls_problem.specs.Judgement.{KeepsBit}
use Rattle.lls_problem.proofs.Places.{IsFirstCell-by_number}
use Rattle.lls_problem.proofs.cells.first_misfit.Goals as goal

pub returns-then-not-has_its_bit : goal.returns-then-not-has_its_bit
returns-then-not-has_its_bit c =
    let cells : c.items-cells.result.now ≡ c.args.problem.now.posed.cells = c.items-cells.ensures ∙ ap (λ f. f.cells) (c.posed.view_is ∙ c.posed-posed.ensures.value) in
    IsFirstCell-by_number c.args.problem.now.posed (KeepsBit c.args.problem.now.posed.cells (cells_of c.args.history.now)) c.loop-k.k _
    (rw (c.sizes.ensures.sizes, c.posed-posed.ensures.value) at c.place.ensures.index) (rw (c.sizes.ensures.sizes, c.posed-posed.ensures.value) at c.place.ensures.inside)
    (λ keeps. let test = c.has_its_bit.ensures.1
    (subst (λ cs. HasItsBit (cell_number cs c.loop-k.k).kind c.value_of.result) (sym cells)
    (subst (λ v. HasItsBit (cell_number c.args.problem.now.posed.cells c.loop-k.k).kind v) (sym c.value_of.ensures) keeps)) in
    let other = c.if-not-has_its_bit.true in cc)
    c.loop-k.invariant
