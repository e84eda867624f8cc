use Rattle.std.proofs.Common.{◌≡◌, ap, ◌∙◌}
use Rattle.lls_grid.specs.History.{cells_of}
use Rattle.lls_problem.proofs.NameValues.{KeepsName-by_test}
use Rattle.lls_problem.proofs.cells.agrees.Goals as goal

pub returns : goal.returns
returns c =
    let cells : c.items-cells.result.now ≡ c.args.problem.now.posed.cells = c.items-cells.ensures ∙ ap (λ f. f.cells) (c.behind-problem.view_is ∙ c.posed.ensures.value) in
    rw (← cells) (KeepsName-by_test c.items-cells.result.now (cells_of c.args.history.now) c.args.k c.in-Some.name c.first_of_name-first.result _ _
    c.in-Some.ensures c.first_of_name-first.ensures
    (rw c.value_of.ensures at c.named_value.ensures) (rw c.value_of-2.ensures at c.named_value-2.ensures))
