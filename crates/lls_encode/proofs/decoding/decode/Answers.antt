-- What satisfies the formula writes a solution.
use Rattle.std.proofs.Common.{◌≡◌, length, take, ap, sym, subst, ◌∙◌}
use Rattle.lls_grid.specs.History.{folded}
use Rattle.lls_grid.specs.declared.sizes.Sizes.{Sizes}
use Rattle.lls_search_file.specs.Posed.{PosedFile, sizes_of}
use Rattle.lls_problem.specs.Solution.{IsSolution}
use Rattle.lls_encode.specs.History.{history_of}
use Rattle.lls_encode.proofs.Chosen.{IsSolution-formulated}
use Rattle.lls_encode.proofs.decoding.decode.Goals as goal

pub returns-clause-solution : goal.returns-clause-solution
returns-clause-solution c = λ formulation satisfied.
    let p = c.args.problem.now in
    let a = c.args.assignment.now in
    let posed = c.posed-posed.ensures.value in
    let cells : c.items.result.now ≡ p.posed.cells = c.items.ensures ∙ ap (λ (f : PosedFile). f.cells) (c.posed.view_is ∙ posed) in
    let sizes : c.sizes.result ≡ sizes_of p.posed = c.sizes.ensures.sizes ∙ ap sizes_of posed in
    let values : c.in_ok-cells.cells.items ≡ take (length p.posed.cells) a =
    c.in_ok-cells.ensures ∙ ap (λ xs. take (length xs) c.values.result.now) cells ∙ ap (take (length p.posed.cells)) c.values.ensures in
    let history : c.from_cells.result ≡ history_of p a =
    c.from_cells.ensures
    ∙ ap (λ (s : Sizes). folded s.generations s.height s.width c.in_ok-cells.cells.items) sizes
    ∙ ap (folded p.posed.generations p.posed.height p.posed.width) values in
    subst (IsSolution p) (sym history) (IsSolution-formulated p c.posed-posed.ensures.kept c.demands-demands.ensures.kept formulation a c.requires satisfied)
