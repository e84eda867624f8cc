use Rattle.std.proofs.Common.{◌≡◌, [], ap, subst, sym, ◌∙◌}
use Rattle.std.proofs.lemmas.Result.{IfOk-weaker}
use Rattle.lls_store.specs.Changes.{empty_trail}
use Rattle.lls_solver.specs.Searching.{IsSearching, SearcherState}
use Rattle.lls_solver.proofs.Unbegun.{searching_start}
use Rattle.lls_solver.proofs.searcher.Searcher.new.Goals as goal

pub returns : goal.returns
returns g c =
    let formula = c.args.formula.now in
    let made : SearcherState = record { store = g.S.Store.state c.load.new.store; trail = c.in_ok-course.course } in
    let searching = searching_start formula made.store c.course.inside.trail made.trail c.course.view_is (c.in_ok-course.ensures ∙ ap empty_trail c.vars.ensures.vars) c.in_ok-load.ensures.holds c.in_ok-load.ensures.sound in
    IfOk-weaker c.over.result (λ (s : SearcherState). s ≡ made) (λ (s : SearcherState). IsSearching formula [] s.store s.trail)
    (λ s same. subst (λ (x : SearcherState). IsSearching formula [] x.store x.trail) (sym same) searching) c.over.ensures
