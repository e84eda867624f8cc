use Rattle.std.proofs.Common.{◌+◌, length, length-append, sym, ap, ◌∙◌, subst, [], ◌∷◌}
use Rattle.std.specs.Prelude.{All}
use Rattle.std.proofs.lemmas.List.Elements.{All-push}
use Rattle.lls_solver.specs.Searching.{IsSearching, SearcherState}
use Rattle.lls_crew.proofs.starting.new_searchers.Goals as goal

pub loop-k-preserved : goal.loop-k-preserved
loop-k-preserved c =
    let items = c.loop-k.searchers.items in
    let s = c.in_ok-searcher.field-0 in
    let pushed = c.in_ok-push.ensures.items in
    record {
      len = ap length pushed ∙ length-append items (s ∷ []) ∙ ap (λ n. n + 1) c.loop-k.invariant.len;
      searching = subst (All (λ (x : SearcherState). IsSearching c.args.formula.now [] x.store x.trail)) (sym pushed) (All-push (λ (x : SearcherState). IsSearching c.args.formula.now [] x.store x.trail) items s c.loop-k.invariant.searching c.in_ok-searcher.ensures);
    }
