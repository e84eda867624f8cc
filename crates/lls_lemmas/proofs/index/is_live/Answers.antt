use Rattle.std.proofs.Common.{◌≡◌, false, true, Option, sym, ap, ◌∙◌}
use Rattle.std.specs.Option.{is_some}
use Rattle.lls_store.specs.Clauses.{LiveClause, clause_numbered}
use Rattle.lls_store.proofs.Live.{clause_numbered-contained}
use Rattle.lls_lemmas.proofs.index.is_live.Goals as goal

pub returns-then-number-count-clause-none : goal.returns-then-number-count-clause-none
returns-then-number-count-clause-none g c = λ is_false clause inside same.
    let live = (g.S.Store.state c.args.store.now).live in
    let found = ap (clause_numbered live) (sym same) ∙ clause_numbered-contained live clause c.count.ensures.live.numbers inside in
    let clash : false ≡ true = sym is_false ∙ c.live.ensures ∙ ap (λ (o : Option LiveClause). is_some o) found in
    absurd cc
