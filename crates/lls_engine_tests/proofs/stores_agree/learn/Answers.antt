use Rattle.std.proofs.Common.{List, sym, ap, subst, ◌∙◌}
use Rattle.lls_store.specs.Clauses.{LiveClause}
use Rattle.lls_store.specs.Sound.{IsSound}
use Rattle.lls_store.specs.Store.{StoreState}
use Rattle.lls_engine_tests.proofs.stores_agree.learn.Goals as goal

pub seal_learnt-requires-clause-sound : goal.seal_learnt-requires-clause-sound
seal_learnt-requires-clause-sound g c =
    let same =
    ap (λ (s : StoreState). s.live) c.push_learnt-2.ensures.state
    ∙ ap (λ (s : StoreState). s.live) c.push_learnt.ensures.state
    ∙ ap (λ (s : StoreState). s.live) c.begin_learnt.ensures.state
    ∙ ap (λ (s : StoreState). s.live) c.in_ok-reserve_learnt.ensures.state
    in
    subst (λ (live : List LiveClause). IsSound live c.args.pair.now.trail) (sym same) c.requires.sound
