use Rattle.std.proofs.Common.{List, sym, ap, subst, ◌∙◌}
use Rattle.lls_store.specs.Clauses.{LiveClause}
use Rattle.lls_store.specs.Sound.{IsSound}
use Rattle.lls_store.specs.Store.{StoreState}
use Rattle.lls_engine_tests.proofs.store_changes.learnt.Goals as goal

pub returns-in_err-reserve_learnt-clause-sound : goal.returns-in_err-reserve_learnt-clause-sound
returns-in_err-reserve_learnt-clause-sound g c = subst (λ (s : StoreState). IsSound s.live c.args.trail.now) (sym c.in_err-reserve_learnt.ensures.state) c.requires.sound

pub seal_learnt-requires-clause-sound : goal.seal_learnt-requires-clause-sound
seal_learnt-requires-clause-sound g c =
    let same =
    ap (λ (s : StoreState). s.live) c.cut_learnt.ensures.state
    ∙ ap (λ (s : StoreState). s.live) c.push_learnt-3.ensures.state
    ∙ ap (λ (s : StoreState). s.live) c.push_learnt-2.ensures.state
    ∙ ap (λ (s : StoreState). s.live) c.push_learnt.ensures.state
    ∙ ap (λ (s : StoreState). s.live) c.begin_learnt.ensures.state
    ∙ ap (λ (s : StoreState). s.live) c.in_ok-reserve_learnt.ensures.state
    in
    subst (λ (live : List LiveClause). IsSound live c.args.trail.now) (sym same) c.requires.sound
