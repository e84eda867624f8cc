use Rattle.std.proofs.Common.{sym, ap, ◌∙◌, subst}
use Rattle.lls_store.specs.Trail.{TrailState}
use Rattle.lls_store.specs.Changes.{decided}
use Rattle.lls_store.specs.Sound.{IsSound}
use Rattle.lls_store.specs.Store.{GoesOn, StoreState}
use Rattle.lls_store.proofs.SoundChanges.{IsSound-decided}
use Rattle.lls_lemmas.proofs.Beyond.{assumes_one}
use Rattle.lls_lemmas.proofs.assuming.decide.Goals as goal

pub propagate-conflict-requires-clause-sound : goal.propagate-conflict-requires-clause-sound
propagate-conflict-requires-clause-sound g c =
    let live = (g.S.Store.state c.args.store.now).live in
    subst (λ (t : TrailState). IsSound live t) (sym c.decide.ensures) (IsSound-decided live c.args.trail.now c.negated.result c.requires.sound)

pub returns-in-Some-clause-assumes : goal.returns-in-Some-clause-assumes
returns-in-Some-clause-assumes g c =
    let t = c.args.trail.now in
    let new = c.propagate-conflict.new.trail in
    assumes_one t new c.args.lit (subst (λ (x : TrailState). GoesOn x new) (c.decide.ensures ∙ ap (decided t) c.negated.ensures) c.propagate-conflict.ensures.grown)

pub returns-in-None-clause-assumes : goal.returns-in-None-clause-assumes
returns-in-None-clause-assumes g c =
    let t = c.args.trail.now in
    let new = c.propagate-conflict.new.trail in
    assumes_one t new c.args.lit (subst (λ (x : TrailState). GoesOn x new) (c.decide.ensures ∙ ap (decided t) c.negated.ensures) c.propagate-conflict.ensures.grown)

pub returns-in-Some-clause-sound : goal.returns-in-Some-clause-sound
returns-in-Some-clause-sound g c = subst (λ (s : StoreState). IsSound s.live c.propagate-conflict.new.trail) c.propagate-conflict.ensures.state c.propagate-conflict.ensures.sound

pub returns-in-None-clause-sound : goal.returns-in-None-clause-sound
returns-in-None-clause-sound g c = subst (λ (s : StoreState). IsSound s.live c.propagate-conflict.new.trail) c.propagate-conflict.ensures.state c.propagate-conflict.ensures.sound
