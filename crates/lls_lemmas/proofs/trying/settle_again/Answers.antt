use Rattle.std.proofs.Common.{◌≡◌, ℕ, true, Option, Some, None, sym, ◌∙◌, subst}
use Rattle.std.specs.Prelude.{IfSome, is_some}
use Rattle.lls_store.specs.Sound.{IsSound}
use Rattle.lls_store.specs.Store.{IsConflict, StoreState}
use Rattle.lls_lemmas.proofs.Open.{goes_no_further, no_conflict}
use Rattle.lls_lemmas.proofs.trying.settle_again.Goals as goal

none_there : (o : Option ℕ) (P : ℕ → Type 0) → IfSome o P → ((n : ℕ) → P n → ⊥) → is_some o ≡ true → ⊥
none_there None P holds never some = cc
none_there (Some n) P holds never some = never n holds

pub unreachable-requires : goal.unreachable-requires
unreachable-requires g c =
    let live = (g.S.Store.state c.args.store.now).live in
    let e = c.propagate-conflict.ensures in
    let new = c.propagate-conflict.new.trail in
    let sound = subst (λ (s : StoreState). IsSound s.live new) e.state e.sound in
    none_there c.propagate-conflict.result (IsConflict live new) e.conflict (λ n conflict. no_conflict live c.args.trail.now new n c.requires.is_trail c.current-level.ensures.kept c.requires.closed sound e.grown conflict)
    (sym c.is_some.ensures ∙ c.if-is_some.true)

pub returns-clause-trail : goal.returns-clause-trail
returns-clause-trail g c =
    let live = (g.S.Store.state c.args.store.now).live in
    let e = c.propagate-conflict.ensures in
    let new = c.propagate-conflict.new.trail in
    goes_no_further live c.args.trail.now new c.requires.is_trail c.current-level.ensures.kept c.requires.closed (subst (λ (s : StoreState). IsSound s.live new) e.state e.sound) e.grown
