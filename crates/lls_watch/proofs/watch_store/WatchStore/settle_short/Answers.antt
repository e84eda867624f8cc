use Rattle.std.proofs.Common.{◌≡◌, ℕ, false, Option, Some, None, refl, sym, ap, ◌∙◌, subst, length, IfNone}
use Rattle.std.specs.Prelude.{is_some, not}
use Rattle.lls_store.specs.Sound.{IsSound}
use Rattle.lls_arena.specs.Arena.{ArenaState}
use Rattle.lls_watch.specs.Passed.{live_from}
use Rattle.lls_watch.specs.Short.{AreSatisfied}
use Rattle.lls_watch.specs.WatchStore.{Tracks, WatchStoreState}
use Rattle.lls_watch.proofs.ForGood.{for_good_from, for_good_now}
use Rattle.lls_watch.proofs.Tracked.{for_good_on, tracks_settled}
use Rattle.lls_watch.proofs.watch_store.WatchStore.settle_short.Goals as goal

none_from : (o : Option ℕ) → is_some o ≡ false → o ≡ None
none_from None is = refl
none_from (Some n) is = absurd cc

pub settle_all-conflict-requires-clause-sound : goal.settle_all-conflict-requires-clause-sound
settle_all-conflict-requires-clause-sound c =
    let same = c.arena.ensures ∙ ap (λ (s : WatchStoreState). s.watches.arena) c.self.view_is in
    subst (λ (a : ArenaState). IsSound (live_from 0 a.heads) c.args.trail.now) (sym same) c.requires.tracked.propagating.sound

pub settle_all-conflict-requires-clause-before : goal.settle_all-conflict-requires-clause-before
settle_all-conflict-requires-clause-before c =
    let same = c.arena.ensures ∙ ap (λ (s : WatchStoreState). s.watches.arena) c.self.view_is in
    let short = c.deref.ensures.value ∙ ap (λ (s : WatchStoreState). s.short) c.self.view_is in
    let now = for_good_now (live_from 0 c.args.self.now.watches.arena.heads) c.args.trail.now.entries c.args.self.now.short c.args.self.now.satisfied c.requires.tracked.for_good in
    subst (λ (a : ArenaState). AreSatisfied (live_from 0 a.heads) c.args.trail.now.entries c.deref.result.now c.self.inside.satisfied) (sym same)
    (subst (λ cs. AreSatisfied (live_from 0 c.args.self.now.watches.arena.heads) c.args.trail.now.entries cs c.self.inside.satisfied) (sym short)
    (subst (AreSatisfied (live_from 0 c.args.self.now.watches.arena.heads) c.args.trail.now.entries c.args.self.now.short) (sym (ap (λ (s : WatchStoreState). s.satisfied) c.self.view_is)) now))

pub returns-then-current-eq0-clause-tracked : goal.returns-then-current-eq0-clause-tracked
returns-then-current-eq0-clause-tracked c =
    let same = c.arena.ensures ∙ ap (λ (s : WatchStoreState). s.watches.arena) c.self.view_is in
    let short = c.deref.ensures.value ∙ ap (λ (s : WatchStoreState). s.short) c.self.view_is in
    let new = c.settle_all-conflict.new.trail in
    let n = c.len-self-inside.result in
    let sound : IsSound (live_from 0 c.args.self.now.watches.arena.heads) new = subst (λ (a : ArenaState). IsSound (live_from 0 a.heads) new) same c.settle_all-conflict.ensures.sound in
    let none = none_from c.settle_all-conflict.result (c.is_none.ensures ∙ ap not c.if-is_none.true) in
    let all : AreSatisfied (live_from 0 c.arena.result.now.heads) new.entries c.deref.result.now (length c.deref.result.now) =
    subst (λ o. IfNone o (AreSatisfied (live_from 0 c.arena.result.now.heads) new.entries c.deref.result.now (length c.deref.result.now))) none c.settle_all-conflict.ensures.satisfied in
    let counted : AreSatisfied (live_from 0 c.arena.result.now.heads) new.entries c.deref.result.now n =
    subst (AreSatisfied (live_from 0 c.arena.result.now.heads) new.entries c.deref.result.now) (c.deref.ensures.len ∙ sym c.len-self-inside.ensures) all in
    let here : AreSatisfied (live_from 0 c.args.self.now.watches.arena.heads) new.entries c.args.self.now.short n =
    subst (λ (a : ArenaState). AreSatisfied (live_from 0 a.heads) new.entries c.args.self.now.short n) same (subst (λ cs. AreSatisfied (live_from 0 c.arena.result.now.heads) new.entries cs n) short counted) in
    let good = for_good_from (live_from 0 c.args.self.now.watches.arena.heads) new c.args.self.now.short n c.current.ensures.kept (sym c.current.ensures.current ∙ c.if-current-eq0.true) here in
    subst (λ s. Tracks s new) (sym (ap (λ (s : WatchStoreState). record s { satisfied = n }) c.self.view_is))
    (tracks_settled c.args.self.now c.args.trail.now new n c.settle_all-conflict.ensures.grown sound good c.requires.tracked)

pub returns-else-is_none-clause-tracked : goal.returns-else-is_none-clause-tracked
returns-else-is_none-clause-tracked c =
    let same = c.arena.ensures ∙ ap (λ (s : WatchStoreState). s.watches.arena) c.self.view_is in
    let s = c.args.self.now in
    let new = c.settle_all-conflict.new.trail in
    let sound : IsSound (live_from 0 s.watches.arena.heads) new = subst (λ (a : ArenaState). IsSound (live_from 0 a.heads) new) same c.settle_all-conflict.ensures.sound in
    tracks_settled s c.args.trail.now new s.satisfied c.settle_all-conflict.ensures.grown sound
    (for_good_on (live_from 0 s.watches.arena.heads) c.args.trail.now new s.short s.satisfied c.settle_all-conflict.ensures.grown c.requires.tracked.for_good) c.requires.tracked
