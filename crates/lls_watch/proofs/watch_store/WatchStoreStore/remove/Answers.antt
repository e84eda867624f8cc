use Rattle.std.proofs.Common.{sym, ap, ◌∙◌, subst}
use Rattle.std.specs.Prelude.{vec_capacity}
use Rattle.std.specs.Option.{IsSome}
use Rattle.lls_store.specs.Clauses.{clause_numbered}
use Rattle.lls_store.specs.Removal.{without_clause}
use Rattle.lls_watch.specs.Watches.{IsThreaded, WatchState}
use Rattle.lls_watch.specs.WatchStore.{IsWatchStore, Tracks, WatchStoreState, store_in}
use Rattle.lls_watch.proofs.Killed.{store_killed, tracks_killed, watch_store_killed}
use Rattle.lls_watch.proofs.Rearranged.{live_in_arena}
use Rattle.lls_watch.proofs.watch_store.WatchStoreStore.remove.Goals as goal

pub kill-requires : goal.kill-requires
kill-requires c =
    let s : WatchStoreState = record { vars = c.self.inside.vars; watches = c.self.inside.watches; progress = c.self.inside.progress; short = c.self.inside.short.items; short_room = vec_capacity c.self.inside.short; satisfied = c.self.inside.satisfied } in
    live_in_arena s.watches.arena.heads c.args.c (subst (λ (x : WatchStoreState). IsSome (clause_numbered (store_in x).live c.args.c)) (sym c.self.view_is) c.requires.live)

pub invariant_of-self : goal.invariant_of-self
invariant_of-self c =
    let s : WatchStoreState = record { vars = c.self.inside.vars; watches = c.self.inside.watches; progress = c.self.inside.progress; short = c.self.inside.short.items; short_room = vec_capacity c.self.inside.short; satisfied = c.self.inside.satisfied } in
    subst (λ (w : WatchState). IsWatchStore (record s { watches = w })) (sym c.kill.ensures.state) (watch_store_killed s c.args.c c.self.invariant)

pub returns-clause-state : goal.returns-clause-state
returns-clause-state c =
    let s : WatchStoreState = record { vars = c.self.inside.vars; watches = c.self.inside.watches; progress = c.self.inside.progress; short = c.self.inside.short.items; short_room = vec_capacity c.self.inside.short; satisfied = c.self.inside.satisfied } in
    ap (λ (w : WatchState). store_in (record s { watches = w })) c.kill.ensures.state ∙ store_killed s c.args.c ∙ ap (λ (x : WatchStoreState). without_clause (store_in x) c.args.c) c.self.view_is

pub returns-clause-tracked : goal.returns-clause-tracked
returns-clause-tracked c =
    let s : WatchStoreState = record { vars = c.self.inside.vars; watches = c.self.inside.watches; progress = c.self.inside.progress; short = c.self.inside.short.items; short_room = vec_capacity c.self.inside.short; satisfied = c.self.inside.satisfied } in
    subst (λ (w : WatchState). Tracks (record s { watches = w }) c.args.trail.now) (sym c.kill.ensures.state)
    (tracks_killed s c.args.trail.now c.args.c c.requires.no_reason (λ lists threaded. subst (λ w. IsThreaded w lists) c.kill.ensures.state (c.kill.ensures.threaded lists threaded))
    (subst (λ x. Tracks x c.args.trail.now) (sym c.self.view_is) c.requires.tracked))

pub returns-clause-sound : goal.returns-clause-sound
returns-clause-sound c = (returns-clause-tracked c).propagating.sound
