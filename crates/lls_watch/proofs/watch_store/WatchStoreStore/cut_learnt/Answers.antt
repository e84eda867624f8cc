use Rattle.std.proofs.Common.{refl, sym, subst}
use Rattle.std.specs.Prelude.{vec_capacity}
use Rattle.lls_store.proofs.Tails.{IsTail-take}
use Rattle.lls_store.specs.Changes.{decided}
use Rattle.lls_watch.specs.Watches.{WatchState}
use Rattle.lls_watch.specs.WatchStore.{IsWatchStore, Tracks, WatchStoreState}
use Rattle.lls_watch.proofs.Rearranged.{tracks_arena, watch_store_arena}
use Rattle.lls_watch.proofs.watch_store.WatchStoreStore.cut_learnt.Goals as goal

pub invariant_of-self : goal.invariant_of-self
invariant_of-self c =
    let s : WatchStoreState = record { vars = c.self.inside.vars; watches = c.self.inside.watches; progress = c.self.inside.progress; short = c.self.inside.short.items; short_room = vec_capacity c.self.inside.short; satisfied = c.self.inside.satisfied } in
    subst (λ (w : WatchState). IsWatchStore (record s { watches = w })) (sym c.cut.ensures) (watch_store_arena s _ s.short_room refl (IsTail-take s.vars c.args.keep s.watches.arena.tail c.self.invariant.is_tail) c.self.invariant)

pub returns-clause-tracked : goal.returns-clause-tracked
returns-clause-tracked c =
    let s : WatchStoreState = record { vars = c.self.inside.vars; watches = c.self.inside.watches; progress = c.self.inside.progress; short = c.self.inside.short.items; short_room = vec_capacity c.self.inside.short; satisfied = c.self.inside.satisfied } in
    λ t it. subst (λ (w : WatchState). Tracks (record s { watches = w }) t) (sym c.cut.ensures) (tracks_arena s t _ s.short_room refl (subst (λ x. Tracks x t) (sym c.self.view_is) it))

pub returns-clause-settled : goal.returns-clause-settled
returns-clause-settled c = λ t it. record { tracks = returns-clause-tracked c t it.tracks; behind = λ l. returns-clause-tracked c (decided t l) (it.behind l) }
