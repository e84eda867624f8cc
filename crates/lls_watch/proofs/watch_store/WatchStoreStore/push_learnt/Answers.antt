use Rattle.std.proofs.Common.{◌≡◌, [], ◌∷◌, ◌++◌, true, refl, sym, subst, arith}
use Rattle.std.specs.Prelude.{vec_capacity}
use Rattle.std.proofs.lemmas.List.{length_push}
use Rattle.lls_lit.specs.Formula.{is_literal_of}
use Rattle.lls_store.specs.Store.{IsNewVariable}
use Rattle.lls_store.specs.Scan.{IsTail}
use Rattle.lls_store.proofs.Tails.{IsTail-push, length-IsTail}
use Rattle.lls_store.specs.Changes.{decided}
use Rattle.lls_watch.specs.Watches.{WatchState}
use Rattle.lls_watch.specs.WatchStore.{IsWatchStore, Tracks, WatchStoreState, room_in}
use Rattle.lls_watch.proofs.Rearranged.{room_parts, tracks_arena, watch_store_arena}
use Rattle.lls_watch.proofs.watch_store.WatchStoreStore.push_learnt.Goals as goal

pub append-requires : goal.append-requires
append-requires c =
    let s : WatchStoreState = record { vars = c.self.inside.vars; watches = c.self.inside.watches; progress = c.self.inside.progress; short = c.self.inside.short.items; short_room = vec_capacity c.self.inside.short; satisfied = c.self.inside.satisfied } in
    let room = room_parts s (subst (λ x. room_in x ≡ true) (sym c.self.view_is) c.requires.room) in
    let more : IsTail s.vars (s.watches.arena.tail ++ c.args.lit ∷ []) =
    IsTail-push s.vars s.watches.arena.tail c.args.lit c.self.invariant.is_tail (subst (λ (x : WatchStoreState). is_literal_of x.vars c.args.lit ≡ true) (sym c.self.view_is) c.requires.within)
    (subst (λ (x : WatchStoreState). IsNewVariable x.watches.arena.tail c.args.lit) (sym c.self.view_is) c.requires.new) in
    omega (arith, room.lits, length-IsTail s.vars (s.watches.arena.tail ++ c.args.lit ∷ []) more, length_push s.watches.arena.tail c.args.lit)

pub invariant_of-self : goal.invariant_of-self
invariant_of-self c =
    let s : WatchStoreState = record { vars = c.self.inside.vars; watches = c.self.inside.watches; progress = c.self.inside.progress; short = c.self.inside.short.items; short_room = vec_capacity c.self.inside.short; satisfied = c.self.inside.satisfied } in
    let more : IsTail s.vars (s.watches.arena.tail ++ c.args.lit ∷ []) =
    IsTail-push s.vars s.watches.arena.tail c.args.lit c.self.invariant.is_tail (subst (λ (x : WatchStoreState). is_literal_of x.vars c.args.lit ≡ true) (sym c.self.view_is) c.requires.within)
    (subst (λ (x : WatchStoreState). IsNewVariable x.watches.arena.tail c.args.lit) (sym c.self.view_is) c.requires.new) in
    subst (λ (w : WatchState). IsWatchStore (record s { watches = w })) (sym c.append.ensures) (watch_store_arena s _ s.short_room refl more c.self.invariant)

pub returns-clause-tracked : goal.returns-clause-tracked
returns-clause-tracked c =
    let s : WatchStoreState = record { vars = c.self.inside.vars; watches = c.self.inside.watches; progress = c.self.inside.progress; short = c.self.inside.short.items; short_room = vec_capacity c.self.inside.short; satisfied = c.self.inside.satisfied } in
    λ t it. subst (λ (w : WatchState). Tracks (record s { watches = w }) t) (sym c.append.ensures) (tracks_arena s t _ s.short_room refl (subst (λ x. Tracks x t) (sym c.self.view_is) it))

pub returns-clause-settled : goal.returns-clause-settled
returns-clause-settled c = λ t it. record { tracks = returns-clause-tracked c t it.tracks; behind = λ l. returns-clause-tracked c (decided t l) (it.behind l) }
