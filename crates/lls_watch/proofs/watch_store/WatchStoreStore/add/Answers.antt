use Rattle.std.proofs.Common.{◌≡◌, ◌<◌, ◌++◌, true, ℕ, List, [], refl, sym, ap, ◌∙◌, subst, length}
use Rattle.std.specs.Prelude.{◌-◌, vec_capacity}
use Rattle.lls_lit.specs.Formula.{is_within}
use Rattle.lls_store.specs.declared.store.TheConstants.{MOST_CLAUSES}
use Rattle.lls_store.specs.Store.{IsNewId}
use Rattle.lls_watch.specs.Watches.{WatchState}
use Rattle.lls_watch.specs.Passed.{live_from}
use Rattle.lls_watch.specs.Propagating.{ArePropagating}
use Rattle.lls_watch.specs.Sealed.{HasSealed}
use Rattle.lls_watch.specs.WatchStore.{Tracks, WatchStoreState}
use Rattle.lls_watch.proofs.Rearranged.{tracks_arena}
use Rattle.lls_watch.proofs.SealedStore.{tracks_sealed, watch_store_sealed, with_tail}
use Rattle.lls_watch.proofs.watch_store.WatchStoreStore.add.Goals as goal

pub returns-in_err-reserve-clause-sound : goal.returns-in_err-reserve-clause-sound
returns-in_err-reserve-clause-sound c =
    let s : WatchStoreState = record { vars = c.self.inside.vars; watches = c.self.inside.watches; progress = c.self.inside.progress; short = c.self.inside.short.items; short_room = vec_capacity c.self.inside.short; satisfied = c.self.inside.satisfied } in
    let tracked = subst (λ (x : WatchStoreState). Tracks x c.args.trail.now) (sym c.self.view_is) c.requires.tracked in
    tracked.propagating.sound

pub returns-in_err-reserve-2-clause-tracked : goal.returns-in_err-reserve-2-clause-tracked
returns-in_err-reserve-2-clause-tracked c =
    let s : WatchStoreState = record { vars = c.self.inside.vars; watches = c.self.inside.watches; progress = c.self.inside.progress; short = c.self.inside.short.items; short_room = vec_capacity c.self.inside.short; satisfied = c.self.inside.satisfied } in
    let tracked = subst (λ (x : WatchStoreState). Tracks x c.args.trail.now) (sym c.self.view_is) c.requires.tracked in
    subst (λ (cs : List ℕ). Tracks (record s { watches = c.reserve-2.new.self; short = cs; short_room = vec_capacity c.reserve.new.self }) c.args.trail.now) (sym c.reserve.ensures.items)
    (subst (λ (w : WatchState). Tracks (record s { watches = w; short_room = vec_capacity c.reserve.new.self }) c.args.trail.now) (sym c.reserve-2.ensures.same)
    (tracks_arena s c.args.trail.now _ (vec_capacity c.reserve.new.self) refl tracked))

pub returns-in_err-reserve-2-clause-sound : goal.returns-in_err-reserve-2-clause-sound
returns-in_err-reserve-2-clause-sound c = (returns-in_err-reserve-2-clause-tracked c).propagating.sound

pub seal-requires-clause-ready : goal.seal-requires-clause-ready
seal-requires-clause-ready c =
    let s : WatchStoreState = record { vars = c.self.inside.vars; watches = c.self.inside.watches; progress = c.self.inside.progress; short = c.self.inside.short.items; short_room = vec_capacity c.self.inside.short; satisfied = c.self.inside.satisfied } in
    let tracked = subst (λ (x : WatchStoreState). Tracks x c.args.trail.now) (sym c.self.view_is) c.requires.tracked in
    let heads_left = c.reserve-2.new.self.arena.spare_heads in
    let lits_left = c.reserve-2.new.self.arena.spare_lits - length c.args.lits.now in
    let put : c.append_all.new.self ≡ with_tail s.watches (s.watches.arena.tail ++ c.args.lits.now) heads_left lits_left =
    c.append_all.ensures
    ∙ ap (λ (w : WatchState). record w { arena = record w.arena { tail = w.arena.tail ++ c.args.lits.now; spare_lits = w.arena.spare_lits - length c.args.lits.now } }) c.reserve-2.ensures.same in
    let none : s.watches.arena.tail ≡ [] = ap (λ (x : WatchStoreState). x.watches.arena.tail) c.self.view_is ∙ c.requires.tail in
    let whole : c.append_all.new.self ≡ with_tail s.watches c.args.lits.now heads_left lits_left = put ∙ ap (λ tail. with_tail s.watches (tail ++ c.args.lits.now) heads_left lits_left) none in
    subst (λ w. ArePropagating w c.args.trail.now s.progress) (sym whole) (tracks_arena s c.args.trail.now (with_tail s.watches c.args.lits.now heads_left lits_left).arena s.short_room refl tracked).propagating

pub invariant_of-self-2 : goal.invariant_of-self-2
invariant_of-self-2 c =
    let s : WatchStoreState = record { vars = c.self.inside.vars; watches = c.self.inside.watches; progress = c.self.inside.progress; short = c.self.inside.short.items; short_room = vec_capacity c.self.inside.short; satisfied = c.self.inside.satisfied } in
    let tracked = subst (λ (x : WatchStoreState). Tracks x c.args.trail.now) (sym c.self.view_is) c.requires.tracked in
    let heads_left = c.reserve-2.new.self.arena.spare_heads in
    let lits_left = c.reserve-2.new.self.arena.spare_lits - length c.args.lits.now in
    let put : c.append_all.new.self ≡ with_tail s.watches (s.watches.arena.tail ++ c.args.lits.now) heads_left lits_left =
    c.append_all.ensures
    ∙ ap (λ (w : WatchState). record w { arena = record w.arena { tail = w.arena.tail ++ c.args.lits.now; spare_lits = w.arena.spare_lits - length c.args.lits.now } }) c.reserve-2.ensures.same in
    let none : s.watches.arena.tail ≡ [] = ap (λ (x : WatchStoreState). x.watches.arena.tail) c.self.view_is ∙ c.requires.tail in
    let whole : c.append_all.new.self ≡ with_tail s.watches c.args.lits.now heads_left lits_left = put ∙ ap (λ tail. with_tail s.watches (tail ++ c.args.lits.now) heads_left lits_left) none in
    let made : HasSealed s.vars (with_tail s.watches c.args.lits.now heads_left lits_left) s.short c.args.id c.seal.new.watches c.seal.new.short.items =
    subst (λ v. HasSealed v (with_tail s.watches c.args.lits.now heads_left lits_left) s.short c.args.id c.seal.new.watches c.seal.new.short.items) tracked.vars
    (subst (λ w. HasSealed c.args.trail.now.vars w s.short c.args.id c.seal.new.watches c.seal.new.short.items) whole
    (subst (λ cs. HasSealed c.args.trail.now.vars c.append_all.new.self cs c.args.id c.seal.new.watches c.seal.new.short.items) c.reserve.ensures.items c.seal.ensures.sealed)) in
    let new_id = subst (λ (x : WatchStoreState). IsNewId (live_from 0 x.watches.arena.heads) c.args.id) (sym c.self.view_is) c.requires.id in
    let few = subst (λ (x : WatchStoreState). length x.watches.arena.heads < MOST_CLAUSES) (sym c.self.view_is) c.requires.most in
    let within = subst (λ (x : WatchStoreState). is_within x.vars c.args.lits.now ≡ true) (sym c.self.view_is) c.requires.within in
    watch_store_sealed s c.args.lits.now heads_left lits_left c.args.id c.seal.new.watches c.seal.new.progress c.seal.new.short.items (vec_capacity c.seal.new.short) made new_id few within c.self.invariant

pub returns-clause-tracked : goal.returns-clause-tracked
returns-clause-tracked c =
    let s : WatchStoreState = record { vars = c.self.inside.vars; watches = c.self.inside.watches; progress = c.self.inside.progress; short = c.self.inside.short.items; short_room = vec_capacity c.self.inside.short; satisfied = c.self.inside.satisfied } in
    let tracked = subst (λ (x : WatchStoreState). Tracks x c.args.trail.now) (sym c.self.view_is) c.requires.tracked in
    let heads_left = c.reserve-2.new.self.arena.spare_heads in
    let lits_left = c.reserve-2.new.self.arena.spare_lits - length c.args.lits.now in
    let put : c.append_all.new.self ≡ with_tail s.watches (s.watches.arena.tail ++ c.args.lits.now) heads_left lits_left =
    c.append_all.ensures
    ∙ ap (λ (w : WatchState). record w { arena = record w.arena { tail = w.arena.tail ++ c.args.lits.now; spare_lits = w.arena.spare_lits - length c.args.lits.now } }) c.reserve-2.ensures.same in
    let none : s.watches.arena.tail ≡ [] = ap (λ (x : WatchStoreState). x.watches.arena.tail) c.self.view_is ∙ c.requires.tail in
    let whole : c.append_all.new.self ≡ with_tail s.watches c.args.lits.now heads_left lits_left = put ∙ ap (λ tail. with_tail s.watches (tail ++ c.args.lits.now) heads_left lits_left) none in
    let made : HasSealed s.vars (with_tail s.watches c.args.lits.now heads_left lits_left) s.short c.args.id c.seal.new.watches c.seal.new.short.items =
    subst (λ v. HasSealed v (with_tail s.watches c.args.lits.now heads_left lits_left) s.short c.args.id c.seal.new.watches c.seal.new.short.items) tracked.vars
    (subst (λ w. HasSealed c.args.trail.now.vars w s.short c.args.id c.seal.new.watches c.seal.new.short.items) whole
    (subst (λ cs. HasSealed c.args.trail.now.vars c.append_all.new.self cs c.args.id c.seal.new.watches c.seal.new.short.items) c.reserve.ensures.items c.seal.ensures.sealed)) in
    tracks_sealed s c.args.trail.now c.args.lits.now heads_left lits_left c.args.id c.seal.new.watches c.seal.new.progress c.seal.new.short.items (vec_capacity c.seal.new.short)
    made c.seal.ensures.kept c.seal.ensures.reach c.self.invariant tracked
