use Rattle.std.proofs.Common.{◌<◌, sym, subst, length}
use Rattle.std.specs.Prelude.{vec_capacity}
use Rattle.lls_store.specs.declared.store.TheConstants.{MOST_CLAUSES}
use Rattle.lls_store.specs.Store.{IsNewId}
use Rattle.lls_watch.specs.Sealed.{HasSealed}
use Rattle.lls_watch.specs.Passed.{live_from}
use Rattle.lls_watch.specs.WatchStore.{Tracks, WatchStoreState}
use Rattle.lls_watch.proofs.SealedStore.{tracks_sealed, watch_store_sealed}
use Rattle.lls_watch.proofs.watch_store.WatchStoreStore.seal_learnt.Goals as goal

pub invariant_of-self : goal.invariant_of-self
invariant_of-self c =
    let s : WatchStoreState = record { vars = c.self.inside.vars; watches = c.self.inside.watches; progress = c.self.inside.progress; short = c.self.inside.short.items; short_room = vec_capacity c.self.inside.short; satisfied = c.self.inside.satisfied } in
    let tracked = subst (λ (x : WatchStoreState). Tracks x c.args.trail.now) (sym c.self.view_is) c.requires.tracked in
    let new_id = subst (λ (x : WatchStoreState). IsNewId (live_from 0 x.watches.arena.heads) c.args.id) (sym c.self.view_is) c.requires.id in
    let few = subst (λ (x : WatchStoreState). length x.watches.arena.heads < MOST_CLAUSES) (sym c.self.view_is) c.requires.most in
    watch_store_sealed s s.watches.arena.tail s.watches.arena.spare_heads s.watches.arena.spare_lits c.args.id c.seal.new.watches c.seal.new.progress c.seal.new.short.items (vec_capacity c.seal.new.short)
    (subst (λ v. HasSealed v s.watches s.short c.args.id c.seal.new.watches c.seal.new.short.items) tracked.vars c.seal.ensures.sealed) new_id few c.self.invariant.is_tail.within c.self.invariant

pub returns-clause-tracked : goal.returns-clause-tracked
returns-clause-tracked c =
    let s : WatchStoreState = record { vars = c.self.inside.vars; watches = c.self.inside.watches; progress = c.self.inside.progress; short = c.self.inside.short.items; short_room = vec_capacity c.self.inside.short; satisfied = c.self.inside.satisfied } in
    let tracked = subst (λ (x : WatchStoreState). Tracks x c.args.trail.now) (sym c.self.view_is) c.requires.tracked in
    tracks_sealed s c.args.trail.now s.watches.arena.tail s.watches.arena.spare_heads s.watches.arena.spare_lits c.args.id c.seal.new.watches c.seal.new.progress c.seal.new.short.items (vec_capacity c.seal.new.short)
    (subst (λ v. HasSealed v s.watches s.short c.args.id c.seal.new.watches c.seal.new.short.items) tracked.vars c.seal.ensures.sealed) c.seal.ensures.kept c.seal.ensures.reach c.self.invariant tracked
