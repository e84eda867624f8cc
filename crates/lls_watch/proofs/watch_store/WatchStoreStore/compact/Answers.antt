use Rattle.std.proofs.Common.{◌≡◌, ℕ, true, List, take, length, sym, ap, ◌∙◌, subst}
use Rattle.std.specs.Prelude.{vec_capacity}
use Rattle.lls_store.specs.Clauses.{LiveClause}
use Rattle.lls_store.specs.Removal.{compacted, renamed}
use Rattle.lls_store.specs.Sound.{IsSound}
use Rattle.lls_arena.specs.Arena.{ArenaState}
use Rattle.lls_watch.specs.Watches.{WatchState}
use Rattle.lls_watch.specs.Passed.{live_from}
use Rattle.lls_watch.specs.Propagating.{Fits}
use Rattle.lls_watch.specs.Renumbered.{live_among, moved_among}
use Rattle.lls_watch.specs.WatchStore.{IsWatchStore, Tracks, WatchStoreState, room_in, store_in}
use Rattle.lls_watch.proofs.CompactedStore.{IsCompactedFrom, anew_store, compacted_from, fits_listable, planned_listable, room_anew, store_anew, tracks_anew, watch_store_anew}
use Rattle.lls_watch.proofs.Slid.{among_same, live_same, moved_same}
use Rattle.lls_watch.proofs.watch_store.WatchStoreStore.compact.Goals as goal

pub rename_reasons-requires-clause-sound : goal.rename_reasons-requires-clause-sound
rename_reasons-requires-clause-sound c =
    let s : WatchStoreState = record { vars = c.self.inside.vars; watches = c.self.inside.watches; progress = c.self.inside.progress; short = c.self.inside.short.items; short_room = vec_capacity c.self.inside.short; satisfied = c.self.inside.satisfied } in
    let tracked = subst (λ (x : WatchStoreState). Tracks x c.args.trail.now) (sym c.self.view_is) c.requires.tracked in
    subst (λ (l : List LiveClause). IsSound l c.args.trail.now) (sym (ap (λ (a : ArenaState). live_from 0 a.heads) c.arena.ensures ∙ live_same s.watches.arena.heads c.plan_compact.new.self.arena.heads c.plan_compact.ensures.heads)) tracked.propagating.sound

pub finish_compact-requires-clause-listable : goal.finish_compact-requires-clause-listable
finish_compact-requires-clause-listable c =
    let s : WatchStoreState = record { vars = c.self.inside.vars; watches = c.self.inside.watches; progress = c.self.inside.progress; short = c.self.inside.short.items; short_room = vec_capacity c.self.inside.short; satisfied = c.self.inside.satisfied } in
    let tracked = subst (λ (x : WatchStoreState). Tracks x c.args.trail.now) (sym c.self.view_is) c.requires.tracked in
    planned_listable s.watches c.plan_compact.new.self c.plan_compact.ensures.heads (ap (λ (w : WatchState). length w.first) c.plan_compact.ensures.same)
    (fits_listable s.watches s.vars c.self.invariant.vars_fit (subst (Fits s.watches) tracked.vars tracked.propagating.fits))

pub invariant_of-self : goal.invariant_of-self
invariant_of-self c =
    let s : WatchStoreState = record { vars = c.self.inside.vars; watches = c.self.inside.watches; progress = c.self.inside.progress; short = c.self.inside.short.items; short_room = vec_capacity c.self.inside.short; satisfied = c.self.inside.satisfied } in
    let from : IsCompactedFrom s.watches c.finish_compact.new.self =
    compacted_from s.watches c.plan_compact.new.self c.finish_compact.new.self c.plan_compact.ensures.heads c.plan_compact.ensures.same
    c.finish_compact.ensures.relinked c.finish_compact.ensures.listed in
    let short : c.rename_numbers.new.numbers.items ≡ moved_among s.watches.arena.heads s.short =
    c.rename_numbers.ensures.items ∙ ap (λ (a : ArenaState). moved_among a.heads s.short) c.arena-3.ensures ∙ moved_same s.watches.arena.heads c.plan_compact.new.self.arena.heads s.short c.plan_compact.ensures.heads in
    let satisfied : c.count_live-self-inside.result ≡ length (live_among s.watches.arena.heads (take s.satisfied s.short)) =
    c.count_live-self-inside.ensures ∙ ap (λ (cs : List ℕ). length (live_among c.arena-2.result.now.heads (take s.satisfied cs))) c.deref.ensures.value ∙ ap (λ (a : ArenaState). length (live_among a.heads (take s.satisfied s.short))) c.arena-2.ensures
    ∙ ap length (among_same s.watches.arena.heads c.plan_compact.new.self.arena.heads (take s.satisfied s.short) c.plan_compact.ensures.heads) in
    let room = vec_capacity c.rename_numbers.new.numbers in
    subst (λ cs. IsWatchStore (anew_store s c.finish_compact.new.self cs room c.count_live-self-inside.result)) (sym short)
    (subst (λ n. IsWatchStore (anew_store s c.finish_compact.new.self (moved_among s.watches.arena.heads s.short) room n)) (sym satisfied) (watch_store_anew s c.finish_compact.new.self room from c.self.invariant))

pub returns-clause-state : goal.returns-clause-state
returns-clause-state c =
    let s : WatchStoreState = record { vars = c.self.inside.vars; watches = c.self.inside.watches; progress = c.self.inside.progress; short = c.self.inside.short.items; short_room = vec_capacity c.self.inside.short; satisfied = c.self.inside.satisfied } in
    let from : IsCompactedFrom s.watches c.finish_compact.new.self =
    compacted_from s.watches c.plan_compact.new.self c.finish_compact.new.self c.plan_compact.ensures.heads c.plan_compact.ensures.same
    c.finish_compact.ensures.relinked c.finish_compact.ensures.listed in
    store_anew s c.finish_compact.new.self c.rename_numbers.new.numbers.items (vec_capacity c.rename_numbers.new.numbers) c.count_live-self-inside.result c.self.invariant.are_live.numbers from
    ∙ ap (λ (x : WatchStoreState). compacted (store_in x)) c.self.view_is

pub returns-clause-renamed : goal.returns-clause-renamed
returns-clause-renamed c =
    let s : WatchStoreState = record { vars = c.self.inside.vars; watches = c.self.inside.watches; progress = c.self.inside.progress; short = c.self.inside.short.items; short_room = vec_capacity c.self.inside.short; satisfied = c.self.inside.satisfied } in
    let names : c.rename_reasons.new.trail ≡ renamed (live_from 0 s.watches.arena.heads) c.args.trail.now =
    c.rename_reasons.ensures ∙ ap (λ (a : ArenaState). renamed (live_from 0 a.heads) c.args.trail.now) c.arena.ensures
    ∙ ap (λ (l : List LiveClause). renamed l c.args.trail.now) (live_same s.watches.arena.heads c.plan_compact.new.self.arena.heads c.plan_compact.ensures.heads) in
    names ∙ ap (λ (x : WatchStoreState). renamed (live_from 0 x.watches.arena.heads) c.args.trail.now) c.self.view_is

pub returns-clause-tracked : goal.returns-clause-tracked
returns-clause-tracked c =
    let s : WatchStoreState = record { vars = c.self.inside.vars; watches = c.self.inside.watches; progress = c.self.inside.progress; short = c.self.inside.short.items; short_room = vec_capacity c.self.inside.short; satisfied = c.self.inside.satisfied } in
    let tracked = subst (λ (x : WatchStoreState). Tracks x c.args.trail.now) (sym c.self.view_is) c.requires.tracked in
    let from : IsCompactedFrom s.watches c.finish_compact.new.self =
    compacted_from s.watches c.plan_compact.new.self c.finish_compact.new.self c.plan_compact.ensures.heads c.plan_compact.ensures.same
    c.finish_compact.ensures.relinked c.finish_compact.ensures.listed in
    let short : c.rename_numbers.new.numbers.items ≡ moved_among s.watches.arena.heads s.short =
    c.rename_numbers.ensures.items ∙ ap (λ (a : ArenaState). moved_among a.heads s.short) c.arena-3.ensures ∙ moved_same s.watches.arena.heads c.plan_compact.new.self.arena.heads s.short c.plan_compact.ensures.heads in
    let satisfied : c.count_live-self-inside.result ≡ length (live_among s.watches.arena.heads (take s.satisfied s.short)) =
    c.count_live-self-inside.ensures ∙ ap (λ (cs : List ℕ). length (live_among c.arena-2.result.now.heads (take s.satisfied cs))) c.deref.ensures.value ∙ ap (λ (a : ArenaState). length (live_among a.heads (take s.satisfied s.short))) c.arena-2.ensures
    ∙ ap length (among_same s.watches.arena.heads c.plan_compact.new.self.arena.heads (take s.satisfied s.short) c.plan_compact.ensures.heads) in
    let room = vec_capacity c.rename_numbers.new.numbers in
    let names : c.rename_reasons.new.trail ≡ renamed (live_from 0 s.watches.arena.heads) c.args.trail.now =
    c.rename_reasons.ensures ∙ ap (λ (a : ArenaState). renamed (live_from 0 a.heads) c.args.trail.now) c.arena.ensures
    ∙ ap (λ (l : List LiveClause). renamed l c.args.trail.now) (live_same s.watches.arena.heads c.plan_compact.new.self.arena.heads c.plan_compact.ensures.heads) in
    subst (Tracks (anew_store s c.finish_compact.new.self c.rename_numbers.new.numbers.items room c.count_live-self-inside.result)) (sym names)
    (subst (λ cs. Tracks (anew_store s c.finish_compact.new.self cs room c.count_live-self-inside.result) (renamed (live_from 0 s.watches.arena.heads) c.args.trail.now)) (sym short)
    (subst (λ n. Tracks (anew_store s c.finish_compact.new.self (moved_among s.watches.arena.heads s.short) room n) (renamed (live_from 0 s.watches.arena.heads) c.args.trail.now)) (sym satisfied)
    (tracks_anew s c.args.trail.now c.finish_compact.new.self room c.self.invariant from tracked)))

pub returns-clause-room : goal.returns-clause-room
returns-clause-room c = λ room.
    let s : WatchStoreState = record { vars = c.self.inside.vars; watches = c.self.inside.watches; progress = c.self.inside.progress; short = c.self.inside.short.items; short_room = vec_capacity c.self.inside.short; satisfied = c.self.inside.satisfied } in
    let from : IsCompactedFrom s.watches c.finish_compact.new.self =
    compacted_from s.watches c.plan_compact.new.self c.finish_compact.new.self c.plan_compact.ensures.heads c.plan_compact.ensures.same
    c.finish_compact.ensures.relinked c.finish_compact.ensures.listed in
    let short : c.rename_numbers.new.numbers.items ≡ moved_among s.watches.arena.heads s.short =
    c.rename_numbers.ensures.items ∙ ap (λ (a : ArenaState). moved_among a.heads s.short) c.arena-3.ensures ∙ moved_same s.watches.arena.heads c.plan_compact.new.self.arena.heads s.short c.plan_compact.ensures.heads in
    subst (λ cs. room_in (anew_store s c.finish_compact.new.self cs (vec_capacity c.rename_numbers.new.numbers) c.count_live-self-inside.result) ≡ true) (sym short)
    (subst (λ n. room_in (anew_store s c.finish_compact.new.self (moved_among s.watches.arena.heads s.short) n c.count_live-self-inside.result) ≡ true) (sym c.rename_numbers.ensures.capacity)
    (room_anew s c.finish_compact.new.self c.count_live-self-inside.result from (subst (λ (x : WatchStoreState). room_in x ≡ true) (sym c.self.view_is) room)))

pub returns-clause-sound : goal.returns-clause-sound
returns-clause-sound c = (returns-clause-tracked c).propagating.sound
