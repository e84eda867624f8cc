use Rattle.std.proofs.Common.{◌≡◌, ◌≤◌, ℕ, List, Option, Some, None, refl, sym, ap, ◌∙◌, subst, length, IfNone}
use Rattle.lls_store.specs.Clauses.{LiveClause}
use Rattle.lls_store.specs.Closed.{IsClosed}
use Rattle.lls_store.proofs.Passes.{GoesOn-further}
use Rattle.lls_watch.specs.Passed.{live_from}
use Rattle.lls_watch.specs.Short.{AreSatisfied}
use Rattle.lls_watch.specs.WatchStore.{Tracks, WatchStoreState}
use Rattle.lls_watch.proofs.Shorts.{satisfied_grown}
use Rattle.lls_watch.proofs.Tracked.{closed_all, tracks_decided, tracks_passed, watch_store_passed}
use Rattle.lls_watch.proofs.watch_store.WatchStoreStore.propagate.Goals as goal

where_none : (o : Option ℕ) (P : Type 0) → (o ≡ None → P) → IfNone o P
where_none None P it = it refl
where_none (Some n) P it = tt

pub invariant_of-self : goal.invariant_of-self
invariant_of-self c = watch_store_passed _ c.pass_all.new.watches c.pass_all.new.progress c.pass_all.ensures.alike c.self.invariant

pub returns-clause-grown : goal.returns-clause-grown
returns-clause-grown c = GoesOn-further c.args.trail.now c.settle_short.new.trail c.pass_all.new.trail c.settle_short.ensures.grown c.pass_all.ensures.grown

pub returns-clause-tracked : goal.returns-clause-tracked
returns-clause-tracked c =
    tracks_passed _ c.settle_short.new.trail c.pass_all.new.trail c.pass_all.new.watches c.pass_all.new.progress c.pass_all.ensures.grown c.pass_all.ensures.alike c.pass_all.ensures.kept c.pass_all.ensures.reach
    (subst (λ s. Tracks s c.settle_short.new.trail) (sym c.self.view_is) c.settle_short.ensures.tracked)

pub returns-clause-settled : goal.returns-clause-settled
returns-clause-settled c =
    let tracks = returns-clause-tracked c in
    where_none c.pass_all.result _ (λ _. record { tracks = tracks; behind = λ l. tracks_decided _ c.pass_all.new.trail l tracks })

pub returns-clause-closed : goal.returns-clause-closed
returns-clause-closed c =
    where_none c.pass_all.result _ (λ none.
    let same : c.self.inside.watches ≡ c.args.self.now.watches = ap (λ (s : WatchStoreState). s.watches) (c.self.view_is ∙ c.settle_short.ensures.same) in
    let short : c.self.inside.short.items ≡ c.args.self.now.short = ap (λ (s : WatchStoreState). s.short) (c.self.view_is ∙ c.settle_short.ensures.same) in
    let live : live_from 0 c.pass_all.new.watches.arena.heads ≡ live_from 0 c.args.self.now.watches.arena.heads = c.pass_all.ensures.alike.live ∙ ap (λ w. live_from 0 w.arena.heads) same in
    let all : length c.pass_all.new.trail.entries ≤ c.pass_all.new.progress.passed = subst (λ o. IfNone o (length c.pass_all.new.trail.entries ≤ c.pass_all.new.progress.passed)) none c.pass_all.ensures.passed in
    let was : AreSatisfied (live_from 0 c.args.self.now.watches.arena.heads) c.pass_all.new.trail.entries c.args.self.now.short (length c.args.self.now.short) =
    satisfied_grown (live_from 0 c.args.self.now.watches.arena.heads) c.settle_short.new.trail c.pass_all.new.trail c.args.self.now.short (length c.args.self.now.short) c.pass_all.ensures.grown c.in_default.ensures.satisfied in
    let satisfied : AreSatisfied (live_from 0 c.pass_all.new.watches.arena.heads) c.pass_all.new.trail.entries c.self.inside.short.items (length c.self.inside.short.items) =
    subst (λ (l : List LiveClause). AreSatisfied l c.pass_all.new.trail.entries c.self.inside.short.items (length c.self.inside.short.items)) (sym live)
    (subst (λ cs. AreSatisfied (live_from 0 c.args.self.now.watches.arena.heads) c.pass_all.new.trail.entries cs (length cs)) (sym short) was) in
    let store = watch_store_passed _ c.pass_all.new.watches c.pass_all.new.progress c.pass_all.ensures.alike c.self.invariant in
    let tracks =
    tracks_passed _ c.settle_short.new.trail c.pass_all.new.trail c.pass_all.new.watches c.pass_all.new.progress c.pass_all.ensures.grown c.pass_all.ensures.alike c.pass_all.ensures.kept c.pass_all.ensures.reach
    (subst (λ s. Tracks s c.settle_short.new.trail) (sym c.self.view_is) c.settle_short.ensures.tracked) in
    subst (λ (l : List LiveClause). IsClosed l c.pass_all.new.trail) live (closed_all _ c.pass_all.new.trail store.covered tracks all satisfied))
