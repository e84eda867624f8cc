use Rattle.std.proofs.Common.{None, refl, sym, ap, ◌∙◌, subst, arith, length}
use Rattle.lls_store.specs.Trail.{TrailState}
use Rattle.lls_store.specs.Changes.{cut_to}
use Rattle.lls_store.specs.Sound.{IsSound}
use Rattle.lls_store.proofs.SoundChanges.{IsSound-cut_to}
use Rattle.lls_watch.specs.declared.progress.Progress.{Progress}
use Rattle.lls_watch.specs.Passed.{live_from}
use Rattle.lls_watch.specs.WatchStore.{Tracks, WatchStoreState}
use Rattle.lls_watch.proofs.Tracked.{cut_same, tracks_cut}
use Rattle.lls_watch.proofs.watch_store.WatchStoreStore.back_to.Goals as goal

pub returns-then-level-current-clause-cut : goal.returns-then-level-current-clause-cut
returns-then-level-current-clause-cut c = cut_same c.args.trail.now c.args.level c.current.ensures.kept (c.if-level-current.true ∙ c.current.ensures.current)

pub returns-clause-tracked : goal.returns-clause-tracked
returns-clause-tracked c =
    let cut = ap (λ (p : Progress). p.passed) c.cut-cut.ensures in
    let few = c.len.ensures.len ∙ ap (λ (t : TrailState). length t.entries) c.cut.ensures in
    subst (Tracks _) (sym c.cut.ensures)
    (tracks_cut _ c.args.trail.now c.args.level (record { passed = c.min.result; mark = None }) c.current.ensures.kept (omega (arith, c.min.ensures, cut)) refl (omega (arith, c.min.ensures, few))
    (subst (λ s. Tracks s c.args.trail.now) (sym c.self.view_is) c.requires.tracked))

pub returns-clause-sound : goal.returns-clause-sound
returns-clause-sound c =
    subst (IsSound (live_from 0 c.self.inside.watches.arena.heads)) (sym c.cut.ensures)
    (subst (λ (s : WatchStoreState). IsSound (live_from 0 s.watches.arena.heads) (cut_to c.args.trail.now c.args.level)) (sym c.self.view_is)
    (IsSound-cut_to (live_from 0 c.args.self.now.watches.arena.heads) c.args.trail.now c.args.level c.requires.sound))
