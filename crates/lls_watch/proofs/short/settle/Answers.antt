use Rattle.std.proofs.Common.{Some, sym, ap, ◌∙◌, subst}
use Rattle.std.specs.Option.{option_copied}
use Rattle.lls_store.specs.Trail.{TrailState}
use Rattle.lls_store.specs.Sound.{IsSound}
use Rattle.lls_store.proofs.SoundChanges.{IsSound-forced}
use Rattle.lls_watch.specs.Passed.{live_from}
use Rattle.lls_watch.specs.Short.{IsSatisfied}
use Rattle.lls_watch.proofs.Shorts.{dead_satisfied, empty_conflict, has_one, one_conflict, one_forced, one_satisfied}
use Rattle.lls_watch.proofs.Turns.{forced_true}
use Rattle.lls_watch.proofs.short.settle.Goals as goal

pub returns-in_default-clause-conflict : goal.returns-in_default-clause-conflict
returns-in_default-clause-conflict c _ =
    empty_conflict c.args.arena.now.heads c.args.c c.args.trail.now c.lits.result.now (c.live.ensures ∙ ap Some c.if-not-live.false) c.lits.ensures
    (sym c.first.ensures.value ∙ ap option_copied c.in_default.is)

pub value-requires : goal.value-requires
value-requires c =
    let one = has_one c.args.arena.now.heads c.args.trail.now.vars c.args.c c.lits.result.now c.in-Some.lit.now c.requires.short c.lits.ensures (c.live.ensures ∙ ap Some c.if-not-live.false) (sym c.first.ensures.value ∙ ap option_copied c.in-Some.is) in
    one.within

pub force-requires-clause-within : goal.force-requires-clause-within
force-requires-clause-within c =
    let one = has_one c.args.arena.now.heads c.args.trail.now.vars c.args.c c.lits.result.now c.in-Some.lit.now c.requires.short c.lits.ensures (c.live.ensures ∙ ap Some c.if-not-live.false) (sym c.first.ensures.value ∙ ap option_copied c.in-Some.is) in
    one.within

pub returns-in-Some-value-clause-satisfied : goal.returns-in-Some-value-clause-satisfied
returns-in-Some-value-clause-satisfied c is_true =
    let one = has_one c.args.arena.now.heads c.args.trail.now.vars c.args.c c.lits.result.now c.in-Some.lit.now c.requires.short c.lits.ensures (c.live.ensures ∙ ap Some c.if-not-live.false) (sym c.first.ensures.value ∙ ap option_copied c.in-Some.is) in
    one_satisfied c.args.arena.now.heads c.args.trail.now.vars c.args.c c.in-Some.lit.now c.args.trail.now.entries one (c.value.ensures.is_true.0 (c.in-Some-value.is ∙ ap Some is_true))

pub returns-in-Some-value-clause-conflict : goal.returns-in-Some-value-clause-conflict
returns-in-Some-value-clause-conflict c is_false =
    let one = has_one c.args.arena.now.heads c.args.trail.now.vars c.args.c c.lits.result.now c.in-Some.lit.now c.requires.short c.lits.ensures (c.live.ensures ∙ ap Some c.if-not-live.false) (sym c.first.ensures.value ∙ ap option_copied c.in-Some.is) in
    one_conflict c.args.arena.now.heads c.args.trail.now.vars c.args.c c.in-Some.lit.now c.args.trail.now one (c.value.ensures.is_false.0 (c.in-Some-value.is ∙ ap Some is_false))

pub returns-in-None-clause-satisfied : goal.returns-in-None-clause-satisfied
returns-in-None-clause-satisfied c _ =
    let one = has_one c.args.arena.now.heads c.args.trail.now.vars c.args.c c.lits.result.now c.in-Some.lit.now c.requires.short c.lits.ensures (c.live.ensures ∙ ap Some c.if-not-live.false) (sym c.first.ensures.value ∙ ap option_copied c.in-Some.is) in
    subst (λ (t : TrailState). IsSatisfied (live_from 0 c.args.arena.now.heads) t.entries c.args.c) (sym c.force.ensures)
    (one_satisfied c.args.arena.now.heads c.args.trail.now.vars c.args.c c.in-Some.lit.now _ one (forced_true c.args.trail.now.entries (record { lit = c.in-Some.lit.now; level = c.args.trail.now.current; reason = Some c.args.c })))

pub returns-in-None-clause-sound : goal.returns-in-None-clause-sound
returns-in-None-clause-sound c =
    let one = has_one c.args.arena.now.heads c.args.trail.now.vars c.args.c c.lits.result.now c.in-Some.lit.now c.requires.short c.lits.ensures (c.live.ensures ∙ ap Some c.if-not-live.false) (sym c.first.ensures.value ∙ ap option_copied c.in-Some.is) in
    subst (IsSound (live_from 0 c.args.arena.now.heads)) (sym c.force.ensures)
    (IsSound-forced (live_from 0 c.args.arena.now.heads) c.args.trail.now c.in-Some.lit.now c.args.c c.requires.sound
    (one_forced c.args.arena.now.heads c.args.trail.now.vars c.args.c c.in-Some.lit.now c.args.trail.now.entries one))

pub returns-then-not-live-clause-satisfied : goal.returns-then-not-live-clause-satisfied
returns-then-not-live-clause-satisfied c _ = dead_satisfied c.args.arena.now.heads c.args.c c.args.trail.now.entries (c.live.ensures ∙ ap Some c.if-not-live.true)
