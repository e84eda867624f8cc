use Rattle.std.proofs.Common.{◌≡◌, sym, ap, ◌∙◌, subst}
use Rattle.lls_store.specs.Trail.{TrailState}
use Rattle.lls_store.specs.Store.{StoreState}
use Rattle.lls_store.proofs.SoundChanges.{IsSound-decided}
use Rattle.lls_solver.specs.Course.{IsOnCourse, AllSet}
use Rattle.lls_solver.proofs.Kept.{closed_kept, closed_moved, on_course_kept}
use Rattle.lls_solver.proofs.Below.{closed_below_decided}
use Rattle.lls_solver.proofs.descent.descend.Goals as goal

pub propagate-requires-clause-on_course : goal.propagate-requires-clause-on_course
propagate-requires-clause-on_course g c = on_course_kept (g.S.Store.state c.args.store.now) (g.S.Store.state c.loop-c.store) c.loop-c.course (sym c.loop-c.invariant.state) c.loop-c.invariant.on_course

pub returns-in-Some-clause-on_course : goal.returns-in-Some-clause-on_course
returns-in-Some-clause-on_course g c = on_course_kept (g.S.Store.state c.loop-c.store) (g.S.Store.state c.args.store.now) c.propagate.new.self c.loop-c.invariant.state c.in-Some.ensures.on_course

pub returns-in-None-clause-complete : goal.returns-in-None-clause-complete
returns-in-None-clause-complete g c =
    let old = g.S.Store.state c.args.store.now in
    let middle = c.propagate.new.self in
    let same = sym c.in-None.ensures.none.0 in
    λ is. record {
      closed = closed_moved old middle c.decide.new.self same (closed_kept (g.S.Store.state c.loop-c.store) old middle c.loop-c.invariant.state c.in_default.ensures.closed);
      all_set =
          let vars : middle.vars ≡ old.vars = g.met.S.Store.tracks_vars c.propagate.new.store middle c.in_default.ensures.tracked ∙ ap (λ (s : StoreState). s.vars) (c.in_default.ensures.state ∙ c.loop-c.invariant.state) in
          subst (λ n. AllSet n c.decide.new.self.entries) vars (subst (λ (t : TrailState). AllSet middle.vars t.entries) same c.in-None.ensures.none.1);
    }

pub returns-in-None-clause-on_course : goal.returns-in-None-clause-on_course
returns-in-None-clause-on_course g c =
    let old = g.S.Store.state c.args.store.now in
    subst (λ (t : TrailState). IsOnCourse old t) (sym c.in-None.ensures.none.0) (on_course_kept (g.S.Store.state c.loop-c.store) old c.propagate.new.self c.loop-c.invariant.state c.in_default.ensures.on_course)

pub loop-c-preserved : goal.loop-c-preserved
loop-c-preserved g c =
    let old = g.S.Store.state c.args.store.now in
    let middle = c.propagate.new.self in
    let decision = c.in-Some-decide.ensures.decided in
    let on = on_course_kept (g.S.Store.state c.loop-c.store) old middle c.loop-c.invariant.state c.in_default.ensures.on_course in
    let closed = closed_kept (g.S.Store.state c.loop-c.store) old middle c.loop-c.invariant.state c.in_default.ensures.closed in
    record {
      state = c.in_default.ensures.state ∙ c.loop-c.invariant.state;
      tracked = subst (λ (t : TrailState). g.S.Store.tracks c.propagate.new.store t) (sym decision.is_decided) (g.met.S.Store.decided_tracked c.propagate.new.store middle decision.literal c.in_default.ensures.settled);
      on_course = subst (λ (t : TrailState). IsOnCourse old t) (sym decision.is_decided) (record {
        sound = IsSound-decided old.live middle decision.literal on.sound;
        closed_below = closed_below_decided old.live middle decision.literal c.in_default.ensures.kept closed on.closed_below;
      });
    }
