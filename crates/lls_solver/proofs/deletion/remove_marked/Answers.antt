use Rattle.std.proofs.Common.{◌≡◌, arith, sym, ap, subst, ◌∙◌}
use Rattle.std.specs.Prelude.{IsSome}
use Rattle.lls_store.specs.Clauses.{clause_numbered}
use Rattle.lls_store.specs.Store.{StoreState}
use Rattle.lls_store.specs.Removal.{without_clause}
use Rattle.lls_solver.proofs.Marks.{first_live, live_at, without_first, without_first-all, without_first-marked, without_first-none, without_first-unmarked}
use Rattle.lls_solver.proofs.deletion.remove_marked.Goals as goal
use Rattle.lls_solver.proofs.deletion.remove_marked.Goals.{then-marks-c, else-marks-c}

pub loop-c-init : goal.loop-c-init
loop-c-init g c = record { state = without_first-none (g.S.Store.state c.args.store.now) c.args.marks.now; tracked = c.requires.tracked; sound = c.requires.sound }

pub remove-requires-clause-live : goal.remove-requires-clause-live
remove-requires-clause-live g c =
    subst (λ (s : StoreState). IsSome (clause_numbered s.live c.loop-c.c)) (sym c.loop-c.invariant.state) (first_live (g.S.Store.state c.args.store.now) c.args.marks.now c.loop-c.c (live_at (g.S.Store.state c.args.store.now) c.loop-c.c c.count-c-end.ensures.live c.requires.all_live (omega (arith, c.loop-c-test.true, c.count-c-end.ensures.count))))

pub loop-c-preserved : goal.loop-c-preserved
loop-c-preserved g c =
    let old = g.S.Store.state c.args.store.now in
    let marks = c.args.marks.now in
    let k = c.loop-c.c in
    elim c.if-marks-c.branch [
      | then-marks-c w ↦ rw w.store-is (record {
        state = w.remove.ensures.state ∙ ap (λ (s : StoreState). without_clause s k) c.loop-c.invariant.state ∙ without_first-marked old marks k w.if-marks-c.true;
        tracked = w.remove.ensures.tracked;
        sound = w.remove.ensures.sound;
      })
      | else-marks-c w ↦ rw w.store-is (record {
        state = c.loop-c.invariant.state ∙ without_first-unmarked old marks k w.if-marks-c.false;
        tracked = c.loop-c.invariant.tracked;
        sound = c.loop-c.invariant.sound;
      })
    ]

pub returns-clause-state : goal.returns-clause-state
returns-clause-state g c =
    let old = g.S.Store.state c.args.store.now in
    let end : c.loop-c.c ≡ old.count = omega (arith, c.loop-c-test.false, c.loop-c.auto.c-end, c.count-c-end.ensures.count) in
    c.loop-c.invariant.state ∙ ap (λ k. without_first k old c.args.marks.now) end ∙ without_first-all old c.args.marks.now c.count-c-end.ensures.live
