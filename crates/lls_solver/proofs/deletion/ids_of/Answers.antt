use Rattle.std.proofs.Common.{◌<◌, length, sym, ap, ◌∙◌, arith, ◌++◌, ◌∷◌, []}
use Rattle.std.specs.Prelude.{List, ℕ}
use Rattle.lls_solver.proofs.Marks.{ids_more, ids_same}
use Rattle.lls_solver.proofs.deletion.ids_of.Goals as goal
use Rattle.lls_solver.proofs.deletion.ids_of.Goals.{then-marks-c+in_ok-push, else-marks-c}

pub loop-c-preserved : goal.loop-c-preserved
loop-c-preserved g c =
    let store = g.S.Store.state c.args.store.now in
    let marks = c.args.marks.now in
    let k = c.loop-c.c in
    let live = c.count-c-end.ensures.live in
    let lt : k < length store.live = omega (arith, c.loop-c-test.true, c.count-c-end.ensures.count, c.requires.all_live) in
    elim c.if-marks-c.branch [
      | then-marks-c+in_ok-push w ↦ rw w.ids-is (record { ids = w.in_ok-push.ensures.items ∙ ap (λ (ids : List ℕ). ids ++ w.id.result ∷ []) c.loop-c.invariant.ids ∙ sym (ids_more store marks k w.id.result live c.requires.all_live lt w.id.ensures w.if-marks-c.true) })
      | else-marks-c w ↦ rw w.ids-is (record { ids = c.loop-c.invariant.ids ∙ sym (ids_same store marks k live c.requires.all_live lt w.if-marks-c.false) })
    ]
