use Rattle.std.proofs.Common.{◌≡◌, ◌<◌, ◌+◌, ◌∷◌, ◌++◌, [], List, ℕ, map, length, ap, ◌∙◌, arith}
use Rattle.std.specs.Option.{option_copied, unwrap_or}
use Rattle.lls_prooflog.specs.declared.step.Step.{Step}
use Rattle.lls_prooflog.specs.declared.step.Step.TheVariants.{Add}
use Rattle.lls_prooflog.specs.Log.{Logged}
use Rattle.lls_trim.specs.Buffers.{inference_of_ref}
use Rattle.lls_trim.specs.Trimmed.{new_hint}
use Rattle.lls_trim.specs.Marking.{hint_by}
use Rattle.lls_trim.proofs.Buffers.{slice_get_from_lt}
use Rattle.lls_trim.proofs.Marks.{ordered_by}
use Rattle.lls_trim.proofs.Renumbered.{ids_small, ids_are-next, given_by, new_in_range, same_hints, renumbers_marked, renumbers_passed}
use Rattle.lls_trim.proofs.renumbering.renumber.Goals.{then-marks-k+in_ok-list_hints+in_ok-reserve, else-marks-k}
use Rattle.lls_trim.proofs.renumbering.renumber.Goals as goal

pub list_hints-requires-clause-ids : goal.list_hints-requires-clause-ids
list_hints-requires-clause-ids c =
    let r = c.loop-k.invariant in
    rw (c.deref.ensures.value, c.in_ok-push.ensures.items)
    (ids_small c.args.given c.args.marks.now c.loop-k.k c.loop-k.ids.items c.loop-k.next r.listed r.next_is r.ids_are c.requires.few (omega (arith, c.loop-k-test.true, c.len-k-end.ensures.most)))

pub list_hints-requires-clause-before : goal.list_hints-requires-clause-before
list_hints-requires-clause-before c =
    ordered_by c.args.inferences.now c.loop-k.k _ (inference_of_ref c.lend-inference.result) c.requires.ordered c.lend-inference.ensures (omega (arith, c.deref.ensures.len, c.in_ok-push.ensures.len, c.loop-k.invariant.listed))

pub list_hints-requires-clause-given : goal.list_hints-requires-clause-given
list_hints-requires-clause-given c = given_by c.args.given c.args.inferences.now c.loop-k.k (inference_of_ref c.lend-inference.result) c.requires.given c.lend-inference.ensures c.requires.few

pub push_add-requires-clause-in_range : goal.push_add-requires-clause-in_range
push_add-requires-clause-in_range c =
    let sources = unwrap_or (option_copied c.lend-inference.result.by) [] in
    let given = c.args.given in
    let marks = c.args.marks.now in
    let r = c.loop-k.invariant in
    let below = ordered_by c.args.inferences.now c.loop-k.k (c.loop-k.k + 1) (inference_of_ref c.lend-inference.result) c.requires.ordered c.lend-inference.ensures (omega arith) in
    let within = given_by given c.args.inferences.now c.loop-k.k (inference_of_ref c.lend-inference.result) c.requires.given c.lend-inference.ensures c.requires.few in
    let same : c.deref-then-marks-k.result.now ≡ map (new_hint given marks) sources =
    c.deref-then-marks-k.ensures.value
    ∙ c.in_ok-list_hints.ensures
    ∙ ap (λ (ids : List ℕ). map (hint_by ids) sources) (c.deref.ensures.value ∙ c.in_ok-push.ensures.items)
    ∙ same_hints given marks (c.loop-k.ids.items ++ c.loop-k.next ∷ []) (c.loop-k.k + 1) sources (ids_are-next given marks c.args.inferences.now c.loop-k.k c.loop-k.ids.items c.loop-k.next c.loop-k.log.steps r) below
    in
    rw same (new_in_range given marks c.loop-k.k c.loop-k.next c.lend-inference.result.clause.now sources r.next_is c.requires.few (omega (arith, c.loop-k-test.true, c.len-k-end.ensures.most)) below within)

pub loop-k-preserved : goal.loop-k-preserved
loop-k-preserved c =
    let given = c.args.given in
    let marks = c.args.marks.now in
    let inferences = c.args.inferences.now in
    let r = c.loop-k.invariant in
    let lt : c.loop-k.k < length inferences = omega (arith, c.loop-k-test.true, c.len-k-end.ensures.len) in
    elim c.if-marks-k.branch [
      | then-marks-k+in_ok-list_hints+in_ok-reserve w ↦
          let i = inference_of_ref w.lend-inference.result in
          let sources = unwrap_or (option_copied w.lend-inference.result.by) [] in
          let below = ordered_by inferences c.loop-k.k (c.loop-k.k + 1) i c.requires.ordered w.lend-inference.ensures (omega arith) in
          let same : w.deref-then-marks-k.result.now ≡ map (new_hint given marks) sources =
          w.deref-then-marks-k.ensures.value
          ∙ w.in_ok-list_hints.ensures
          ∙ ap (λ (ids : List ℕ). map (hint_by ids) sources) (w.deref.ensures.value ∙ c.in_ok-push.ensures.items)
          ∙ same_hints given marks (c.loop-k.ids.items ++ c.loop-k.next ∷ []) (c.loop-k.k + 1) sources (ids_are-next given marks inferences c.loop-k.k c.loop-k.ids.items c.loop-k.next c.loop-k.log.steps r) below
          in
          let steps : c.if-marks-k.log.steps ≡ c.loop-k.log.steps ++ Add c.loop-k.next w.lend-inference.result.clause.now w.deref-then-marks-k.result.now ∷ [] =
          ap (λ (log : Logged). log.steps) (w.log-is ∙ w.push_add.ensures) ∙ ap (λ (steps : List Step). steps ++ Add c.loop-k.next w.lend-inference.result.clause.now w.deref-then-marks-k.result.now ∷ []) w.in_ok-reserve.ensures.widens.steps_stay
          in
          renumbers_marked given marks inferences c.loop-k.k c.loop-k.ids.items c.loop-k.next c.loop-k.log.steps r c.requires.as_many lt i w.lend-inference.ensures
          c.push.new.self.items c.if-marks-k.next c.if-marks-k.log.steps w.deref-then-marks-k.result.now c.in_ok-push.ensures.items w.next-is same steps w.if-marks-k.true
      | else-marks-k w ↦
          let there = slice_get_from_lt inferences c.loop-k.k lt in
          renumbers_passed given marks inferences c.loop-k.k c.loop-k.ids.items c.loop-k.next c.loop-k.log.steps r c.requires.as_many lt there.0 there.1
          c.push.new.self.items c.if-marks-k.next c.if-marks-k.log.steps c.in_ok-push.ensures.items w.next-is (ap (λ (log : Logged). log.steps) w.log-is) w.if-marks-k.false
    ]
