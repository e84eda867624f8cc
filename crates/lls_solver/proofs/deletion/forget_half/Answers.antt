use Rattle.std.proofs.Common.{◌≡◌, ◌+◌, ℕ, Bool, true, length, sym, ap, subst, ◌∙◌, List, ◌++◌, ◌∷◌, [], arith}
use Rattle.std.proofs.lemmas.List.{with_items_is}
use Rattle.lls_prooflog.specs.Log.{Logged}
use Rattle.lls_prooflog.specs.Spent.{live_after}
use Rattle.lls_prooflog.specs.declared.step.Step.{Step}
use Rattle.lls_prooflog.specs.declared.step.Step.TheVariants.{Del}
use Rattle.lls_store.specs.Trail.{TrailState}
use Rattle.lls_store.specs.Sound.{IsSound}
use Rattle.lls_store.specs.Store.{StoreState}
use Rattle.lls_store.specs.Removal.{compacted, renamed}
use Rattle.lls_solver.specs.Deletion.{ids_marked, is_marked, without_marked, HasReasons, MayGo}
use Rattle.lls_solver.specs.Searching.{additions, IsSearching}
use Rattle.lls_solver.proofs.Kept.{sound_moved}
use Rattle.lls_solver.proofs.Forgotten.{all_live, ids_in_range, searching_forgotten}
use Rattle.lls_solver.proofs.Marks.{no_reason_goes, reason_given}
use Rattle.lls_solver.proofs.deletion.forget_half.Goals as goal

pub mark_reasons-requires : goal.mark_reasons-requires
mark_reasons-requires g c =
    let store = g.S.Store.state c.args.store.now in
    let sound = sound_moved store c.args.course.now c.course.inside.trail (sym c.course.view_is) c.requires.searching.on_course.sound in
    record { given = λ v reason is. let given = reason_given store c.course.inside.trail v reason c.count-count.ensures.live sound is in omega (arith, given, c.count-count.ensures.count, c.in_ok-reasons.ensures.len, c.deref_mut.ensures.len) }

pub ids_of-requires-clause-all_live : goal.ids_of-requires-clause-all_live
ids_of-requires-clause-all_live g c =
    let steps = c.args.log.now.steps in
    all_live (g.S.Store.state c.args.store.now) c.args.formula.now.vars (live_after c.args.formula.now steps) (length c.args.formula.now.clauses + additions steps) c.requires.searching.holds

pub push_del-requires-clause-in_range : goal.push_del-requires-clause-in_range
push_del-requires-clause-in_range g c = rw (c.deref-3.ensures.value, c.in_ok-ids.ensures) (ids_in_range (g.S.Store.state c.args.store.now) c.deref-2.result.now c.count-count.ensures.live)

pub forget_marked-requires-clause-all_live : goal.forget_marked-requires-clause-all_live
forget_marked-requires-clause-all_live g c =
    let steps = c.args.log.now.steps in
    all_live (g.S.Store.state c.args.store.now) c.args.formula.now.vars (live_after c.args.formula.now steps) (length c.args.formula.now.clauses + additions steps) c.requires.searching.holds

pub forget_marked-requires-clause-no_reason : goal.forget_marked-requires-clause-no_reason
forget_marked-requires-clause-no_reason g c = λ n is.
    let store = g.S.Store.state c.args.store.now in
    let reasons = c.mark_reasons.new.marks in
    let same : c.deref.result.now ≡ reasons = c.deref.ensures.value ∙ with_items_is c.in_ok-reasons.reasons reasons (c.mark_reasons.ensures.len ∙ c.deref_mut.ensures.len) in
    let each : length c.deref.result.now ≡ store.count = omega (arith, ap (λ (ms : List Bool). length ms) same, c.mark_reasons.ensures.len, c.deref_mut.ensures.len, c.in_ok-reasons.ensures.len, c.count-count.ensures.count) in
    let has : HasReasons c.args.course.now.entries c.deref.result.now =
    subst (λ (t : TrailState). HasReasons t.entries c.deref.result.now) c.course.view_is (subst (HasReasons c.course.inside.trail.entries) (sym same) c.mark_reasons.ensures.reasons)
    in
    no_reason_goes store c.args.course.now.entries c.deref.result.now c.len.result n c.count-count.ensures.live each has (c.in_ok-marks.ensures.may_go n (subst (λ (ms : List Bool). is_marked ms n ≡ true) c.deref-4.ensures.value is))

pub returns-clause-searching : goal.returns-clause-searching
returns-clause-searching g c =
    let old = g.S.Store.state c.args.store.now in
    let new = g.S.Store.state c.forget_marked.new.store in
    let now = c.forget_marked.new.course in
    let formula = c.args.formula.now in
    let trail = c.args.course.now in
    let steps = c.args.log.now.steps in
    let marks = c.in_ok-marks.marks.items in
    let state : new ≡ compacted (without_marked old marks) = c.forget_marked.ensures.state ∙ ap (λ (ms : List Bool). compacted (without_marked old ms)) c.deref-4.ensures.value in
    let renamed_is : now ≡ renamed (without_marked old marks).live trail = c.forget_marked.ensures.renamed ∙ ap (λ (ms : List Bool). renamed (without_marked old ms).live trail) c.deref-4.ensures.value in
    let ids : c.deref-3.result.now ≡ ids_marked marks old.live = c.deref-3.ensures.value ∙ c.in_ok-ids.ensures ∙ ap (λ (ms : List Bool). ids_marked ms old.live) c.deref-2.ensures.value in
    let logged : c.push_del.new.self.steps ≡ steps ++ Del (ids_marked marks old.live) ∷ [] =
    ap (λ (l : Logged). l.steps) c.push_del.ensures ∙ ap (λ is. c.reserve.new.self.steps ++ Del is ∷ []) ids ∙ ap (λ (ss : List Step). ss ++ Del (ids_marked marks old.live) ∷ []) c.in_ok-reserve.ensures.widens.steps_stay
    in
    let may : (n : ℕ) → is_marked marks n ≡ true → MayGo old.live c.deref.result.now (length formula.clauses) n = λ n is. subst (λ m. MayGo old.live c.deref.result.now m n) c.len.ensures.len (c.in_ok-marks.ensures.may_go n is) in
    let sound : IsSound (compacted (without_marked old marks)).live (renamed (without_marked old marks).live trail) =
    subst (λ (t : TrailState). IsSound (compacted (without_marked old marks)).live t) renamed_is (subst (λ (s : StoreState). IsSound s.live now) state c.forget_marked.ensures.sound)
    in
    let goes_on = searching_forgotten formula steps old trail c.deref.result.now marks c.count-count.ensures.live c.requires.searching c.requires.late may sound in
    subst (λ (ss : List Step). IsSearching formula ss new now) (sym logged)
    (subst (λ (t : TrailState). IsSearching formula (steps ++ Del (ids_marked marks old.live) ∷ []) new t) (sym renamed_is)
    (subst (λ (s : StoreState). IsSearching formula (steps ++ Del (ids_marked marks old.live) ∷ []) s (renamed (without_marked old marks).live trail)) (sym state) goes_on))
