use Rattle.std.proofs.Common.{◌≡◌, ◌+◌, ◌++◌, ◌∷◌, [], List, length, sym, ap, ◌∙◌, subst, arith}
use Rattle.lls_prooflog.specs.Spent.{live_after, AddsByPropagation}
use Rattle.lls_prooflog.specs.declared.step.Step.{Step}
use Rattle.lls_prooflog.specs.declared.step.Step.TheVariants.{Add}
use Rattle.lls_store.specs.Store.{StoreState, IsNewId}
use Rattle.lls_solver.specs.Searching.{additions, IsRefutation, KeepsAll}
use Rattle.lls_analyse.specs.Spelled.{Spells}
use Rattle.lls_solver.proofs.Kept.{sound_kept, sound_moved}
use Rattle.lls_solver.proofs.Clauses.{fresh_id}
use Rattle.lls_solver.proofs.Logs.{kept_push, refutation_push}
use Rattle.lls_solver.proofs.learning.refute_by.Goals as goal

pub refute-requires-clause-sound : goal.refute-requires-clause-sound
refute-requires-clause-sound g c =
    sound_kept (g.S.Store.state c.args.store.now) (g.S.Store.state c.reserve_conflict.new.store) c.course.inside.trail (sym c.in_ok-reserve_conflict.ensures.state) (sound_moved (g.S.Store.state c.args.store.now) c.args.course.now c.course.inside.trail (sym c.course.view_is) c.requires.searching.on_course.sound)

pub refute-requires-clause-id : goal.refute-requires-clause-id
refute-requires-clause-id g c =
    let h = c.requires.searching in
    let steps = c.args.log.now.steps in
    let same = c.in_ok-reserve_conflict.ensures.steps.steps_stay in
    let count : c.additions.result ≡ additions steps = c.additions.ensures ∙ ap additions same in
    subst (λ (s : StoreState). IsNewId s.live (c.len.result + c.additions.result + 1)) (sym c.in_ok-reserve_conflict.ensures.state)
    (fresh_id c.args.formula.now steps (g.S.Store.state c.args.store.now) c.len.result c.additions.result h.holds c.len.ensures.len count (omega (arith, c.len.ensures.most, count, c.requires.few)))

pub returns-clause-refutation : goal.returns-clause-refutation
returns-clause-refutation g c =
    let h = c.requires.searching in
    let formula = c.args.formula.now in
    let steps = c.args.log.now.steps in
    let same = c.in_ok-reserve_conflict.ensures.steps.steps_stay in
    let refutes = c.refute.ensures.refutes in
    let id = c.len.result + c.additions.result + 1 in
    let spelled = subst (λ (s : StoreState). Spells s.live (live_after formula steps)) (sym c.in_ok-reserve_conflict.ensures.state) h.holds.spelled in
    let good : AddsByPropagation (live_after formula steps) id [] refutes.hints = record { positive = refutes.step.positive; good = refutes.step.good (live_after formula steps) spelled } in
    let count : c.additions.result ≡ additions steps = c.additions.ensures ∙ ap additions same in
    let next : length formula.clauses + 1 + additions steps ≡ id = omega (arith, c.len.ensures.len, count) in
    λ budget within. subst (IsRefutation formula budget) (sym (refutes.step.logged ∙ ap (λ (ss : List Step). ss ++ Add id [] refutes.hints ∷ []) same))
    (refutation_push formula budget steps id refutes.hints h.log within next good)

pub returns-clause-empty : goal.returns-clause-empty
returns-clause-empty g c =
    let refutes = c.refute.ensures.refutes in
    let id = c.len.result + c.additions.result + 1 in
    record { id = id; hints = refutes.hints; logged = refutes.step.logged ∙ ap (λ (ss : List Step). ss ++ Add id [] refutes.hints ∷ []) c.in_ok-reserve_conflict.ensures.steps.steps_stay }

pub returns-clause-kept : goal.returns-clause-kept
returns-clause-kept g c =
    let steps = c.args.log.now.steps in
    let refutes = c.refute.ensures.refutes in
    let id = c.len.result + c.additions.result + 1 in
    let logged = refutes.step.logged ∙ ap (λ (ss : List Step). ss ++ Add id [] refutes.hints ∷ []) c.in_ok-reserve_conflict.ensures.steps.steps_stay in
    λ keep_all kept. subst (KeepsAll keep_all) (sym logged) (kept_push keep_all steps id [] refutes.hints kept)
