use Rattle.std.proofs.Common.{refl, ℕ, ◌+◌, ◌<◌, length, sym, ap, ◌∙◌, subst, arith}
use Rattle.std.specs.Prelude.{IsSome}
use Rattle.lls_prooflog.specs.Spent.{live_after}
use Rattle.lls_store.specs.Trail.{TrailState}
use Rattle.lls_store.specs.Clauses.{clause_numbered}
use Rattle.lls_store.specs.Removal.{IsNoReason, all_but}
use Rattle.lls_store.specs.Store.{StoreState, AreLive, IsNewId, sealed}
use Rattle.lls_analyse.specs.Spelled.{Spells}
use Rattle.lls_solver.specs.Searching.{additions}
use Rattle.lls_solver.proofs.Kept.{sound_kept, sound_moved, closed_below_kept, closed_below_moved}
use Rattle.lls_solver.proofs.Clauses.{count_most, fresh_id, sealed_clause}
use Rattle.lls_solver.proofs.Unlearnt.{all_but-learnt, no_reason_learnt}
use Rattle.lls_solver.proofs.LearntClauses.{adds_learnt, further_learnt}
use Rattle.lls_solver.proofs.learning.learn_further.Goals as goal

pub learn-learnt-requires-clause-sound : goal.learn-learnt-requires-clause-sound
learn-learnt-requires-clause-sound g c =
    sound_kept (g.S.Store.state c.args.store.now) (g.S.Store.state c.reserve_conflict.new.store) c.course.inside.trail (sym c.in_ok-reserve_conflict.ensures.state) (sound_moved (g.S.Store.state c.args.store.now) c.args.course.now c.course.inside.trail (sym c.course.view_is) c.requires.searching.on_course.sound)

pub learn-learnt-requires-clause-id : goal.learn-learnt-requires-clause-id
learn-learnt-requires-clause-id g c =
    let h = c.requires.searching in
    let steps = c.args.log.now.steps in
    subst (λ (s : StoreState). IsNewId s.live (c.len.result + c.additions.result + 1)) (sym c.in_ok-reserve_conflict.ensures.state)
    (fresh_id c.args.formula.now steps (g.S.Store.state c.args.store.now) c.len.result c.additions.result h.holds c.len.ensures.len c.additions.ensures (omega (arith, c.len.ensures.most, c.additions.ensures, c.requires.few)))

pub learn-learnt-requires-clause-most : goal.learn-learnt-requires-clause-most
learn-learnt-requires-clause-most g c =
    let h = c.requires.searching in
    let same = ap (λ (s : StoreState). s.count) c.in_ok-reserve_conflict.ensures.state in
    omega (arith, same, count_most (g.S.Store.state c.args.store.now) c.args.formula.now.vars (live_after c.args.formula.now c.args.log.now.steps) (length c.args.formula.now.clauses + additions c.args.log.now.steps) h.holds, c.len.ensures.len, c.len.ensures.most, c.requires.few)

pub remove-requires-clause-live : goal.remove-requires-clause-live
remove-requires-clause-live g c =
    let middle = g.S.Store.state c.reserve_conflict.new.store in
    let new = g.S.Store.state c.learn-learnt.new.store in
    let learns = c.learn-learnt.ensures.learns in
    let id = c.len.result + c.additions.result + 1 in
    let at_sealed : IsSome (clause_numbered (sealed (record middle { tail = learns.lits }) id).live middle.count) = rw (sealed_clause middle id learns.lits (subst AreLive learns.store c.count-count.ensures.live)) refl in
    subst (λ (n : ℕ). IsSome (clause_numbered new.live n)) (sym c.learn-learnt.ensures.clause) (subst (λ (s : StoreState). IsSome (clause_numbered s.live middle.count)) (sym learns.store) at_sealed)

pub remove-requires-clause-no_reason : goal.remove-requires-clause-no_reason
remove-requires-clause-no_reason g c =
    let middle = g.S.Store.state c.reserve_conflict.new.store in
    let learns = c.learn-learnt.ensures.learns in
    let id = c.len.result + c.additions.result + 1 in
    let t = c.course.inside.trail in
    let sound = sound_kept (g.S.Store.state c.args.store.now) middle t (sym c.in_ok-reserve_conflict.ensures.state) (sound_moved (g.S.Store.state c.args.store.now) c.args.course.now t (sym c.course.view_is) c.requires.searching.on_course.sound) in
    subst (IsNoReason t.entries) (sym c.learn-learnt.ensures.clause) (no_reason_learnt middle id learns.lits t (subst AreLive learns.store c.count-count.ensures.live) sound)

pub returns-clause-live : goal.returns-clause-live
returns-clause-live g c =
    let middle = g.S.Store.state c.reserve_conflict.new.store in
    let learns = c.learn-learnt.ensures.learns in
    let id = c.len.result + c.additions.result + 1 in
    ap (λ (s : StoreState). s.live) c.remove.ensures.state
    ∙ ap (all_but (g.S.Store.state c.learn-learnt.new.store).live) c.learn-learnt.ensures.clause
    ∙ ap (λ (s : StoreState). all_but s.live middle.count) learns.store
    ∙ all_but-learnt middle id learns.lits (subst AreLive learns.store c.count-count.ensures.live)
    ∙ ap (λ (s : StoreState). s.live) c.in_ok-reserve_conflict.ensures.state

pub returns-clause-further : goal.returns-clause-further
returns-clause-further g c =
    let h = c.requires.searching in
    let formula = c.args.formula.now in
    let pairs = live_after formula c.args.log.now.steps in
    let old = g.S.Store.state c.args.store.now in
    let middle = g.S.Store.state c.reserve_conflict.new.store in
    let new = g.S.Store.state c.learn-learnt.new.store in
    let t = c.course.inside.trail in
    let vars = g.met.S.Store.tracks_vars c.args.store.now c.args.course.now c.requires.tracked in
    let id = c.len.result + c.additions.result + 1 in
    let learns = c.learn-learnt.ensures.learns in
    let before = c.reserve_conflict.new.log.steps in
    let after = c.learn-learnt.new.log.steps in
    let spelled = subst (λ (s : StoreState). Spells s.live pairs) (sym c.in_ok-reserve_conflict.ensures.state) h.holds.spelled in
    let closed = closed_below_kept old middle t (sym c.in_ok-reserve_conflict.ensures.state) (closed_below_moved old c.args.course.now t (sym c.course.view_is) h.on_course.closed_below) in
    let adds = adds_learnt formula.vars pairs middle new t c.args.conflict id c.learn-learnt.result.back before after learns spelled (ap (λ (x : TrailState). x.vars) c.course.view_is ∙ vars ∙ h.holds.store_vars) (subst (λ (x : TrailState). 0 < x.current) (sym c.course.view_is) c.requires.level) closed in
    further_learnt formula.vars pairs middle new t c.args.conflict id c.learn-learnt.result.back before after learns spelled adds
