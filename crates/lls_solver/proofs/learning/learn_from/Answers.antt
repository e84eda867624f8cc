use Rattle.std.proofs.Common.{◌≡◌, ◌<◌, ◌+◌, ◌++◌, ◌∷◌, [], List, length, sym, ap, ◌∙◌, subst, arith}
use Rattle.lls_prooflog.specs.Spent.{live_after, AddsByPropagation}
use Rattle.lls_prooflog.specs.declared.step.Step.{Step}
use Rattle.lls_prooflog.specs.declared.step.Step.TheVariants.{Add}
use Rattle.lls_store.specs.Trail.{TrailState}
use Rattle.lls_store.specs.Changes.{cut_to}
use Rattle.lls_store.specs.Store.{StoreState, IsNewId, sealed}
use Rattle.lls_analyse.specs.Spelled.{Spells}
use Rattle.lls_analyse.specs.Valued.{HaveValues}
use Rattle.lls_analyse.proofs.Valued.{all_have_values}
use Rattle.lls_solver.specs.Searching.{additions, HoldsClauses, IsGoodLog, KeepsAll}
use Rattle.lls_solver.proofs.Kept.{sound_kept, sound_moved, closed_below_kept, closed_below_moved}
use Rattle.lls_solver.proofs.Below.{closed_below_learnt}
use Rattle.lls_solver.proofs.Clauses.{count_most, fresh_id}
use Rattle.lls_solver.proofs.Logs.{additions-push, good_push, holds_learnt, kept_push}
use Rattle.lls_solver.proofs.LearntClauses.{back_most, adds_learnt, learnt_values}
use Rattle.lls_solver.proofs.learning.learn_from.Goals as goal

pub learn-learnt-requires-clause-sound : goal.learn-learnt-requires-clause-sound
learn-learnt-requires-clause-sound g c =
    sound_kept (g.S.Store.state c.args.store.now) (g.S.Store.state c.reserve_conflict.new.store) c.course.inside.trail (sym c.in_ok-reserve_conflict.ensures.state) (sound_moved (g.S.Store.state c.args.store.now) c.args.course.now c.course.inside.trail (sym c.course.view_is) c.requires.searching.on_course.sound)

pub learn-learnt-requires-clause-id : goal.learn-learnt-requires-clause-id
learn-learnt-requires-clause-id g c =
    let h = c.requires.searching in
    let steps = c.args.log.now.steps in
    let same = c.in_ok-reserve_conflict.ensures.steps.steps_stay in
    let count : c.additions.result ≡ additions steps = c.additions.ensures ∙ ap additions same in
    subst (λ (s : StoreState). IsNewId s.live (c.len.result + c.additions.result + 1)) (sym c.in_ok-reserve_conflict.ensures.state)
    (fresh_id c.args.formula.now steps (g.S.Store.state c.args.store.now) c.len.result c.additions.result h.holds c.len.ensures.len count (omega (arith, c.len.ensures.most, count, c.requires.few)))

pub learn-learnt-requires-clause-most : goal.learn-learnt-requires-clause-most
learn-learnt-requires-clause-most g c =
    let same = ap (λ (s : StoreState). s.count) c.in_ok-reserve_conflict.ensures.state in
    omega (arith, same, count_most (g.S.Store.state c.args.store.now) c.args.formula.now.vars (live_after c.args.formula.now c.args.log.now.steps) (length c.args.formula.now.clauses + additions c.args.log.now.steps) c.requires.searching.holds, c.len.ensures.len, c.len.ensures.most, c.requires.few)

pub returns-clause-additions : goal.returns-clause-additions
returns-clause-additions g c =
    let steps = c.args.log.now.steps in
    let learns = c.learn-learnt.ensures.learns in
    let id = c.len.result + c.additions.result + 1 in
    ap additions (learns.step.logged ∙ ap (λ (ss : List Step). ss ++ Add id learns.lits learns.hints ∷ []) c.in_ok-reserve_conflict.ensures.steps.steps_stay) ∙ additions-push steps id learns.lits learns.hints

pub returns-clause-kept : goal.returns-clause-kept
returns-clause-kept g c =
    let steps = c.args.log.now.steps in
    let learns = c.learn-learnt.ensures.learns in
    let id = c.len.result + c.additions.result + 1 in
    let logged = learns.step.logged ∙ ap (λ (ss : List Step). ss ++ Add id learns.lits learns.hints ∷ []) c.in_ok-reserve_conflict.ensures.steps.steps_stay in
    λ keep_all kept. subst (KeepsAll keep_all) (sym logged) (kept_push keep_all steps id learns.lits learns.hints kept)

pub learn-requires-clause-have_values : goal.learn-requires-clause-have_values
learn-requires-clause-have_values g c =
    let middle = g.S.Store.state c.reserve_conflict.new.store in
    let new = g.S.Store.state c.learn-learnt.new.store in
    let learnt = c.learn-learnt.result in
    learnt_values middle new c.course.inside.trail c.args.conflict (c.len.result + c.additions.result + 1) learnt.back learnt.clause c.reserve_conflict.new.log.steps c.learn-learnt.new.log.steps c.lits.result.now c.learn-learnt.ensures.learns c.count-count.ensures.live c.learn-learnt.ensures.clause c.lits.ensures

pub bump-requires-clause-have_values : goal.bump-requires-clause-have_values
bump-requires-clause-have_values g c =
    let t = c.course.inside.trail in
    let met = c.learn-learnt.new.self.met in
    let values = all_have_values t.entries met c.learn-learnt.ensures.comes_by.are_met.all_false in
    subst (λ (x : TrailState). HaveValues x.entries c.met.result.now) c.course.view_is (subst (HaveValues t.entries) (sym c.met.ensures.met) values)

pub bump_reasons-requires-clause-vars : goal.bump_reasons-requires-clause-vars
bump_reasons-requires-clause-vars g c =
    let t = c.course.inside.trail in
    sym (ap (λ (x : TrailState). x.vars) (c.bump.ensures ∙ sym c.course.view_is) ∙ g.met.S.Store.tracks_vars c.learn-learnt.new.store t c.learn-learnt.ensures.tracked)

pub bump_reasons-requires-clause-have_values : goal.bump_reasons-requires-clause-have_values
bump_reasons-requires-clause-have_values g c =
    let t = c.course.inside.trail in
    let middle = g.S.Store.state c.reserve_conflict.new.store in
    let new = g.S.Store.state c.learn-learnt.new.store in
    let learnt = c.learn-learnt.result in
    let values = learnt_values middle new t c.args.conflict (c.len.result + c.additions.result + 1) learnt.back learnt.clause c.reserve_conflict.new.log.steps c.learn-learnt.new.log.steps c.lits-2.result.now c.learn-learnt.ensures.learns c.count-count.ensures.live c.learn-learnt.ensures.clause c.lits-2.ensures in
    subst (λ (x : TrailState). HaveValues x.entries c.followed.result.now) (c.course.view_is ∙ sym c.bump.ensures) (c.followed.ensures t.entries values)

pub bump_reasons-requires-clause-sound : goal.bump_reasons-requires-clause-sound
bump_reasons-requires-clause-sound g c = sound_moved (g.S.Store.state c.learn-learnt.new.store) c.course.inside.trail c.bump.new.self (c.course.view_is ∙ sym c.bump.ensures) c.learn-learnt.ensures.sound

pub go_back-requires-clause-level : goal.go_back-requires-clause-level
go_back-requires-clause-level g c =
    let learns = c.learn-learnt.ensures.learns in
    omega (arith, back_most c.course.inside.trail learns.lits c.learn-learnt.result.back learns.clause.is_back, ap (λ (t : TrailState). t.current) (c.bump_reasons.ensures ∙ c.bump.ensures ∙ sym c.course.view_is))

pub go_back-requires-clause-sound : goal.go_back-requires-clause-sound
go_back-requires-clause-sound g c =
    sound_moved (g.S.Store.state c.learn-learnt.new.store) c.course.inside.trail c.bump_reasons.new.self (c.course.view_is ∙ sym c.bump.ensures ∙ sym c.bump_reasons.ensures) c.learn-learnt.ensures.sound

pub returns-clause-learns : goal.returns-clause-learns
returns-clause-learns g c =
    let h = c.requires.searching in
    let formula = c.args.formula.now in
    let steps = c.args.log.now.steps in
    let pairs = live_after formula steps in
    let old = g.S.Store.state c.args.store.now in
    let middle = g.S.Store.state c.reserve_conflict.new.store in
    let t = c.course.inside.trail in
    let learns = c.learn-learnt.ensures.learns in
    let id = c.len.result + c.additions.result + 1 in
    let step = Add id learns.lits learns.hints in
    let spelled = subst (λ (s : StoreState). Spells s.live pairs) (sym c.in_ok-reserve_conflict.ensures.state) h.holds.spelled in
    let vars = ap (λ (x : TrailState). x.vars) c.course.view_is ∙ g.met.S.Store.tracks_vars c.args.store.now c.args.course.now c.requires.tracked ∙ h.holds.store_vars in
    let above = subst (λ (x : TrailState). 0 < x.current) (sym c.course.view_is) c.requires.level in
    let closed = closed_below_kept old middle t (sym c.in_ok-reserve_conflict.ensures.state) (closed_below_moved old c.args.course.now t (sym c.course.view_is) h.on_course.closed_below) in
    record {
      id = id;
      lits = learns.lits;
      hints = learns.hints;
      logged = learns.step.logged ∙ ap (λ (ss : List Step). ss ++ step ∷ []) c.in_ok-reserve_conflict.ensures.steps.steps_stay;
      good = record { positive = learns.step.positive; good = learns.step.good pairs spelled };
      fresh = adds_learnt formula.vars pairs middle (g.S.Store.state c.learn-learnt.new.store) t c.args.conflict id c.learn-learnt.result.back c.reserve_conflict.new.log.steps c.learn-learnt.new.log.steps learns spelled vars above closed;
    }

pub returns-clause-searching : goal.returns-clause-searching
returns-clause-searching g c =
    let h = c.requires.searching in
    let formula = c.args.formula.now in
    let steps = c.args.log.now.steps in
    let old = g.S.Store.state c.args.store.now in
    let middle = g.S.Store.state c.reserve_conflict.new.store in
    let new = g.S.Store.state c.learn-learnt.new.store in
    let last = g.S.Store.state c.go_back.new.store in
    let learns = c.learn-learnt.ensures.learns in
    let id = c.len.result + c.additions.result + 1 in
    let same = c.in_ok-reserve_conflict.ensures.steps.steps_stay in
    let step = Add id learns.lits learns.hints in
    let logged : c.learn-learnt.new.log.steps ≡ steps ++ step ∷ [] = learns.step.logged ∙ ap (λ (ss : List Step). ss ++ step ∷ []) same in
    let last_id = length formula.clauses + additions steps in
    let count : c.additions.result ≡ additions steps = c.additions.ensures ∙ ap additions same in
    let next : last_id + 1 ≡ id = omega (arith, c.len.ensures.len, count) in
    let after : length formula.clauses + 1 + additions steps ≡ id = omega (arith, c.len.ensures.len, count) in
    let holds : HoldsClauses middle formula.vars (live_after formula steps) last_id = subst (λ (s : StoreState). HoldsClauses s formula.vars (live_after formula steps) last_id) (sym c.in_ok-reserve_conflict.ensures.state) h.holds in
    let more = holds_learnt formula steps middle id learns.lits learns.hints holds next in
    let good : AddsByPropagation (live_after formula steps) id learns.lits learns.hints = record { positive = learns.step.positive; good = learns.step.good (live_after formula steps) holds.spelled } in
    let t = c.course.inside.trail in
    let back = c.learn-learnt.result.back in
    let vars = ap (λ (x : TrailState). x.vars) c.course.view_is ∙ g.met.S.Store.tracks_vars c.args.store.now c.args.course.now c.requires.tracked ∙ h.holds.store_vars in
    let above = subst (λ (x : TrailState). 0 < x.current) (sym c.course.view_is) c.requires.level in
    let closed = closed_below_kept old middle t (sym c.in_ok-reserve_conflict.ensures.state) (closed_below_moved old c.args.course.now t (sym c.course.view_is) h.on_course.closed_below) in
    let adds = adds_learnt formula.vars (live_after formula steps) middle new t c.args.conflict id back c.reserve_conflict.new.log.steps c.learn-learnt.new.log.steps learns holds.spelled vars above closed in
    let log : IsGoodLog formula (steps ++ step ∷ []) = good_push formula steps id learns.lits learns.hints h.log after good adds in
    let cut : cut_to t back ≡ c.go_back.new.self = ap (λ (x : TrailState). cut_to x back) (c.course.view_is ∙ sym c.bump.ensures ∙ sym c.bump_reasons.ensures) ∙ sym c.go_back.ensures.cut in
    record {
      holds = subst (λ (s : StoreState). HoldsClauses s formula.vars (live_after formula c.learn-learnt.new.log.steps) (length formula.clauses + additions c.learn-learnt.new.log.steps)) (sym (c.go_back.ensures.state ∙ learns.store))
          (subst (λ (ss : List Step). HoldsClauses (sealed (record middle { tail = learns.lits }) id) formula.vars (live_after formula ss) (length formula.clauses + additions ss)) (sym logged) more);
      log = subst (IsGoodLog formula) (sym logged) log;
      on_course = record {
        sound = sound_kept new last c.go_back.new.self (sym c.go_back.ensures.state) c.go_back.ensures.sound;
        closed_below = closed_below_moved last (cut_to t back) c.go_back.new.self cut
            (closed_below_kept (sealed (record middle { tail = learns.lits }) id) last (cut_to t back) (sym (c.go_back.ensures.state ∙ learns.store))
            (closed_below_learnt middle t learns.from_clause.clause.lits id learns.lits back c.course.invariant.is_trail learns.clause (back_most t learns.lits back learns.clause.is_back) closed));
      };
    }
