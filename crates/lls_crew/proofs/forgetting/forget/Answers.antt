use Rattle.std.proofs.Common.{◌≡◌, ℕ, Bool, List, ◌++◌, ◌∷◌, [], drop, length, map, sym, ap, ◌∙◌, subst, arith}
use Rattle.std.specs.Prelude.{All, IfSome}
use Rattle.lls_prooflog.specs.Log.{Logged}
use Rattle.lls_prooflog.specs.declared.step.Step.{Step}
use Rattle.lls_prooflog.specs.declared.step.Step.TheVariants.{Del}
use Rattle.lls_solver.specs.Deletion.{MayLose, numbers_left}
use Rattle.lls_solver.specs.Searching.{SearcherState, IsGoodLog}
use Rattle.lls_solver.specs.Sharing.{AreLiveSteps, IsBehind}
use Rattle.lls_solver.proofs.Forgotten.{ids_in_range}
use Rattle.lls_crew.specs.Forgetting.{Forgets, HaveForgotten, IsChosen, ids_in}
use Rattle.lls_crew.proofs.Deletions.{behind_chosen, forgets_chosen, forgets_none, formula_marked, good_chosen, live_chosen, may_lose}
use Rattle.lls_crew.proofs.forgetting.forget.Goals as goal

pub returns-then-keep_all-clause-forgets : goal.returns-then-keep_all-clause-forgets
returns-then-keep_all-clause-forgets c = forgets_none c.args.formula.now c.args.keep_all c.args.log.now.steps (map ids_in c.args.searchers.now)

pub returns-in_err-chosen-clause-forgets : goal.returns-in_err-chosen-clause-forgets
returns-in_err-chosen-clause-forgets c = forgets_none c.args.formula.now c.args.keep_all c.args.log.now.steps (map ids_in c.args.searchers.now)

pub returns-in_default-clause-forgets : goal.returns-in_default-clause-forgets
returns-in_default-clause-forgets c = forgets_none c.args.formula.now c.args.keep_all c.args.log.now.steps (map ids_in c.args.searchers.now)

pub returns-in_err-left-clause-forgets : goal.returns-in_err-left-clause-forgets
returns-in_err-left-clause-forgets c = forgets_none c.args.formula.now c.args.keep_all c.args.log.now.steps (map ids_in c.args.searchers.now)

pub returns-in_err-reserve-clause-forgets : goal.returns-in_err-reserve-clause-forgets
returns-in_err-reserve-clause-forgets c =
    let held = map ids_in c.args.searchers.now in
    subst (λ (ss : List Step). Forgets c.args.formula.now c.args.keep_all c.args.log.now.steps ss held held) (sym c.reserve.ensures.widens.steps_stay) (forgets_none c.args.formula.now c.args.keep_all c.args.log.now.steps held)

pub unmarked-requires : goal.unmarked-requires
unmarked-requires c =
    let chosen = subst (λ o. IfSome o (λ x. IsChosen c.args.formula.now c.args.log.now.steps c.args.searchers.now x.marks.items x.ids.items)) c.in-Some.is c.in_ok-chosen.ensures in
    omega (arith, c.len.ensures.len, formula_marked c.args.formula.now c.args.log.now.steps c.args.searchers.now c.in-Some.chosen.marks.items c.in-Some.chosen.ids.items chosen c.requires.good, ap (λ (ms : List Bool). length ms) c.deref-2.ensures.value)

pub push_del-requires-clause-in_range : goal.push_del-requires-clause-in_range
push_del-requires-clause-in_range c =
    let chosen = subst (λ o. IfSome o (λ x. IsChosen c.args.formula.now c.args.log.now.steps c.args.searchers.now x.marks.items x.ids.items)) c.in-Some.is c.in_ok-chosen.ensures in
    rw (c.deref-3.ensures.value, chosen.ids_are) (ids_in_range chosen.whole c.in-Some.chosen.marks.items chosen.live)

pub remove-requires : goal.remove-requires
remove-requires c =
    let chosen = subst (λ o. IfSome o (λ x. IsChosen c.args.formula.now c.args.log.now.steps c.args.searchers.now x.marks.items x.ids.items)) c.in-Some.is c.in_ok-chosen.ensures in
    subst (λ (ms : List Bool). All (MayLose ms) c.args.searchers.now) (sym c.deref-4.ensures.value)
    (may_lose c.args.formula.now c.args.log.now.steps c.args.searchers.now c.in-Some.chosen.marks.items c.in-Some.chosen.ids.items chosen c.requires.good c.requires.behind)

pub returns-clause-forgets : goal.returns-clause-forgets
returns-clause-forgets c =
    let formula = c.args.formula.now in
    let steps = c.args.log.now.steps in
    let old = c.args.searchers.now in
    let new = c.remove.new.searchers in
    let marks = c.in-Some.chosen.marks.items in
    let ids = c.in-Some.chosen.ids.items in
    let chosen = subst (λ o. IfSome o (λ x. IsChosen formula steps old x.marks.items x.ids.items)) c.in-Some.is c.in_ok-chosen.ensures in
    let logged : c.push_del.new.self.steps ≡ steps ++ Del ids ∷ [] =
    ap (λ (l : Logged). l.steps) c.push_del.ensures ∙ ap (λ (is : List ℕ). c.reserve.new.self.steps ++ Del is ∷ []) c.deref-3.ensures.value ∙ ap (λ (ss : List Step). ss ++ Del ids ∷ []) c.in_ok-reserve.ensures.widens.steps_stay
    in
    let forget : HaveForgotten marks old new = subst (λ (ms : List Bool). HaveForgotten ms old new) c.deref-4.ensures.value c.remove.ensures in
    subst (λ (ss : List Step). Forgets formula c.args.keep_all steps ss (map ids_in old) (map ids_in new)) (sym logged)
    (forgets_chosen formula steps old marks ids chosen c.requires.good c.args.keep_all new c.if-keep_all.false c.requires.behind forget)

pub returns-clause-behind : goal.returns-clause-behind
returns-clause-behind c =
    let formula = c.args.formula.now in
    let steps = c.args.log.now.steps in
    let old = c.args.searchers.now in
    let new = c.remove.new.searchers in
    let marks = c.in-Some.chosen.marks.items in
    let ids = c.in-Some.chosen.ids.items in
    let chosen = subst (λ o. IfSome o (λ x. IsChosen formula steps old x.marks.items x.ids.items)) c.in-Some.is c.in_ok-chosen.ensures in
    let logged : c.push_del.new.self.steps ≡ steps ++ Del ids ∷ [] =
    ap (λ (l : Logged). l.steps) c.push_del.ensures ∙ ap (λ (is : List ℕ). c.reserve.new.self.steps ++ Del is ∷ []) c.deref-3.ensures.value ∙ ap (λ (ss : List Step). ss ++ Del ids ∷ []) c.in_ok-reserve.ensures.widens.steps_stay
    in
    let forget : HaveForgotten marks old new = subst (λ (ms : List Bool). HaveForgotten ms old new) c.deref-4.ensures.value c.remove.ensures in
    subst (λ (ss : List Step). All (λ (s : SearcherState). IsBehind formula ss s.store s.trail) new) (sym logged) (behind_chosen formula steps old marks ids chosen c.requires.good new c.requires.behind forget)

pub returns-clause-good : goal.returns-clause-good
returns-clause-good c =
    let formula = c.args.formula.now in
    let steps = c.args.log.now.steps in
    let ids = c.in-Some.chosen.ids.items in
    let chosen = subst (λ o. IfSome o (λ x. IsChosen formula steps c.args.searchers.now x.marks.items x.ids.items)) c.in-Some.is c.in_ok-chosen.ensures in
    let logged : c.push_del.new.self.steps ≡ steps ++ Del ids ∷ [] =
    ap (λ (l : Logged). l.steps) c.push_del.ensures ∙ ap (λ (is : List ℕ). c.reserve.new.self.steps ++ Del is ∷ []) c.deref-3.ensures.value ∙ ap (λ (ss : List Step). ss ++ Del ids ∷ []) c.in_ok-reserve.ensures.widens.steps_stay
    in
    subst (IsGoodLog formula) (sym logged) (good_chosen formula steps c.args.searchers.now c.in-Some.chosen.marks.items ids chosen c.requires.good)

pub returns-clause-live : goal.returns-clause-live
returns-clause-live c =
    let formula = c.args.formula.now in
    let steps = c.args.log.now.steps in
    let numbers = c.args.live.now.items in
    let marks = c.in-Some.chosen.marks.items in
    let ids = c.in-Some.chosen.ids.items in
    let n = c.len.result in
    let chosen = subst (λ o. IfSome o (λ x. IsChosen formula steps c.args.searchers.now x.marks.items x.ids.items)) c.in-Some.is c.in_ok-chosen.ensures in
    let logged : c.push_del.new.self.steps ≡ steps ++ Del ids ∷ [] =
    ap (λ (l : Logged). l.steps) c.push_del.ensures ∙ ap (λ (is : List ℕ). c.reserve.new.self.steps ++ Del is ∷ []) c.deref-3.ensures.value ∙ ap (λ (ss : List Step). ss ++ Del ids ∷ []) c.in_ok-reserve.ensures.widens.steps_stay
    in
    let left : c.in_ok-left.left.items ≡ numbers_left numbers (drop n marks) =
    c.in_ok-left.ensures ∙ ap (λ (ns : List ℕ). numbers_left ns (drop n c.deref-2.result.now)) c.deref.ensures.value ∙ ap (λ (ms : List Bool). numbers_left numbers (drop n ms)) c.deref-2.ensures.value
    in
    subst (λ (ss : List Step). AreLiveSteps formula ss c.in_ok-left.left.items) (sym logged)
    (subst (AreLiveSteps formula (steps ++ Del ids ∷ [])) (sym left) (live_chosen formula steps c.args.searchers.now marks ids chosen c.requires.good numbers n c.requires.live c.len.ensures.len))
