use Rattle.std.proofs.Common.{◌≡◌, ◌∷◌, ◌++◌, [], List, ℕ, Ok, length, sym, ap, ◌∙◌, subst}
use Rattle.lls_prooflog.specs.declared.step.Step.{Step}
use Rattle.lls_prooflog.specs.declared.step.Step.TheVariants.{Add}
use Rattle.lls_solver.specs.Sharing.{AreLiveSteps}
use Rattle.lls_solver.proofs.ForgottenTogether.{live_push}
use Rattle.lls_crew.proofs.taking.take_turn.Goals as goal

pub returns-in-None-clause-live : goal.returns-in-None-clause-live
returns-in-None-clause-live c = λ _.
    let formula = c.args.formula.now in
    let steps = c.args.log.now.steps in
    let learns = (c.in_ok-go_on.ensures.learnt (ap Ok c.in-None.is)).learns in
    let lives = live_push formula steps c.args.live.now.items learns.id learns.lits learns.hints c.requires.live in
    let items : c.push_reserved.new.self.items ≡ c.args.live.now.items ++ length steps ∷ [] =
    c.push_reserved.ensures.items ∙ ap (λ (ns : List ℕ). ns ++ c.len-next.result ∷ []) c.reserve.ensures.items ∙ ap (λ (n : ℕ). c.args.live.now.items ++ n ∷ []) c.len-next.ensures
    in
    subst (λ (ss : List Step). AreLiveSteps formula ss c.push_reserved.new.self.items) (sym learns.logged) (subst (AreLiveSteps formula (steps ++ Add learns.id learns.lits learns.hints ∷ [])) (sym items) lives)

pub returns-in-Some-clause-ended : goal.returns-in-Some-clause-ended
returns-in-Some-clause-ended c = λ outcome keep_all kept is. c.in_ok-go_on.ensures.ended outcome keep_all kept (ap Ok c.in-Some.is ∙ is)
