use Rattle.std.proofs.Common.{Ok, refl, subst, sym}
use Rattle.lls_hensel.specs.Isotropy.{IsIsotropic}
use Rattle.lls_problem.specs.Problem.{PosedProblem}
use Rattle.lls_answers.specs.Subject.{asked_with}
use Rattle.lls_answers.specs.Questions.{Question}
use Rattle.lls_answers.specs.Questions as questions
use Rattle.lls_cli.specs.declared.task.Task.TheVariants as tasks
use Rattle.lls_cli.specs.Question.{Asking, come_to, problem_asked, with_room}
use Rattle.lls_cli.proofs.Asked.{AsksBy-then, Reads-stopped}
use Rattle.lls_cli.proofs.Ending.{stopped, task_ended}
use Rattle.lls_cli.proofs.run.run_extremal.Goals as goal

pub returns-in-Ok-clause-end : goal.returns-in-Ok-clause-end
returns-in-Ok-clause-end g c =
    let source = c.args.source in
    let read = c.in-Ok.ensures.read in
    let next : PosedProblem → Asking Question = λ problem. come_to (Ok (questions.Extremal c.args.extreme (asked_with c.args.formulation problem) c.args.effort c.args.further.rle)) in
    let task = tasks.Extremal c.args.extreme source c.args.formulation c.args.effort c.args.further in
    let question = questions.Extremal c.args.extreme (asked_with c.args.formulation c.in-Ok.problem) c.args.effort c.args.further.rle in
    task_ended task question _ _ _ _ _ _ _ _
    (AsksBy-then _ (problem_asked with_room source) next c.in-Ok.problem (Ok question) read.ok.0 refl)
    tt tt read.kept read.ok.1 c.give_extremal.ensures.end

pub returns-in-Err-clause-end : goal.returns-in-Err-clause-end
returns-in-Err-clause-end g c =
    let source = c.args.source in
    let next : PosedProblem → Asking Question = λ problem. come_to (Ok (questions.Extremal c.args.extreme (asked_with c.args.formulation problem) c.args.effort c.args.further.rle)) in
    let task = tasks.Extremal c.args.extreme source c.args.formulation c.args.effort c.args.further in
    let read = Reads-stopped (problem_asked with_room source) next c.in-Err.fault _ _ c.in-Err.ensures.read in
    stopped task c.in-Err.fault _ _ _ _ _ _ tt read.kept read.counts tt read.err c.refuse.ensures

pub give_extremal-requires-clause-isotropic : goal.give_extremal-requires-clause-isotropic
give_extremal-requires-clause-isotropic g c = subst IsIsotropic (sym c.in-Ok.ensures.rule) c.requires.isotropic
