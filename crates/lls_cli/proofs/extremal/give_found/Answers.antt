use Rattle.std.proofs.Common.{subst}
use Rattle.lls_solver.specs.Searching.{KeepsAll}
use Rattle.lls_least.specs.declared.answer.Extremal.{Extremal}
use Rattle.lls_least.specs.Extremal.{IsExtremal, log_of}
use Rattle.lls_answers.specs.Questions as questions
use Rattle.lls_answers.specs.Subject.{formula_asked}
use Rattle.lls_answers.proofs.Searches.{evidence_of}
use Rattle.lls_cli.proofs.extremal.give_found.Goals as goal

pub give_absent-requires : goal.give_absent-requires
give_absent-requires g c =
    let asked = c.args.asked in
    let effort = c.args.effort in
    let Says : Extremal → Type 0 = IsExtremal c.args.extreme asked.problem asked.formulation effort.budget in
    let Keeps : Extremal → Type 0 = λ l. KeepsAll effort.keep_all (log_of l).steps in
    evidence_of (formula_asked asked) effort c.in-Absent.log.steps (subst Keeps c.in-Absent.is c.requires.kept) (subst Says c.in-Absent.is c.requires.found)

pub returns-in-Unsettled-clause-end : goal.returns-in-Unsettled-clause-end
returns-in-Unsettled-clause-end g c =
    let asked = c.args.asked in
    let effort = c.args.effort in
    let Says : Extremal → Type 0 = IsExtremal c.args.extreme asked.problem asked.formulation effort.budget in
    let Keeps : Extremal → Type 0 = λ l. KeepsAll effort.keep_all (log_of l).steps in
    c.give-in-Unsettled.ensures.end (questions.Extremal c.args.extreme asked effort c.args.rle) (c.unsettled.ensures c.args.extreme asked c.args.rle (subst Says c.in-Unsettled.is c.requires.found) (subst Keeps c.in-Unsettled.is c.requires.kept))
