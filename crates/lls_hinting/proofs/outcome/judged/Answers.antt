use Rattle.std.proofs.Common.{◌≡◌, Ok, List, [], refl, ap, ◌∙◌, subst}
use Rattle.lls_base.specs.Shelf.{known_files}
use Rattle.lls_lit.specs.Formula.{Cnf}
use Rattle.lls_lemmas.specs.Lemmas.{IsNotImplied}
use Rattle.lls_prooflog.specs.declared.step.Step.{Step}
use Rattle.lls_hinting.specs.declared.judging.Stand.TheVariants.{Going, Refuted}
use Rattle.lls_hinting.specs.Judging.{IsJudged, IsProved, progress}
use Rattle.lls_hinting.specs.Outcome.{IsSaid}
use Rattle.lls_hinting.proofs.Judged.{judged_from, proved_said}
use Rattle.lls_hinting.proofs.Stopping.{reads_value}
use Rattle.lls_hinting.proofs.outcome.judged.Goals as goal

pub returns : goal.returns
returns g c =
    let files = known_files (g.S.Shelf.told c.args.shelf.now) in
    let name = c.args.name.now in
    let formula = c.args.formula.now in
    let start = c.args.lemmas.steps in
    let tally = c.new-tally.result in
    let new = progress c.judge_file-stand.new.lemmas.steps c.judge_file-stand.new.tally in
    let stand = c.in_ok-stand.field-0 in
    let outcome = c.in_ok-said.field-0 in
    let went = c.in_ok-stand.was in
    let open_ = λ (is : stand ≡ Going). subst (λ (f : Cnf). IsNotImplied f new.steps []) c.requires.formula (c.judge_file-stand.ensures.open (went ∙ ap Ok is)) in
    let ends = λ (is : stand ≡ Refuted). c.judge_file-stand.ensures.ends (went ∙ ap Ok is) in
    reads_value (IsJudged c.args.lemmas.formula c.args.vars files name c.args.form (progress start tally) new) (IsProved formula c.args.vars files name c.args.form) stand outcome _ _
    (λ judged. proved_said formula start new c.requires.well c.requires.keeps c.requires.begins c.args.vars files name c.args.form stand outcome open_ ends
    (subst (λ (steps : List Step). IsSaid formula (progress steps c.judge_file-stand.new.tally) stand outcome) c.into_log-log.ensures.steps c.in_ok-said.ensures)
    (judged_from c.args.lemmas.formula formula c.args.vars files name c.args.form start tally new stand stand c.requires.formula c.new-tally.ensures refl judged))
    c.in_ok-stand.ensures.read
