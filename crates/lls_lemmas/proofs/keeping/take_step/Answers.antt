use Rattle.std.proofs.Common.{ap, ◌∙◌, subst}
use Rattle.std.specs.List.{list_all}
use Rattle.lls_prooflog.specs.Lent.{ids_of}
use Rattle.lls_prooflog.specs.Log.{step_of_ref}
use Rattle.lls_prooflog.specs.Range.{is_id, IsInRange}
use Rattle.lls_prooflog.specs.declared.step_ref.StepRef.{StepRef}
use Rattle.lls_lemmas.specs.Rest.{keeps}
use Rattle.lls_lemmas.proofs.RestMarks.{filter_all}
use Rattle.lls_lemmas.proofs.keeping.take_step.Goals as goal

pub push_del-requires-clause-in_range : goal.push_del-requires-clause-in_range
push_del-requires-clause-in_range c =
    let P : StepRef → Type 0 = λ s. IsInRange (step_of_ref s) in
    let all = subst P c.in-Del.is c.requires.in_range in
    ap (list_all is_id) (c.as_slice.ensures.value ∙ c.in_ok-take_ids-in-Del.ensures) ∙ filter_all is_id (keeps c.args.given c.args.marks.now) (ids_of c.in-Del.deleted) all
