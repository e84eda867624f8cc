use Rattle.std.proofs.Common.{◌<◌, Some, w64, sym, ap, ◌∙◌, arith}
use Rattle.std.specs.Prelude.{pos}
use Rattle.std.proofs.lemmas.Option.{get_or_from_slice_get}
use Rattle.std.proofs.lemmas.Grind.{common_steps}
use mir.Val.{to_z, of_z}
use Rattle.lls_prooflog.specs.declared.step_fault.StepFault.TheVariants.{RatOther}
use Rattle.lls_prooflog.specs.Lent.{hints_of}
use Rattle.lls_prooflog.proofs.PrintedNumbers.{same_number}
use Rattle.lls_lrat.proofs.Groups.{first_without_pivot}
use Rattle.lls_lrat.proofs.pivot.fault_without_pivot.Goals as goal

pub returns-else-place-len : goal.returns-else-place-len
returns-else-place-len c =
    let lt : c.args.place < c.len.result = grind (arith, common_steps) in
    first_without_pivot (hints_of c.args.hints) c.args.place (to_z w64 (of_z w64 c.get.result)) (omega (arith, lt, c.len.ensures))
    (same_number c.get.result c.get.type_inv ∙ sym (get_or_from_slice_get (hints_of c.args.hints) c.args.place c.get.result (pos 0) c.get.ensures)) c.requires.group
    ∙ ap (λ n. Some (RatOther n)) (sym c.id_of.ensures)
