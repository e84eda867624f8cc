use Rattle.std.proofs.Common.{sym, ◌∙◌, w64, arith}
use Rattle.std.specs.Prelude.{pos}
use Rattle.std.proofs.lemmas.Option.{get_or_from_slice_get}
use mir.Val.{to_z, of_z}
use Rattle.lls_prooflog.specs.Lent.{hints_of}
use Rattle.lls_prooflog.proofs.PrintedNumbers.{same_number}
use Rattle.lls_lrat.proofs.Walked.{passes_none, passes_on, next_here}
use Rattle.lls_lrat.proofs.pivot.next_group.Goals as goal

pub loop-k-init : goal.loop-k-init
loop-k-init c = passes_none (hints_of c.args.hints) c.args.from

pub returns-then-is_negative : goal.returns-then-is_negative
returns-then-is_negative c =
    next_here (hints_of c.args.hints) c.args.from c.loop-k.k c.loop-k.invariant (to_z w64 (of_z w64 c.get.result))
    (omega (arith, c.loop-k-test.true, c.len-k-end.ensures)) (same_number c.get.result c.get.type_inv ∙ sym (get_or_from_slice_get (hints_of c.args.hints) c.loop-k.k c.get.result (pos 0) c.get.ensures)) (sym c.if-is_negative.ensures)

pub loop-k-preserved : goal.loop-k-preserved
loop-k-preserved c =
    passes_on (hints_of c.args.hints) c.args.from c.loop-k.k c.loop-k.invariant (to_z w64 (of_z w64 c.get.result))
    (omega (arith, c.loop-k-test.true, c.len-k-end.ensures)) (same_number c.get.result c.get.type_inv ∙ sym (get_or_from_slice_get (hints_of c.args.hints) c.loop-k.k c.get.result (pos 0) c.get.ensures)) (sym c.if-is_negative.ensures)
