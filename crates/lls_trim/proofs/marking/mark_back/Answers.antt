use Rattle.std.proofs.Common.{◌-◌, length, refl, ap, ◌∙◌, arith}
use Rattle.std.specs.Option.{option_copied}
use Rattle.std.proofs.lemmas.List.{length-replicate}
use Rattle.lls_trim.specs.Buffers.{inference_of_ref}
use Rattle.lls_trim.proofs.Marks.{marking_starts, marking_passes, marking_goes_on, marking_ends, ordered_some}
use Rattle.lls_trim.proofs.marking.mark_back.Goals as goal

pub back-init : goal.back-init
back-init c = marking_starts c.args.inferences.now c.args.marks.now _ c.requires.none c.requires.some (ap length c.requires.none ∙ length-replicate _ _)

pub mark_sources-requires : goal.mark_sources-requires
mark_sources-requires c =
    ordered_some c.args.inferences.now (c.back.k - 1) _ (inference_of_ref c.lend.result) (option_copied c.lend.result.by) c.requires.ordered c.lend.ensures (omega (arith, c.back.invariant.within, c.back.invariant.as_many)) refl

pub back-preserved-then-marks-k : goal.back-preserved-then-marks-k
back-preserved-then-marks-k c =
    marking_goes_on c.args.inferences.now c.back.marks c.mark_sources.new.marks c.back.k (inference_of_ref c.lend.result) c.requires.ordered c.back.invariant c.back-test.true c.if-marks-k.true c.lend.ensures c.mark_sources.ensures.marks c.mark_sources.ensures.len

pub back-preserved : goal.back-preserved
back-preserved c = marking_passes c.args.inferences.now c.back.marks c.back.k c.back.invariant c.if-marks-k.false

pub returns : goal.returns
returns c = marking_ends c.args.inferences.now c.back.marks c.back.k c.back.invariant (omega (arith, c.back-test.false))
