use Rattle.std.proofs.Common.{◌∙◌, arith, length-drop}
use Rattle.std.proofs.lemmas.List.{take_rest}
use Rattle.lls_base.proofs.Pieces.{append_known-take}
use Rattle.lls_base.proofs.Faults.{Counts-trans}
use Rattle.lls_base.proofs.writing.write_all.Goals as goal

pub loop-done-preserved : goal.loop-done-preserved
loop-done-preserved g c =
    let piece = take_rest c.args.bytes.now c.loop-done.done in
    let within = rw piece at c.in_ok-taken.ensures.within in
    let written = rw piece at c.in_ok-taken.ensures.written in
    record {
      within = omega (arith, within, length-drop c.loop-done.done c.args.bytes.now, c.loop-done.invariant.within, c.loop-done-test.true);
      written = append_known-take _ _ _ c.args.bytes.now c.loop-done.done c.in_ok-taken.taken c.loop-done.invariant.written written;
      counts = Counts-trans c.loop-done.invariant.counts c.in_ok-taken.ensures.counts;
      no_fault = c.in_ok-taken.ensures.no_fault (omega (arith, c.if-taken-eq0.false)) ∙ c.loop-done.invariant.no_fault;
    }
