use Rattle.std.proofs.Common.{◌∙◌, arith, false, length-set}
use Rattle.lls_solver.proofs.Marks.{candidates_more, numbers_more}
use Rattle.lls_solver.proofs.deletion.mark_numbers.Goals as goal

pub loop-candidate-preserved : goal.loop-candidate-preserved
loop-candidate-preserved c = record {
  len = length-set c.loop-candidate.marks _ _ ∙ c.loop-candidate.invariant.len;
  marked = λ n is. numbers_more c.args.candidates.now c.loop-candidate.candidate-index n (record { used = false; len = record { 0 = 0 }; number = 0 }) c.loop-candidate.marks c.loop-candidate-test.true c.loop-candidate.invariant.marked is;
  each = candidates_more c.args.candidates.now c.loop-candidate.candidate-index (record { used = false; len = record { 0 = 0 }; number = 0 }) c.loop-candidate.marks c.loop-candidate-test.true
      (omega (arith, c.requires.within c.loop-candidate.candidate-index (record { used = false; len = record { 0 = 0 }; number = 0 }) c.loop-candidate-test.true, c.loop-candidate.invariant.len))
      c.loop-candidate.invariant.each;
}
