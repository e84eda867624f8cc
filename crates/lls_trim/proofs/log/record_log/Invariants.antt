use Rattle.std.proofs.Common.{drop, map}
use Rattle.lls_trim.specs.Buffers.{names_in}
use Rattle.lls_trim.specs.Recording.{AreNumbered, recording_of, GoesOn}
use Rattle.lls_trim.proofs.Readings.{reading_of_step}
use Rattle.lls_trim.proofs.log.record_log.Given as goal

abbrev pub invariant-loop-k : goal.invariant-loop-k
invariant-loop-k l = record {
  numbered : AreNumbered l.recorder.checker.live (names_in l.recorder.names);
  goes_on : GoesOn l.formula (map reading_of_step l.log.steps) (recording_of l.recorder) l.k (map reading_of_step (drop l.k l.log.steps));
}
