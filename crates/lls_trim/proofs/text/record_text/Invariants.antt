use Rattle.std.proofs.Common.{◌+◌, ◌<◌, ◌^◌, length, map}
use Rattle.lls_prooflog.specs.Line.{step_of_line}
use Rattle.lls_prooflog.specs.Log.{read_lines}
use Rattle.lls_trim.specs.Buffers.{names_in}
use Rattle.lls_trim.specs.Recording.{AreNumbered, recording_of, GoesOn}
use Rattle.lls_trim.proofs.text.record_text.Given as goal

abbrev pub invariant-loop-line : goal.invariant-loop-line
invariant-loop-line l = record {
  room : l.count + length l.lines < 2 ^ 64;
  numbered : AreNumbered l.recorder.checker.live (names_in l.recorder.names);
  goes_on : GoesOn l.formula (read_lines l.text) (recording_of l.recorder) l.count (map step_of_line l.lines);
}

abbrev pub decreases-loop-line : goal.decreases-loop-line
decreases-loop-line l = length l.lines
