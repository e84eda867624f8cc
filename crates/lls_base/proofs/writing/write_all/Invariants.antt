use Rattle.std.proofs.Common.{◌≡◌, ◌≤◌, ◌-◌, length, take}
use Rattle.std.specs.Io.KnownBytes.{append_known}
use Rattle.lls_base.specs.Faults.{Counts}
use Rattle.lls_base.proofs.writing.write_all.Given as goal

abbrev pub invariant-loop-done : goal.invariant-loop-done
invariant-loop-done g l = record {
  within : l.done ≤ length l.bytes;
  written : g.O.Sink.written l.sink ≡ append_known (g.O.Sink.written l.initial.sink) (take l.done l.bytes);
  counts : Counts (g.O.Sink.faults l.initial.sink) (g.O.Sink.faults l.sink);
  no_fault : g.O.Sink.faults l.sink ≡ g.O.Sink.faults l.initial.sink;
}

abbrev pub decreases-loop-done : goal.decreases-loop-done
decreases-loop-done g l = length l.bytes - l.done
