use Rattle.std.proofs.Common.{length}
use Rattle.lls_drat.specs.Reading.{Keeps}
use Rattle.lls_drat.proofs.reader.Reader.next.Given as goal

abbrev pub invariant-loop-kind : goal.invariant-loop-kind
invariant-loop-kind l = Keeps l.initial.self l.self

abbrev pub decreases-loop-kind : goal.decreases-loop-kind
decreases-loop-kind l = length l.self.rest
