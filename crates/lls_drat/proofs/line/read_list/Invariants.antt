use Rattle.std.proofs.Common.{◌≡◌, length}
use Rattle.lls_prooflog.specs.Number.{literal_in, item}
use Rattle.lls_prooflog.specs.Line.{behind_end, listed}
use Rattle.lls_prooflog.proofs.Lists.{with_front}
use Rattle.lls_drat.proofs.line.read_list.Given as goal

abbrev pub invariant-loop-lit : goal.invariant-loop-lit
invariant-loop-lit l = record {
  listed : with_front l.lits.items (listed (item literal_in) l.words) ≡ listed (item literal_in) l.initial.words;
  behind : behind_end l.words ≡ behind_end l.initial.words;
}

abbrev pub decreases-loop-lit : goal.decreases-loop-lit
decreases-loop-lit l = length l.words
