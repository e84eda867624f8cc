use Rattle.std.proofs.Common.{◌≡◌, length}
use Rattle.lls_prooflog.specs.Line.{behind_end, listed}
use Rattle.lls_prooflog.specs.Numeral.{item_by}
use Rattle.lls_prooflog.proofs.Lists.{with_front}
use Rattle.lls_prooflog.proofs.read.read_list.Given as goal

abbrev pub invariant-loop-item : goal.invariant-loop-item
invariant-loop-item g l = record {
  listed : with_front l.items.items (listed (item_by g.K.Kind.item_of) l.numerals) ≡ listed (item_by g.K.Kind.item_of) l.initial.numerals;
  behind : behind_end l.numerals ≡ behind_end l.initial.numerals;
}

abbrev pub decreases-loop-item : goal.decreases-loop-item
decreases-loop-item g l = length l.numerals
