use Rattle.std.proofs.Common.{◌≡◌, length}
use Rattle.std.specs.List.{All}
use Rattle.lls_problem.specs.Bounds.{HasEnds}
use Rattle.lls_words.specs.Values.{bounds_in, comma}
use Rattle.lls_words.proofs.Entries.{parts_at, with_left}
use Rattle.lls_words.proofs.values.bounds_in.Given as goal

-- the bounds so far and those of the rest are those of the text
abbrev pub invariant-loop-entry : goal.invariant-loop-entry
invariant-loop-entry l = record {
  read : with_left l.bounds.items (parts_at comma l.rest) ≡ bounds_in l.fn.text;
  ends : All HasEnds l.bounds.items;
}

abbrev pub decreases-loop-entry : goal.decreases-loop-entry
decreases-loop-entry l = length l.rest
