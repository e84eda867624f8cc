use Rattle.std.proofs.Common.{◌≡◌, replicate, None}
use Rattle.lls_encode.proofs.cells.no_firsts.Given as goal

abbrev pub invariant-loop-name : goal.invariant-loop-name
invariant-loop-name l = l.firsts.items ≡ replicate l._name None
