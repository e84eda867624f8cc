use Rattle.std.proofs.Common.{◌≡◌, ◌<◌, length}
use Rattle.lls_hensel.specs.Printing.{uneven}
use Rattle.lls_hensel.specs.Texts.{uneven_from}
use Rattle.lls_hensel.proofs.print.first_uneven.Given as goal

abbrev pub invariant-loop-nine : goal.invariant-loop-nine
invariant-loop-nine l = record {
  least : uneven l.rule ≡ uneven_from l.rule l.nine;
  whole : 0 < l.nine → length l.rule ≡ 512;
}
