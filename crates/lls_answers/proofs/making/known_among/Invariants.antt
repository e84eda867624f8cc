use Rattle.std.proofs.Common.{◌≡◌, take}
use Rattle.std.specs.Prelude.{count_by}
use Rattle.lls_answers.specs.Making.{is_known}
use Rattle.lls_answers.proofs.making.known_among.Given as goal

abbrev pub invariant-loop-cell : goal.invariant-loop-cell
invariant-loop-cell l = l.count ≡ count_by (λ cell. is_known cell.kind) (take l.cell-index l.cells)
