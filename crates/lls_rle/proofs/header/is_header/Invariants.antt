use Rattle.std.proofs.Common.{◌≡◌, drop}
use Rattle.lls_rle.specs.Header.{behind_parts}
use Rattle.lls_rle.specs.declared.header.TheConstants.{HEADER}
use Rattle.lls_rle.proofs.header.is_header.Given as goal

abbrev pub invariant-loop-part : goal.invariant-loop-part
invariant-loop-part l = behind_parts (drop l.part-index HEADER) l.rest ≡ behind_parts HEADER l.line
