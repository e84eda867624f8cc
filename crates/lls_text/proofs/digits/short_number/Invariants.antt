use Rattle.lls_text.proofs.ShortDigits.{IsShort}
use Rattle.lls_text.proofs.digits.short_number.Given as goal

abbrev pub invariant-loop-byte : goal.invariant-loop-byte
invariant-loop-byte l = IsShort l.text l.byte-index l.number
