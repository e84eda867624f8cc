use Rattle.std.proofs.Common.{◌≡◌, ◌+◌, [], take, drop}
use Rattle.lls_hensel.specs.Reading.{letters_read}
use Rattle.lls_hensel.proofs.read.check_letters.Given as goal

abbrev pub invariant-loop-index : goal.invariant-loop-index
invariant-loop-index l =
    letters_read l.column l.count [] l.letters ≡ letters_read (l.column + l.index) l.count (take l.index l.letters) (drop l.index l.letters)
