use Rattle.std.proofs.Common.{◌≡◌, map, take}
use Rattle.lls_words.specs.Seen.{seen_given}
use Rattle.lls_words.proofs.parser.read_givens.Given as goal

abbrev pub invariant-loop-given : goal.invariant-loop-given
invariant-loop-given l = map seen_given l.read.items ≡ map seen_given (take l.given-index l.givens)
