use Rattle.lls_rle.proofs.Steps.{IsTaking}
use Rattle.lls_rle.proofs.reader.Reader.take_tokens.Given as goal

abbrev pub invariant-loop-token : goal.invariant-loop-token
invariant-loop-token l = IsTaking l.initial.self l.number l.line l.self l.token-iterator
