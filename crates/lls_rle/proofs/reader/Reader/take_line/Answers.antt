use Rattle.std.proofs.Common.{arith}
use Rattle.lls_rle.proofs.TokenCounts.{length-tokens_from}
use Rattle.lls_rle.proofs.reader.Reader.take_line.Goals as goal

pub take_tokens-requires-clause-row : goal.take_tokens-requires-clause-row
take_tokens-requires-clause-row c = omega (arith, length-tokens_from c.args.number 1 c.args.line.now, c.requires.row)

pub take_tokens-requires-clause-column : goal.take_tokens-requires-clause-column
take_tokens-requires-clause-column c = omega (arith, length-tokens_from c.args.number 1 c.args.line.now, c.requires.column)

pub returns-clause-row : goal.returns-clause-row
returns-clause-row c = omega (arith, length-tokens_from c.args.number 1 c.args.line.now, c.take_tokens.ensures.row)

pub returns-clause-column : goal.returns-clause-column
returns-clause-column c = omega (arith, length-tokens_from c.args.number 1 c.args.line.now, c.take_tokens.ensures.column)
