use Rattle.clap.specs.Words.{first_value, found_of}
use Rattle.std.proofs.Common.{Some}
use Rattle.lls_words.proofs.Pairs.{same_at}
use Rattle.lls_words.proofs.parser.read_operands.Goals as goal

pub read_operand-requires : goal.read_operand-requires
read_operand-requires c =
    same_at (first_value (found_of c.args.matches.now)) (λ name. name.now) (λ operand. Some operand.word.now) c.args.names.now c.args.operands.now c.loop-at.at _ _ c.requires c.loop-at-test.true
