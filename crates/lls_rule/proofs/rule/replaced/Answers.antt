use Rattle.std.proofs.Common.{◌∙◌, sym, ap, set}
use Rattle.lls_rule.specs.Words.{bits_of_word}
use Rattle.lls_rule.proofs.Bits.{bits_of_word_set, bits_of_word_cleared}
use Rattle.lls_rule.proofs.rule.replaced.Goals as goal

pub returns-then-live : goal.returns-then-live
returns-then-live c =
    bits_of_word_set c.args.word c.args.bit c.requires ∙ ap (set (bits_of_word c.args.word) c.args.bit) (sym c.if-live.true)

pub returns-else-live : goal.returns-else-live
returns-else-live c =
    bits_of_word_cleared c.args.word c.args.bit c.requires ∙ ap (set (bits_of_word c.args.word) c.args.bit) (sym c.if-live.false)
