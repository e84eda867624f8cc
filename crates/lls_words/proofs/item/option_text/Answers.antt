use Rattle.std.proofs.Common.{◌∙◌, Some, ap, sym, arith}
use Rattle.std.specs.Option.{option_copied}
use Rattle.std.proofs.lemmas.Str.Pattern.{strip_prefix_char}
use Rattle.lls_words.proofs.Dashes.{option_text-none, option_text-one}
use Rattle.lls_words.proofs.item.option_text.Goals as goal

pub returns-in_err-strip_prefix : goal.returns-in_err-strip_prefix
unfolding lib.Utf8.encode
returns-in_err-strip_prefix c = ap option_copied c.from_residual.ensures ∙ option_text-none c.args.word.now c.in_err-strip_prefix.ensures.cases

pub returns-in_err-text : goal.returns-in_err-text
unfolding lib.Utf8.encode
returns-in_err-text c =
    let first = strip_prefix_char 45 c.args.word.now (Some c.in_ok-strip_prefix.field-0) c.in_ok-strip_prefix.ensures.cases (omega arith) in
    ap option_copied c.from_residual-in_err-text.ensures ∙ sym (option_text-one c.args.word.now c.in_ok-strip_prefix.field-0.now first c.in_err-text.ensures.cases)
