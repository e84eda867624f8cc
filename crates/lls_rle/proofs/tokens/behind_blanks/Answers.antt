use Rattle.std.proofs.lemmas.List.{take_rest}
use Rattle.lls_rle.proofs.FirstTokens.{tokens_from-behind, begins_solid-behind}
use Rattle.lls_rle.proofs.tokens.behind_blanks.Goals as goal

pub returns-clause-tokens : goal.returns-clause-tokens
returns-clause-tokens c = λ line column. rw (take_rest c.args.text.now c.blank_len.result, c.blank_len.ensures.count) (tokens_from-behind line column c.args.text.now)

pub returns-clause-solid : goal.returns-clause-solid
returns-clause-solid c = rw (take_rest c.args.text.now c.blank_len.result, c.blank_len.ensures.count) (begins_solid-behind c.args.text.now)
