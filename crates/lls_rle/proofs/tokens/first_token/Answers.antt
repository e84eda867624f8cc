use Rattle.std.proofs.Common.{◌≡◌, ◌∙◌, ap, max}
use Rattle.lls_rle.specs.Header.{digits}
use Rattle.lls_rle.proofs.FirstTokens.{tokens_from-first}
use Rattle.lls_rle.proofs.tokens.first_token.Goals as goal

pub returns-clause-token : goal.returns-clause-token
returns-clause-token c = λ line column.
    let len : c.max.result ≡ max (digits c.args.text.now) 1 = c.max.ensures ∙ ap (λ n. max n 1) c.digit_len.ensures.count in
    rw (c.split_at.ensures.front_len, c.split_at.ensures.front, c.split_at.ensures.back, len) (tokens_from-first line column c.args.text.now c.requires)
