use Rattle.std.proofs.Common.{◌≡◌, ◌<◌, length, get_or, drop, Some, sym, ap, ◌∙◌, arith}
use Rattle.std.proofs.lemmas.List.{take_rest}
use Rattle.lls_prooflog.specs.Fronts.{IsSize, first_word}
use Rattle.lls_prooflog.proofs.ShortNumbers.{minus_value, minus_bits}
use Rattle.lls_prooflog.proofs.short.short_number.Goals as goal

pub returns-then-first-eq45-clause-value : goal.returns-then-first-eq45-clause-value
returns-then-first-eq45-clause-value c =
    let text = c.args.text.now in
    let size = c.in_ok-size.size in
    let some : 0 < length text = omega arith in
    let is : get_or text 0 0 ≡ 45 = omega arith in
    let more : 0 < size = omega arith in
    let word : IsSize (first_word (drop 1 text)) size = rw (← take_rest text 1) c.in_ok-size.ensures.number in
    minus_value text size some is word more c.in_ok-size.ensures.small ∙ ap Some (sym (minus_bits size more c.in_ok-size.ensures.small))
