use Rattle.std.proofs.Common.{◌≡◌, ◌<◌, false, refl, sym, ap, ◌∙◌, drop, arith}
use Rattle.std.proofs.lemmas.List.{take_rest}
use Rattle.lls_text.specs.Words.{begins_solid}
use Rattle.lls_prooflog.proofs.ShortNumbers.{size-word, solids-digits}
use Rattle.lls_prooflog.proofs.short.whole_word.Goals as goal

pub returns-clause-number : goal.returns-clause-number
returns-clause-number c =
    let count = c.first_digits-count.result.count in
    let some : 0 < count = omega arith in
    let ends : begins_solid (drop count c.args.text.now) ≡ false = ap begins_solid (sym (take_rest c.args.text.now count)) ∙ sym c.begins_solid.ensures ∙ c.if-begins_solid.false in
    size-word c.args.text.now count c.first_digits-count.result.size some c.first_digits-count.ensures.digits ends

pub returns-clause-rest : goal.returns-clause-rest
returns-clause-rest c =
    let count = c.first_digits-count.result.count in
    let ends : begins_solid (drop count c.args.text.now) ≡ false = ap begins_solid (sym (take_rest c.args.text.now count)) ∙ sym c.begins_solid.ensures ∙ c.if-begins_solid.false in
    rw (take_rest c.args.text.now count, solids-digits c.args.text.now count c.first_digits-count.ensures.digits.within c.first_digits-count.ensures.digits.digits ends) refl
