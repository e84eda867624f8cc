use Rattle.std.proofs.Common.{◌∙◌, ap, map, string_bytes, length, arith, refl}
use Rattle.std.proofs.lemmas.List.{take_rest}
use Rattle.lls_words.specs.Items.{items_of, words_taken}
use Rattle.lls_words.proofs.Firsts.{items_of-strings}
use Rattle.lls_words.proofs.items.ItemsIterator.next.Goals as goal

pub returns-clause-steps : goal.returns-clause-steps
returns-clause-steps c =
    let words = c.in_ok-word.ensures.cases.0 in
    let taken = c.words_taken-taken.ensures ∙ ap (λ b. words_taken b (length c.in_ok-word.behind.now)) c.as_str-2.ensures.value in
    ap (λ w. items_of c.args.self.now.place (map string_bytes w)) words ∙
    items_of-strings c.args.self.now.place c.in_ok-word.word.now c.in_ok-word.behind.now c.words_taken-taken.result taken ∙
    rw (c.read_item-item.ensures, c.as_str.ensures.value, c.first_text.ensures, take_rest c.args.self.now.words.now c.words_taken-taken.result, words) refl

pub returns-clause-goes : goal.returns-clause-goes
returns-clause-goes c =
    let fewer = ap length (returns-clause-steps c) in
    record { on = λ _. (tt, tt, omega (arith, fewer)); keeps = tt; rests = λ _. tt }
