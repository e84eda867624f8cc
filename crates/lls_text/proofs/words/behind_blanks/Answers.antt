use Rattle.std.proofs.lemmas.List.{take_rest}
use Rattle.lls_text.proofs.Fronts.{words_from-behind, begins_solid-blanks}
use Rattle.lls_text.proofs.words.behind_blanks.Goals as goal

pub returns-clause-words : goal.returns-clause-words
returns-clause-words c = λ column. rw (take_rest c.args.text.now c.blank_len.result, c.blank_len.ensures.count) (words_from-behind column c.args.text.now)

pub returns-clause-solid : goal.returns-clause-solid
returns-clause-solid c = rw (take_rest c.args.text.now c.blank_len.result, c.blank_len.ensures.count) (begins_solid-blanks c.args.text.now)
