use Rattle.lls_text.proofs.Fronts.{words_from-word}
use Rattle.lls_text.proofs.words.first_word.Goals as goal

pub returns-clause-word : goal.returns-clause-word
returns-clause-word c = λ column. rw (c.split_at.ensures.front_len, c.split_at.ensures.front, c.split_at.ensures.back, c.solid_len.ensures.count) (words_from-word column c.args.text.now c.requires)
