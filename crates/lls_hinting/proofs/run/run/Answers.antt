use Rattle.std.proofs.Common.{refl, sym, subst}
use Rattle.std.specs.Prelude.{IsErr}
use Rattle.lls_hinting.proofs.WordsTaken.{words_only, words_or_memory}
use Rattle.lls_hinting.proofs.run.run.Goals as goal

pub returns-in-Err-clause-words : goal.returns-in-Err-clause-words
returns-in-Err-clause-words g c = λ is. subst IsErr (sym (c.in-Err.ensures (words_only c.in-Err.error c.refuse_words.result c.refuse_words.ensures.status is))) refl

pub returns-in-Err-clause-all_words : goal.returns-in-Err-clause-all_words
returns-in-Err-clause-all_words g c = λ _. words_or_memory c.in-Err.error c.refuse_words.result c.refuse_words.ensures.status
