-- A word as a contract sees it: without where it lies in memory.
use Rattle.lls_text.specs.declared.words.Word.{Word}
use Rattle.lls_text.specs.Words.{PlacedWord}

abbrev pub seen_word : Word → PlacedWord
seen_word word = record { column = word.column; text = word.text.now }
