use Rattle.std.proofs.Common.{◌≡◌, ◌+◌, ◌++◌, length, map, take}
use Rattle.lls_search_file.specs.Seen.{seen_word}
use Rattle.lls_search_file.specs.Kept.{texts, words_in, IsNumbered}
use Rattle.lls_search_file.proofs.names.push_words.Given as goal

abbrev pub invariant-loop-word : goal.invariant-loop-word
invariant-loop-word l = record {
  words : words_in (texts l.names.keys) l.cells.items ≡ words_in (texts l.fn.names.keys) l.fn.cells.items ++ map seen_word (take l.word-index l.words);
  count : length l.cells.items ≡ length l.fn.cells.items + l.word-index;
  numbered : IsNumbered (texts l.names.keys) l.cells.items;
}
