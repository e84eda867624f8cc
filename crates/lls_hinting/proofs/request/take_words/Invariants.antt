use Rattle.std.proofs.Common.{length, ◌≡◌, map, string_bytes, ◌+◌, ◌-◌, ◌≤◌, drop}
use Rattle.lls_hinting.specs.Words.{nothing_taken, words_taken}
use Rattle.lls_hinting.proofs.request.take_words.Given as goal

-- what the words left make of those so far is what all make
abbrev pub invariant-loop-k : goal.invariant-loop-k
invariant-loop-k l = record {
  within : l.k ≤ length l.words;
  left : words_taken (l.k + 1) l.taken (drop l.k (map string_bytes l.words)) ≡ words_taken 1 nothing_taken (map string_bytes l.words);
}

abbrev pub decreases-loop-k : goal.decreases-loop-k
decreases-loop-k l = length l.words - l.k
