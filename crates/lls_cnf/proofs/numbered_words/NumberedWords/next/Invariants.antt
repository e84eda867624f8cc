use Rattle.std.proofs.Common.{◌≡◌, ◌++◌, map, length}
use Rattle.std.specs.List.{flat_map}
use Rattle.lls_cnf.specs.Dimacs.{words_on}
use Rattle.lls_cnf.proofs.numbered_words.NumberedWords.next.Given as goal

abbrev pub invariant-loop-word : goal.invariant-loop-word
invariant-loop-word l =
    let now = l.self-inside in
    let first = l.initial.self-inside in
    map (λ word. (now.line, word.text)) now.words ++ flat_map words_on now.lines
    ≡ map (λ word. (first.line, word.text)) first.words ++ flat_map words_on first.lines

abbrev pub decreases-loop-word : goal.decreases-loop-word
decreases-loop-word l = length l.self-inside.lines
