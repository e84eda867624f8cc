use Rattle.std.proofs.Common.{◌≤◌, ◌+◌, [], ◌∷◌, length, arith, length-append}
use Rattle.std.proofs.lemmas.List.{length-map}
use Rattle.lls_search_file.specs.Kept.{texts, words_in}
use Rattle.lls_search_file.proofs.Numbering.{pushed_step, count-le}
use Rattle.lls_search_file.proofs.names.push_words.Goals as goal

pub number-requires : goal.number-requires
number-requires c =
    let kept = c.loop-word.invariant in
    let keys = c.loop-word.names.keys in
    let fewer : length (texts keys) ≤ 0 + length c.loop-word.cells.items = count-le c.loop-word.cells.items (length (texts keys)) 0 kept.numbered.numbered in
    record { most = omega (arith, fewer, length-map keys (λ key. key.now), kept.count, c.requires.most) }

pub loop-word-preserved : goal.loop-word-preserved
loop-word-preserved c =
    let kept = c.loop-word.invariant in
    let items = c.loop-word.cells.items in
    let cell = c.in_ok-cell.cell in
    let step = pushed_step (words_in (texts c.args.names.now.keys) c.args.cells.now.items) (texts c.loop-word.names.keys) (texts c.number.new.names.keys) items cell c.args.words.now c.loop-word.word-index _
    c.loop-word-test.true c.requires.spelled kept.numbered kept.words c.in_ok-cell.ensures.cell c.in_ok-cell.ensures.names in
    rw c.in_ok-push.ensures.items (record {
      words = step.1;
      count = omega (arith, length-append items (cell ∷ []), kept.count);
      numbered = step.0;
    })
