use Rattle.std.proofs.Common.{◌≡◌, ◌<◌, ◌+◌, [], arith, get_or, length, map, string_bytes, sym, ap, ◌∙◌}
use Rattle.std.proofs.lemmas.List.{get_or-map, length-map}
use Rattle.lls_hinting.proofs.WordsTaken.{taken_fault, taken_more}
use Rattle.lls_hinting.proofs.request.take_words.Goals as goal
use Rattle.lls_hinting.proofs.request.take_words.Goals.{After-take}

-- the word that is taken
word_at : (c : After-take) → get_or (map string_bytes c.args.words.now) c.loop-k.k [] ≡ c.as_str.result.now
word_at c = get_or-map string_bytes c.args.words.now c.loop-k.k c.index-words-k.result [] (omega (arith, c.loop-k-test.true)) ∙ ap string_bytes (sym c.index-words-k.is) ∙ sym c.as_str.ensures.value

within : (c : After-take) → c.loop-k.k < length (map string_bytes c.args.words.now)
within c = omega (arith, c.loop-k-test.true, length-map c.args.words.now string_bytes)

pub loop-k-preserved : goal.loop-k-preserved
loop-k-preserved c =
    let at = (goal.at.loop-k-preserved c).After-take in
    record {
      within = omega (arith, c.loop-k-test.true);
      left = sym (taken_more (c.loop-k.k + 1) c.loop-k.taken c.take.new.self c.as_str.result.now (map string_bytes c.args.words.now) c.loop-k.k (within at) (word_at at) c.in-Ok.ensures) ∙ c.loop-k.invariant.left;
    }

pub returns-in-Err : goal.returns-in-Err
returns-in-Err c =
    let at = (goal.at.returns-in-Err c).After-take in
    λ other. sym c.loop-k.invariant.left ∙ taken_fault (c.loop-k.k + 1) c.loop-k.taken c.in-Err.error c.as_str.result.now (map string_bytes c.args.words.now) c.loop-k.k (within at) (word_at at) (c.in-Err.ensures other)
