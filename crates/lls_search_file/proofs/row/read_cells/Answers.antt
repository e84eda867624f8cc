use Rattle.std.proofs.Common.{◌≡◌, ◌+◌, ◌-◌, ◌∙◌, ℕ, true, None, Some, List, [], ◌∷◌, ◌++◌, length, take, drop, map, sym, ap, arith}
use Rattle.std.specs.List.{prefix_len, take_while}
use Rattle.std.specs.Option.{option_map}
use Rattle.std.proofs.lemmas.List.{take_rest, map-append, length-drop}
use Rattle.std.proofs.lemmas.List.Sums.{prefix_len-le-length}
use Rattle.std.proofs.lemmas.List.Folds.{length-prefix_len}
use Rattle.std.proofs.lemmas.Bool.{ne_eqb}
use Rattle.lls_search_file.specs.Words.{is_of_word, word_of, begins_in_word}
use Rattle.lls_search_file.specs.Seen.{seen_word}
use Rattle.lls_search_file.proofs.Pieces.{of_word_at, bad_word, good_word}
use Rattle.lls_search_file.proofs.row.read_cells.Goals as goal

-- the length of the word that stands at a place
counted : (bytes : List ℕ) (at len : ℕ) → len ≡ length (take_while is_of_word (take (length bytes - at) (drop at bytes))) → len ≡ prefix_len is_of_word (drop at bytes)
counted bytes at len e = e ∙ (ap (λ bs. length (take_while is_of_word bs)) (take_rest bytes at) ∙ length-prefix_len is_of_word (drop at bytes))

pub returns-in_default : goal.returns-in_default
returns-in_default c =
    let bytes = c.args.bytes.now in
    let at = c.loop-at.at in
    let solid : begins_in_word (drop at bytes) ≡ true = of_word_at at bytes c.loop-at-test.true (sym c.is_blank.ensures ∙ c.if-is_blank.false) (ne_eqb _ _ c.if-bytes-at-eq44.false) in
    let len : c.word_len.result ≡ prefix_len is_of_word (drop at bytes) = counted bytes at c.word_len.result c.word_len.ensures in
    let end : (at + c.word_len.result) - at ≡ prefix_len is_of_word (drop at bytes) = omega (arith, len) in
    let none : word_of (take (prefix_len is_of_word (drop at bytes)) (drop at bytes)) ≡ None =
    ap (λ n. word_of (take n (drop at bytes))) (sym end) ∙ (sym c.read_word.ensures ∙ ap (option_map seen_word) c.in_default.is) in
    λ fault is.
    let bad = sym c.loop-at.invariant.reads ∙ bad_word (map seen_word c.loop-at.cells.items) c.args.line at c.loop-at.after_comma bytes solid none in
    cc

pub loop-at-preserved : goal.loop-at-preserved
loop-at-preserved c =
    let bytes = c.args.bytes.now in
    let at = c.loop-at.at in
    let solid : begins_in_word (drop at bytes) ≡ true = of_word_at at bytes c.loop-at-test.true (sym c.is_blank.ensures ∙ c.if-is_blank.false) (ne_eqb _ _ c.if-bytes-at-eq44.false) in
    let len : c.word_len.result ≡ prefix_len is_of_word (drop at bytes) = counted bytes at c.word_len.result c.word_len.ensures in
    let end : (at + c.word_len.result) - at ≡ prefix_len is_of_word (drop at bytes) = omega (arith, len) in
    let some : word_of (take (prefix_len is_of_word (drop at bytes)) (drop at bytes)) ≡ Some (seen_word c.in-Some.cell) =
    ap (λ n. word_of (take n (drop at bytes))) (sym end) ∙ (sym c.read_word.ensures ∙ ap (option_map seen_word) c.in-Some.is) in
    let pushed : map seen_word c.push.new.self.items ≡ map seen_word c.loop-at.cells.items ++ seen_word c.in-Some.cell ∷ [] =
    ap (map seen_word) c.in_ok-push.ensures.items ∙ map-append seen_word c.loop-at.cells.items (c.in-Some.cell ∷ []) in
    record {
      within = omega (arith, prefix_len-le-length is_of_word (drop at bytes), length-drop at bytes);
      reads = rw (pushed, len)
          (sym (good_word (map seen_word c.loop-at.cells.items) c.args.line at c.loop-at.after_comma bytes (seen_word c.in-Some.cell) solid some) ∙ c.loop-at.invariant.reads);
    }
