use Rattle.std.proofs.Common.{◌≡◌, ◌<◌, length, sym, ◌∙◌, refl}
use Rattle.lls_prooflog.specs.Fronts.{behind_blanks}
use Rattle.lls_prooflog.proofs.FirstWords.{empty_if, some_if, words_at-none, words_at-first}
use Rattle.lls_prooflog.proofs.numerals.Numerals.column.Goals as goal

pub returns-then-is_empty : goal.returns-then-is_empty
returns-then-is_empty c =
    let n = c.self.inside in
    let empty : length (behind_blanks n.rest.now) ≡ 0 = rw (← c.behind_blanks-text.ensures.rest) (empty_if c.behind_blanks-text.result.now (sym c.is_empty.ensures ∙ c.if-is_empty.true)) in
    rw (← c.self.view_is, words_at-none n.len n.rest.now c.self.invariant.0 empty) refl

pub returns : goal.returns
returns c =
    let n = c.self.inside in
    let some : 0 < length (behind_blanks n.rest.now) = rw (← c.behind_blanks-text.ensures.rest) (some_if c.behind_blanks-text.result.now (sym c.is_empty.ensures ∙ c.if-is_empty.false)) in
    rw (← c.self.view_is, words_at-first n.len n.rest.now c.self.invariant.0 some, c.behind_blanks-text.ensures.rest) refl
