use Rattle.std.proofs.Common.{◌≡◌, ◌<◌, length, sym, ◌∙◌, refl, rules, w64}
use Rattle.std.proofs.lemmas.Int.{to_z-of_z}
use mir.Val.{SFits}
use Rattle.lls_prooflog.specs.Fronts.{behind_blanks}
use Rattle.lls_prooflog.proofs.Given.{error_is}
use Rattle.lls_prooflog.proofs.FirstWords.{empty_if, some_if, words_at-none, first_numeral-value, first_numeral-fault, behind-first}
use Rattle.lls_prooflog.proofs.numerals.Numerals.next.Goals as goal

pub returns-then-is_empty-clause-numeral : goal.returns-then-is_empty-clause-numeral
returns-then-is_empty-clause-numeral c =
    let n = c.self.inside in
    let empty : length (behind_blanks n.rest.now) ≡ 0 = rw (← c.behind_blanks-text.ensures.rest) (empty_if c.behind_blanks-text.result.now (sym c.is_empty.ensures ∙ c.if-is_empty.true)) in
    rw (← c.self.view_is, words_at-none n.len n.rest.now c.self.invariant.0 empty) refl

pub returns-then-is_empty-clause-rest : goal.returns-then-is_empty-clause-rest
returns-then-is_empty-clause-rest c =
    let n = c.self.inside in
    let empty : length (behind_blanks n.rest.now) ≡ 0 = rw (← c.behind_blanks-text.ensures.rest) (empty_if c.behind_blanks-text.result.now (sym c.is_empty.ensures ∙ c.if-is_empty.true)) in
    rw (← c.self.view_is, words_at-none n.len n.rest.now c.self.invariant.0 empty) refl

pub returns-in_err-value-clause-numeral : goal.returns-in_err-value-clause-numeral
returns-in_err-value-clause-numeral c =
    let n = c.self.inside in
    let some : 0 < length (behind_blanks n.rest.now) = rw (← c.behind_blanks-text.ensures.rest) (some_if c.behind_blanks-text.result.now (sym c.is_empty.ensures ∙ c.if-is_empty.false)) in
    let read = rw c.behind_blanks-text.ensures.rest at c.in_err-value.ensures.fault in
    rw (← c.self.view_is, first_numeral-fault n.len n.rest.now c.in_err-value.field-0.0 c.self.invariant.0 some read) (error_is c.from_residual.result c.in_err-value.field-0.0 c.from_residual.ensures.1)

pub returns-clause-numeral : goal.returns-clause-numeral
returns-clause-numeral c =
    let n = c.self.inside in
    let value = c.in_ok-value.value in
    let fits : SFits w64 value = search rules in
    let some : 0 < length (behind_blanks n.rest.now) = rw (← c.behind_blanks-text.ensures.rest) (some_if c.behind_blanks-text.result.now (sym c.is_empty.ensures ∙ c.if-is_empty.false)) in
    let read = rw c.behind_blanks-text.ensures.rest at c.in_ok-value.ensures.value in
    rw (to_z-of_z w64 value fits, ← c.self.view_is, c.behind_blanks-text.ensures.rest) (sym (first_numeral-value n.len n.rest.now value c.self.invariant.0 some read))

pub returns-clause-rest : goal.returns-clause-rest
returns-clause-rest c =
    let n = c.self.inside in
    let some : 0 < length (behind_blanks n.rest.now) = rw (← c.behind_blanks-text.ensures.rest) (some_if c.behind_blanks-text.result.now (sym c.is_empty.ensures ∙ c.if-is_empty.false)) in
    rw (← c.self.view_is) (behind-first n.len n.rest.now _ c.self.invariant.0 some (rw c.behind_blanks-text.ensures.rest at c.in_ok-value.ensures.rest))
