use Rattle.std.proofs.Common.{◌≡◌, ◌<◌, length, take, drop, Some, None, sym, ap, ◌∙◌}
use Rattle.lls_drat.specs.Number.{literal_in_bytes}
use Rattle.lls_drat.specs.Numbers.{first_len}
use Rattle.lls_drat.proofs.FirstNumbers.{some_if, next_number-literal, next_number-range, numbers_from-behind}
use Rattle.lls_drat.proofs.numbers.Numbers.next.Goals as goal

pub returns-in_default-clause-literal : goal.returns-in_default-clause-literal
returns-in_default-clause-literal c =
    let n = c.self.inside in
    let some : 0 < length n.rest.now = some_if n.rest.now (sym c.is_empty.ensures ∙ c.if-is_empty.false) in
    let front : take (first_len n.rest.now) n.rest.now ≡ c.split_at.result.0.now = ap (λ k. take k n.rest.now) (sym c.first_len.ensures.len) ∙ sym c.split_at.ensures.front in
    let range : literal_in_bytes (take (first_len n.rest.now) n.rest.now) ≡ None = ap literal_in_bytes front ∙ sym c.literal_in_bytes.ensures ∙ c.in_default.is in
    rw (← c.self.view_is) (sym (next_number-range n.place n.rest.now some range))

pub returns-clause-literal : goal.returns-clause-literal
returns-clause-literal c =
    let n = c.self.inside in
    let some : 0 < length n.rest.now = some_if n.rest.now (sym c.is_empty.ensures ∙ c.if-is_empty.false) in
    let front : take (first_len n.rest.now) n.rest.now ≡ c.split_at.result.0.now = ap (λ k. take k n.rest.now) (sym c.first_len.ensures.len) ∙ sym c.split_at.ensures.front in
    let literal : literal_in_bytes (take (first_len n.rest.now) n.rest.now) ≡ Some c.in-Some.lit = ap literal_in_bytes front ∙ sym c.literal_in_bytes.ensures ∙ c.in-Some.is in
    rw (← c.self.view_is) (sym (next_number-literal n.place n.rest.now c.in-Some.lit some literal))

pub returns-clause-rest : goal.returns-clause-rest
returns-clause-rest c =
    let n = c.self.inside in
    let some : 0 < length n.rest.now = some_if n.rest.now (sym c.is_empty.ensures ∙ c.if-is_empty.false) in
    let len : length c.split_at.result.0.now ≡ first_len n.rest.now = c.split_at.ensures.front_len ∙ c.first_len.ensures.len in
    let behind : c.split_at.result.1.now ≡ drop (first_len n.rest.now) n.rest.now = c.split_at.ensures.back ∙ ap (λ k. drop k n.rest.now) c.first_len.ensures.len in
    rw (← c.self.view_is) (numbers_from-behind n.place (length c.split_at.result.0.now) n.rest.now c.split_at.result.1.now some len behind)
