use Rattle.std.proofs.Common.{◌≡◌, ◌++◌, true, List, length, map, sym, ap, ◌∙◌}
use Rattle.std.specs.Prelude.{ℕ, ℤ}
use Rattle.std.specs.List.{list_all}
use Rattle.std.proofs.lemmas.List.{length-map}
use Rattle.lls_lit.specs.Literal.{variable_of}
use Rattle.lls_prooflog.specs.Pieces.{Hinted, is_narrow_hint}
use Rattle.lls_prooflog.proofs.Pieces.{last_piece, narrow_sizes}
use Rattle.lls_prooflog.proofs.hint_buffers.HintBuffers.push.Goals as goal

pub returns-then-are_narrow-clause-narrow : goal.returns-then-are_narrow-clause-narrow
returns-then-are_narrow-clause-narrow c =
    let more = map variable_of c.args.hints.now in
    (more, c.narrowed.ensures.items ∙ ap (λ (xs : List ℕ). xs ++ more) (ap (λ (h : Hinted). h.narrow) c.self.view_is))

pub returns-then-are_narrow-clause-hints : goal.returns-then-are_narrow-clause-hints
returns-then-are_narrow-clause-hints c =
    let hints = c.args.hints.now in
    let more = map variable_of hints in
    let same : length hints ≡ length more = sym (length-map hints variable_of) in
    let narrow : list_all is_narrow_hint hints ≡ true = sym c.are_narrow.ensures ∙ c.if-are_narrow.true in
    rw (c.narrowed.ensures.span, c.narrowed.ensures.items, same, last_piece c.self.inside.narrow.items more) (narrow_sizes hints narrow)

pub returns-else-are_narrow-clause-wide : goal.returns-else-are_narrow-clause-wide
returns-else-are_narrow-clause-wide c =
    (c.args.hints.now, c.filled.ensures.items ∙ ap (λ (xs : List ℤ). xs ++ c.args.hints.now) (ap (λ (h : Hinted). h.wide) c.self.view_is))
