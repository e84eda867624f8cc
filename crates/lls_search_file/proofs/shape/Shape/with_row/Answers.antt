use Rattle.std.proofs.Common.{◌≡◌, ◌≢◌, ◌∙◌, sym, inl, inr, arith}
use Rattle.lls_grid.specs.declared.history.TheConstants.History.{MOST_GENERATIONS}
use Rattle.lls_search_file.proofs.Counts.{IsShape-with_row}
use Rattle.lls_search_file.proofs.shape.Shape.with_row.Goals as goal

pub returns-clause-shape : goal.returns-clause-shape
returns-clause-shape c =
    let few : c.args.self.rows ≡ 0 → c.args.self.ended ≢ MOST_GENERATIONS = λ none. elim c.else-self-eq0.either [ inl t ↦ t.1 | inr t ↦ absurd (t none) ] in
    rw c.or.ensures (IsShape-with_row c.args.self c.args.line c.args.found c.requires.shape c.requires.cells (omega arith) few
    (sym c.ragged.ensures ∙ c.in_default.is) (sym c.too_high.ensures ∙ c.in_default-too_high.is) c.if-cells-gt-MOST_CELLS.false)
