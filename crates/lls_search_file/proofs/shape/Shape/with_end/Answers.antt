use Rattle.std.proofs.Common.{sym, ◌∙◌, arith}
use Rattle.lls_search_file.proofs.Counts.{IsShape-with_end}
use Rattle.lls_search_file.proofs.shape.Shape.with_end.Goals as goal

pub returns-clause-shape : goal.returns-clause-shape
returns-clause-shape c =
    rw c.or.ensures (IsShape-with_end c.args.self c.requires.shape (omega (arith, c.if-self-eq0.false)) (sym c.too_low.ensures ∙ c.in_default.is))
