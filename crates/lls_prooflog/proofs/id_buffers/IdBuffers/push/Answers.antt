use Rattle.std.proofs.Common.{◌++◌, List, ap, ◌∙◌}
use Rattle.std.specs.Prelude.{ℕ}
use Rattle.lls_prooflog.specs.Pieces.{Named}
use Rattle.lls_prooflog.proofs.id_buffers.IdBuffers.push.Goals as goal

pub returns-then-are_narrow-clause-narrow : goal.returns-then-are_narrow-clause-narrow
returns-then-are_narrow-clause-narrow c =
    (c.args.ids.now, c.narrowed.ensures.items ∙ ap (λ (xs : List ℕ). xs ++ c.args.ids.now) (ap (λ (n : Named). n.narrow) c.self.view_is))

pub returns-else-are_narrow-clause-wide : goal.returns-else-are_narrow-clause-wide
returns-else-are_narrow-clause-wide c =
    (c.args.ids.now, c.filled.ensures.items ∙ ap (λ (xs : List ℕ). xs ++ c.args.ids.now) (ap (λ (n : Named). n.wide) c.self.view_is))
