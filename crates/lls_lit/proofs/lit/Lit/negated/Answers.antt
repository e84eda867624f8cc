use Rattle.std.proofs.Common.{◌∙◌, ap}
use Rattle.lls_lit.specs.Literal.{negation}
use Rattle.lls_lit.proofs.Flipped.{literal_at-flipped}
use Rattle.lls_lit.proofs.lit.Lit.negated.Goals as goal

pub returns : goal.returns
returns c = literal_at-flipped c.self.inside.index ∙ ap negation c.self.view_is
