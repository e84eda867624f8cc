use Rattle.std.proofs.Common.{◌∙◌, ap, Some}
use Rattle.lls_hensel.specs.Class.{same_letter}
use Rattle.std.specs.List.{list_any}
use Rattle.lls_hensel.proofs.Letters.{letter_among-representatives}
use Rattle.lls_hensel.proofs.group.is_letter_of.Goals as goal

pub returns : goal.returns
returns c =
    c.has_letter.ensures ∙ (ap (list_any (λ r. same_letter r.letter (Some c.args.byte))) c.representatives.ensures ∙ letter_among-representatives c.args.count c.args.byte c.requires)
