use Rattle.std.proofs.Common.{◌∙◌, sym, ap}
use Rattle.lls_hensel.specs.Class.{classes_of}
use Rattle.lls_hensel.specs.Neighbours.{eight_of}
use Rattle.lls_hensel.proofs.Tells.{around-eight_of}
use Rattle.lls_hensel.proofs.class.class_at.Goals as goal

pub returns : goal.returns
returns c = ap classes_of (around-eight_of c.args.nine c.requires ∙ ap eight_of (sym c.around.ensures)) ∙ c.class_of.ensures
