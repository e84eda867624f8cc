use Rattle.lls_symmetry.specs.Symmetry.{generator_at}
use Rattle.lls_symmetry.proofs.Grids.{fits-square}
use Rattle.lls_symmetry.proofs.Laws.{times-order, motion_laws}
use Rattle.lls_symmetry.proofs.symmetry.image.Goals as goal

pub returns-clause-back : goal.returns-clause-back
returns-clause-back c =
    times-order (generator_at c.args.symmetry c.args.generator) c.args.height c.args.width
    (fits-square c.args.symmetry c.args.height c.args.width c.args.generator c.requires.fits c.requires.generator)

pub returns-clause-laws : goal.returns-clause-laws
returns-clause-laws c = motion_laws c.args.height c.args.width
