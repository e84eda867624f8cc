use Rattle.lls_hensel.proofs.Numbers.{sub-flipped}
use Rattle.lls_hensel.proofs.class.flipped.Goals as goal

pub returns : goal.returns
returns c = sub-flipped c.args.eight c.ranges.eight.fits
