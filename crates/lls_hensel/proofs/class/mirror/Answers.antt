use Rattle.lls_hensel.proofs.Numbers.{mirror_by_masks-mirrored}
use Rattle.lls_hensel.proofs.class.mirror.Goals as goal

pub returns : goal.returns
returns c = mirror_by_masks-mirrored c.args.eight c.ranges.eight.fits
