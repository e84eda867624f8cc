use Rattle.lls_hensel.proofs.Numbers.{turn_by_masks-turned}
use Rattle.lls_hensel.proofs.class.quarter_turn.Goals as goal

pub returns : goal.returns
returns c = turn_by_masks-turned c.args.eight c.ranges.eight.fits
