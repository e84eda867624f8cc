use Rattle.lls_outside.proofs.Growing.{grew_by}
use Rattle.lls_outside.proofs.line.write_line.Goals as goal

pub returns : goal.returns
returns g c = grew_by c.write_all.result _ _ _ c.write_all.ensures.ok c.write_all.ensures.err c.write_all.ensures.failed c.write_all.ensures.counts
