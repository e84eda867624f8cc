use Rattle.lls_lrat.proofs.Emptied.{rest_moved}
use Rattle.lls_lrat.proofs.buffer.moved.Goals as goal

pub returns-clause-rest : goal.returns-clause-rest
returns-clause-rest c =
    rw c.copy_within.ensures.items (rest_moved c.args.lits.now.items c.args.from c.args.«end» c.args.to c.requires.start c.requires.«end» c.requires.down)
