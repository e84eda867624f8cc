use Rattle.lls_lemmas.proofs.Listing.{insert_has, insert_keeps, listed-push}
use Rattle.lls_lemmas.proofs.marking.mark.Goals as goal

pub returns-clause-marked : goal.returns-clause-marked
returns-clause-marked c = rw c.put.ensures (insert_has c.args.marks.now.lits c.args.lit)

pub returns-clause-kept : goal.returns-clause-kept
returns-clause-kept c = rw c.put.ensures (λ l inside. insert_keeps c.args.marks.now.lits c.args.lit l inside)

pub returns-clause-listed : goal.returns-clause-listed
returns-clause-listed c = rw (c.put.ensures, c.in_ok-push.ensures.items) (listed-push c.args.marks.now.vars c.args.marks.now.lits c.args.met.now.items c.args.lit c.requires.listed c.requires.within)
