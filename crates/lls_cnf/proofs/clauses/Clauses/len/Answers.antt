use Rattle.std.proofs.Common.{arith}
use Rattle.lls_cnf.proofs.Cut.{length-pieces}
use Rattle.lls_cnf.proofs.clauses.Clauses.len.Goals as goal

pub returns : goal.returns
returns c =
    rw (← c.self.view_is) (omega (arith, c.self.inside.ends.ok.0, length-pieces 0 c.self.inside.ends.items c.self.inside.lits.items))
