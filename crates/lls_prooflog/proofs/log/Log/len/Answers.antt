use Rattle.std.proofs.Common.{arith}
use Rattle.lls_prooflog.proofs.Logged.{length-steps_in}
use Rattle.lls_prooflog.proofs.log.Log.len.Goals as goal

pub returns : goal.returns
returns c = rw (← c.self.view_is) (omega (arith, c.len.ensures, length-steps_in c.self.inside.lits.items c.self.inside.hints c.self.inside.ids c.self.inside.heads.items))
