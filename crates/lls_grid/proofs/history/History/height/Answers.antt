use Rattle.std.proofs.Common.{sym, arith}
use Rattle.lls_grid.proofs.Folded.{height_of-folded}
use Rattle.lls_grid.proofs.history.History.height.Goals as goal

pub returns : goal.returns
returns c = rw (← c.self.view_is) (sym (height_of-folded _ _ _ _ (omega (arith, c.self.invariant.generations))))
