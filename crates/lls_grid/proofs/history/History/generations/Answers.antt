use Rattle.std.proofs.Common.{sym}
use Rattle.lls_grid.proofs.Folded.{length-folded}
use Rattle.lls_grid.proofs.Shaped.{IsHistory-folded}
use Rattle.lls_grid.proofs.history.History.generations.Goals as goal

pub returns-clause-generations : goal.returns-clause-generations
returns-clause-generations c = rw (← c.self.view_is) (sym (length-folded _ _ _ _))

pub returns-clause-kept : goal.returns-clause-kept
returns-clause-kept c = rw (← c.self.view_is) (IsHistory-folded c.self.inside.sizes c.self.inside.cells.items c.self.invariant)
