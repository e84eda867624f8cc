use Rattle.std.proofs.Common.{sym}
use Rattle.lls_grid.proofs.Shaped.{IsHistory-folded, sizes_of-folded}
use Rattle.lls_grid.proofs.history.History.sizes.Goals as goal

pub returns-clause-sizes : goal.returns-clause-sizes
returns-clause-sizes c = rw (← c.self.view_is) (sym (sizes_of-folded c.self.inside.sizes c.self.inside.cells.items c.self.invariant))

pub returns-clause-kept : goal.returns-clause-kept
returns-clause-kept c = rw (← c.self.view_is) (IsHistory-folded c.self.inside.sizes c.self.inside.cells.items c.self.invariant)
