use Rattle.std.proofs.Common.{◌≡◌, ◌+◌, take}
use Rattle.lls_grid.specs.History.{HasSizes, height_of, width_of}
use Rattle.lls_grid.specs.Evolution.{grown}
use Rattle.lls_grid.proofs.history.History.evolve.Given as goal

abbrev pub invariant-loop-t : goal.invariant-loop-t
invariant-loop-t l = record {
  sizes : HasSizes l.generations (height_of l.first) (width_of l.first) l.history;
  so_far : take (l.t + 1) l.history ≡ grown l.rule l.t (take 1 l.first);
}
