use Rattle.std.proofs.Common.{◌≡◌, true}
use Rattle.std.specs.List.{list_all, range_with_len}
use Rattle.lls_images.specs.Same.{are_ties_kept}
use Rattle.lls_images.proofs.cells.keeps_ties.Given as goal

-- the ties of the cells so far are kept
abbrev pub invariant-loop-j : goal.invariant-loop-j
invariant-loop-j l = list_all (are_ties_kept l.motion l.posed) (range_with_len 0 l.j) ≡ true
