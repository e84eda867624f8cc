use Rattle.std.proofs.Common.{◌≡◌, true}
use Rattle.std.specs.List.{list_all, range_with_len}
use Rattle.lls_images.specs.Same.{is_tie_kept}
use Rattle.lls_images.proofs.cells.are_ties_kept.Given as goal

-- the ties with the cells so far are kept
abbrev pub invariant-loop-k : goal.invariant-loop-k
invariant-loop-k l = list_all (is_tie_kept l.motion l.posed l.j) (range_with_len 0 l.k) ≡ true
