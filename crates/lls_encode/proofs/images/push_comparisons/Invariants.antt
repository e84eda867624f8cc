use Rattle.std.proofs.Common.{◌≡◌, length}
use Rattle.std.specs.List.{flat_map, range_with_len}
use Rattle.lls_encode.specs.Images.{comparison, changed_cells}
use Rattle.lls_encode.specs.Room.{with_more}
use Rattle.lls_encode.proofs.images.push_comparisons.Given as goal

-- the comparisons so far
abbrev pub invariant-loop-i : goal.invariant-loop-i
invariant-loop-i l =
    l.formula ≡ with_more l.fn.formula (length (changed_cells l.problem l.motion))
    (flat_map (comparison l.problem l.motion l.fn.formula.vars (changed_cells l.problem l.motion)) (range_with_len 0 l.i))
