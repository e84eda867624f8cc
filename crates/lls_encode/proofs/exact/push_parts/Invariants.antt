use Rattle.std.proofs.Common.{◌≡◌, ◌≤◌, ◌+◌, ◌-◌}
use Rattle.std.specs.List.{filter_map, range_with_len}
use Rattle.lls_problem.specs.Exact.{part_by, parts_of}
use Rattle.lls_encode.proofs.Parted.{with_parts}
use Rattle.lls_encode.proofs.exact.push_parts.Given as goal

-- with those of the numbers that are left, it is with those of all
abbrev pub invariant-loop-q : goal.invariant-loop-q
invariant-loop-q l = record {
  grown : l.fn.formula.vars ≤ l.formula.vars;
  left : with_parts l.problem l.formula (filter_map (part_by l.period) (range_with_len l.q (l.period.length + 1 - l.q))) ≡ with_parts l.problem l.fn.formula (parts_of l.period);
}
