use Rattle.std.proofs.Common.{◌≡◌, ◌++◌, flat_map}
use Rattle.std.specs.List.{range_with_len}
use Rattle.lls_hensel.specs.Texts.{group_text}
use Rattle.lls_hensel.proofs.print.push_side.Given as goal

abbrev pub invariant-loop-count : goal.invariant-loop-count
invariant-loop-count l =
    l.text.items ≡ l.fn.text.items ++ flat_map (group_text l.rule l.survival) (range_with_len 0 l.count)
