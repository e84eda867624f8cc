use Rattle.std.proofs.Common.{◌≡◌}
use Rattle.std.specs.List.{flat_map, range_with_len}
use Rattle.lls_rle.specs.Printing.{rle_text}
use Rattle.lls_answers.proofs.pattern.print_pictures.Given as goal

abbrev pub invariant-loop-t : goal.invariant-loop-t
invariant-loop-t l = l.text.items ≡ flat_map (rle_text l.rule l.history) (range_with_len 0 l.t)
