use Rattle.std.proofs.Common.{◌≡◌, ◌++◌, map, take}
use Rattle.std.specs.List.{join_with_byte}
use Rattle.lls_grid.specs.Text.{blank, digit_word}
use Rattle.lls_grid.proofs.text.push_row.Given as goal

abbrev pub invariant-loop-x : goal.invariant-loop-x
invariant-loop-x l = l.text.items ≡ l.fn.text.items ++ join_with_byte blank (map digit_word (take l.x l.row))
