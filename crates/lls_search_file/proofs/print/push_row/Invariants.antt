use Rattle.std.proofs.Common.{◌≡◌, ◌++◌, map, take}
use Rattle.std.specs.List.{join_with_byte}
use Rattle.lls_grid.specs.Text.{blank}
use Rattle.lls_search_file.specs.Printing.{word_text}
use Rattle.lls_search_file.proofs.print.push_row.Given as goal

abbrev pub invariant-loop-x : goal.invariant-loop-x
invariant-loop-x l = l.text.items ≡ l.fn.text.items ++ join_with_byte blank (map (word_text l.names) (take l.x l.row))
