use Rattle.std.proofs.Common.{◌≡◌, take}
use Rattle.lls_grid.specs.Text.{history_text}
use Rattle.lls_grid.proofs.text.print_history.Given as goal

abbrev pub invariant-loop-t : goal.invariant-loop-t
invariant-loop-t l = l.text.items ≡ history_text (take l.t l.history)
