use Rattle.std.proofs.Common.{◌≡◌, ℕ, ◌+◌, ◌<◌, length, get_or}
use Rattle.lls_order.proofs.queue.greater_numbers.Given as goal

abbrev pub invariant-loop-number : goal.invariant-loop-number
invariant-loop-number l = (length l.previous.items ≡ l.number) × ((v : ℕ) → v < l.number → get_or l.previous.items v 0 ≡ v + 1)
