use Rattle.std.proofs.Common.{◌≡◌, ℕ, ◌<◌, length, get_or}
use Rattle.lls_order.proofs.heap.numbers_below.Given as goal

abbrev pub invariant-loop-number : goal.invariant-loop-number
invariant-loop-number l = (length l.numbers.items ≡ l.number) × ((k : ℕ) → k < l.number → get_or l.numbers.items k 0 ≡ k)
