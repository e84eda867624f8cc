use Rattle.std.proofs.Common.{◌≡◌, ℕ, ◌+◌, ◌<◌, length, get_or}
use Rattle.lls_order.proofs.queue.lesser_numbers.Given as goal

abbrev pub invariant-loop-number : goal.invariant-loop-number
invariant-loop-number l =
    (length l.next.items ≡ l.number + 1) × (get_or l.next.items 0 0 ≡ l.vars) × ((v : ℕ) → v < l.number → get_or l.next.items (v + 1) 0 ≡ v)
