use Rattle.std.proofs.Common.{◌≡◌, ℕ, ◌+◌, ◌<◌, get_or}
use Rattle.lls_order.proofs.queue.link_in_turn.Given as goal

abbrev pub invariant-loop-place : goal.invariant-loop-place
invariant-loop-place l = (k : ℕ) → k < l.place → get_or l.next (get_or l.numbers k 0) 0 ≡ get_or l.numbers (k + 1) 0
