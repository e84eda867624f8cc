use Rattle.std.proofs.Common.{rules}
use Rattle.std.proofs.lemmas.List.Sorted.{IsNonDecreasingBy-from_sort_by_key}
use Rattle.lls_order.specs.Queue.{rank_of}
use Rattle.lls_order.proofs.queue.sort_by_rank.Goals as goal

pub returns-clause-sorted : goal.returns-clause-sorted
returns-clause-sorted c = IsNonDecreasingBy-from_sort_by_key (rank_of c.args.activities.now) _ c.sort_unstable_by_key.ensures.sorted (λ a r q k. search rules)
