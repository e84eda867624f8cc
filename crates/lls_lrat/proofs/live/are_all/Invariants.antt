use Rattle.lls_lit.specs.Literal.{index_of}
use Rattle.lls_lrat.specs.Occurring.{count_at}
use Rattle.lls_lrat.proofs.Occurring.{Taken}
use Rattle.lls_lrat.proofs.live.are_all.Given as goal

abbrev pub invariant-loop-id : goal.invariant-loop-id
invariant-loop-id l = Taken l.lit l.stored.all l.ids (count_at l.counts (index_of l.lit)) l.last l.left
