use Rattle.std.proofs.Common.{◌≡◌, length}
use Rattle.lls_arena.specs.Parts.{heads_in, spans_in}
use Rattle.lls_arena.proofs.Sliding.{AreRowsSliding}
use Rattle.lls_arena.proofs.arena.slide_live.Given as goal

abbrev pub invariant-loop-k : goal.invariant-loop-k
invariant-loop-k l = (length l.edges.pairs ≡ length l.initial.edges.pairs) × (l.edges.room ≡ l.initial.edges.room) × AreRowsSliding (heads_in l.initial.lits l.initial.edges.pairs (spans_in l.initial.spans l.initial.lives l.initial.ids)) l.edges.pairs l.spans l.lives l.ids l.lits l.k l.kept l.end
