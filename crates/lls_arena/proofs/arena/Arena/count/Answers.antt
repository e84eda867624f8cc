use Rattle.std.proofs.Common.{ap, length, arith}
use Rattle.lls_arena.specs.Arena.{ArenaState}
use Rattle.lls_arena.specs.Parts.{spans_in}
use Rattle.lls_arena.proofs.Heads.{length-heads_in}
use Rattle.lls_arena.proofs.Rows.{length-spans_in}
use Rattle.lls_arena.proofs.arena.Arena.count.Goals as goal

pub overflow_cast-result : goal.overflow_cast-result
overflow_cast-result c =
    let a = c.self.inside in
    omega (arith, c.len.ensures, length-spans_in a.spans.items a.lives.items a.ids.items c.self.invariant.3, c.self.invariant.0.few)

pub returns-clause-count : goal.returns-clause-count
returns-clause-count c =
    let a = c.self.inside in
    let spans = spans_in a.spans.items a.lives.items a.ids.items in
    omega (arith, c.len.ensures, length-heads_in a.lits.items a.edges.pairs spans c.self.invariant.0.watched, length-spans_in a.spans.items a.lives.items a.ids.items c.self.invariant.3, ap (λ (x : ArenaState). length x.heads) c.self.view_is)

pub returns-clause-most : goal.returns-clause-most
returns-clause-most c =
    let a = c.self.inside in
    omega (arith, c.len.ensures, length-spans_in a.spans.items a.lives.items a.ids.items c.self.invariant.3, c.self.invariant.0.few)
