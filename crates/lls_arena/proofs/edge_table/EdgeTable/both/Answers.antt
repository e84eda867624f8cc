use Rattle.std.proofs.Common.{◌<◌, length, ap, arith}
use Rattle.lls_arena.specs.Links.{EdgeTableState, pairs_in}
use Rattle.lls_arena.proofs.Paired.{AreTwos, both_stand}
use Rattle.lls_arena.proofs.edge_table.EdgeTable.both.Goals as goal

pub returns : goal.returns
returns c =
    let m = c.self.inside in
    let twos : AreTwos m.edges.items = c.self.invariant in
    let lt : c.args.k < length (pairs_in m.edges.items) = omega (arith, c.requires, ap (λ (t : EdgeTableState). length t.pairs) c.self.view_is) in
    rw (← c.self.view_is) (both_stand m.edges.items c.args.k c.index.result.now c.index-2.result.now lt twos c.index.ensures c.index-2.ensures)
