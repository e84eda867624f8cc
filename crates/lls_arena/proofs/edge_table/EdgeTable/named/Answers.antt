use Rattle.std.proofs.Common.{◌<◌, length, ap, arith}
use Rattle.lls_arena.specs.Links.{EdgeTableState, pairs_in, side_in}
use Rattle.lls_arena.proofs.Paired.{AreTwos, stands}
use Rattle.lls_arena.proofs.edge_table.EdgeTable.named.Goals as goal

pub returns : goal.returns
returns c = λ k is.
    let m = c.self.inside in
    let twos : AreTwos m.edges.items = c.self.invariant in
    let lt : k < length (pairs_in m.edges.items) = omega (arith, c.requires.within k is, ap (λ (t : EdgeTableState). length t.pairs) c.self.view_is) in
    rw (← c.self.view_is) (stands m.edges.items k c.place.result (side_in c.args.link) c.index.result.now (c.place.ensures k is) lt twos c.index.ensures)
