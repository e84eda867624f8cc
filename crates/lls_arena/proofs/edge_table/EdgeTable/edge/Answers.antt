use Rattle.std.proofs.Common.{◌<◌, length, ap, arith}
use Rattle.lls_arena.specs.Links.{EdgeTableState, pairs_in}
use Rattle.lls_arena.proofs.Paired.{AreTwos, stands}
use Rattle.lls_arena.proofs.edge_table.EdgeTable.edge.Goals as goal

pub returns : goal.returns
returns c =
    let m = c.self.inside in
    let twos : AreTwos m.edges.items = c.self.invariant in
    let lt : c.args.c < length (pairs_in m.edges.items) = omega (arith, c.requires.within, ap (λ (t : EdgeTableState). length t.pairs) c.self.view_is) in
    rw (← c.self.view_is) (stands m.edges.items c.args.c c.place_in.result c.args.w c.index.result.now c.place_in.ensures lt twos c.index.ensures)
