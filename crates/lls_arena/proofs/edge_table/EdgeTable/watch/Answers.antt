use Rattle.std.proofs.Common.{◌<◌, ◌/◌, List, length, ap, arith}
use Rattle.std.specs.Prelude.{vec_capacity}
use Rattle.lls_arena.specs.declared.edges.Edges.{Edges}
use Rattle.lls_arena.specs.Links.{EdgeTableState, pairs_in}
use Rattle.lls_arena.proofs.Paired.{AreTwos, lit_written, twos_written}
use Rattle.lls_arena.proofs.edge_table.EdgeTable.watch.Goals as goal

pub invariant_of-self : goal.invariant_of-self
invariant_of-self c =
    let m = c.self.inside in
    let twos : AreTwos m.edges.items = c.self.invariant in
    let lt : c.args.c < length (pairs_in m.edges.items) = omega (arith, c.requires.within, ap (λ (t : EdgeTableState). length t.pairs) c.self.view_is) in
    twos_written m.edges.items c.args.c c.place_in.result c.args.w (record { next = c.index_mut.result.now.next; lit = c.args.lit }) c.place_in.ensures lt twos

pub returns : goal.returns
returns c =
    let m = c.self.inside in
    let twos : AreTwos m.edges.items = c.self.invariant in
    let lt : c.args.c < length (pairs_in m.edges.items) = omega (arith, c.requires.within, ap (λ (t : EdgeTableState). length t.pairs) c.self.view_is) in
    rw (← c.self.view_is)
    (ap (λ (ps : List Edges). record { pairs = ps; room = vec_capacity m.edges / 2 }) (lit_written m.edges.items c.args.c c.place_in.result c.args.w c.args.lit c.index_mut.result.now c.place_in.ensures lt twos c.index_mut.ensures.value))
