use Rattle.std.proofs.Common.{◌<◌, ◌/◌, List, length, ap, arith}
use Rattle.std.specs.Prelude.{vec_capacity}
use Rattle.lls_arena.specs.declared.edges.Edges.{Edges}
use Rattle.lls_arena.specs.Links.{EdgeTableState, link_in, pairs_in, side_in}
use Rattle.lls_arena.proofs.Paired.{AreTwos, led_to, link_written, twos_written}
use Rattle.lls_arena.proofs.edge_table.EdgeTable.lead.Goals as goal

pub invariant_of-self : goal.invariant_of-self
invariant_of-self c =
    let m = c.self.inside in
    let to = led_to (link_in c.args.link) c.requires.leads in
    let twos : AreTwos m.edges.items = c.self.invariant in
    let lt : to.0 < length (pairs_in m.edges.items) = omega (arith, c.requires.within to.0 to.1, ap (λ (t : EdgeTableState). length t.pairs) c.self.view_is) in
    twos_written m.edges.items to.0 c.place.result (side_in c.args.link) (record { next = c.args.next; lit = c.index_mut.result.now.lit }) (c.place.ensures to.0 to.1) lt twos

pub returns : goal.returns
returns c = λ k is.
    let m = c.self.inside in
    let twos : AreTwos m.edges.items = c.self.invariant in
    let lt : k < length (pairs_in m.edges.items) = omega (arith, c.requires.within k is, ap (λ (t : EdgeTableState). length t.pairs) c.self.view_is) in
    rw (← c.self.view_is)
    (ap (λ (ps : List Edges). record { pairs = ps; room = vec_capacity m.edges / 2 }) (link_written m.edges.items k c.place.result (side_in c.args.link) c.args.next c.index_mut.result.now (c.place.ensures k is) lt twos c.index_mut.ensures.value))
