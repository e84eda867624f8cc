use Rattle.std.proofs.Common.{◌/◌, List, ap}
use Rattle.std.specs.Prelude.{vec_capacity}
use Rattle.lls_arena.specs.declared.edges.Edges.{Edges}
use Rattle.lls_arena.proofs.Paired.{AreTwos, pairs_pushed, twos_pushed}
use Rattle.lls_arena.proofs.edge_table.EdgeTable.push.Goals as goal

pub invariant_of-self : goal.invariant_of-self
invariant_of-self c =
    let m = c.self.inside in
    let twos : AreTwos m.edges.items = c.self.invariant in
    rw (c.push_reserved-2.ensures.items, c.push_reserved.ensures.items) (twos_pushed m.edges.items c.args.both.first c.args.both.second twos)

pub returns : goal.returns
returns c =
    let m = c.self.inside in
    let twos : AreTwos m.edges.items = c.self.invariant in
    rw (← c.self.view_is, c.push_reserved-2.ensures.items, c.push_reserved.ensures.items, c.push_reserved-2.ensures.capacity, c.push_reserved.ensures.capacity)
    (ap (λ (ps : List Edges). record { pairs = ps; room = vec_capacity m.edges / 2 }) (pairs_pushed m.edges.items c.args.both.first c.args.both.second twos))
