use Rattle.std.proofs.Common.{◌/◌, List, ap, refl}
use Rattle.std.specs.Prelude.{vec_capacity}
use Rattle.lls_arena.specs.declared.edges.Edges.{Edges}
use Rattle.lls_arena.proofs.Paired.{AreTwos, pairs_taken, twos_taken}
use Rattle.lls_arena.proofs.edge_table.EdgeTable.truncate.Goals as goal

pub invariant_of-self : goal.invariant_of-self
invariant_of-self c =
    let m = c.self.inside in
    let twos : AreTwos m.edges.items = c.self.invariant in
    rw c.truncate.ensures.items (twos_taken m.edges.items c.args.keep twos)

pub returns : goal.returns
returns c =
    let m = c.self.inside in
    rw (← c.self.view_is, c.truncate.ensures.items, c.truncate.ensures.capacity)
    (ap (λ (ps : List Edges). record { pairs = ps; room = vec_capacity m.edges / 2 }) (pairs_taken m.edges.items c.args.keep _ refl))
