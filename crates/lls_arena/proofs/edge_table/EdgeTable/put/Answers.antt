use Rattle.std.proofs.Common.{◌<◌, ◌/◌, List, length, ap, refl, arith}
use Rattle.std.specs.Prelude.{vec_capacity}
use Rattle.lls_arena.specs.declared.edges.Edges.{Edges}
use Rattle.lls_arena.specs.Links.{EdgeTableState, pairs_in}
use Rattle.lls_arena.proofs.Paired.{AreTwos, pair_written, twos_put}
use Rattle.lls_arena.proofs.edge_table.EdgeTable.put.Goals as goal

pub invariant_of-self : goal.invariant_of-self
invariant_of-self c =
    let m = c.self.inside in
    let twos : AreTwos m.edges.items = c.self.invariant in
    let lt : c.args.k < length (pairs_in m.edges.items) = omega (arith, c.requires, ap (λ (t : EdgeTableState). length t.pairs) c.self.view_is) in
    twos_put m.edges.items c.args.k c.args.both.first c.args.both.second lt twos

pub returns : goal.returns
returns c =
    let m = c.self.inside in
    let twos : AreTwos m.edges.items = c.self.invariant in
    let lt : c.args.k < length (pairs_in m.edges.items) = omega (arith, c.requires, ap (λ (t : EdgeTableState). length t.pairs) c.self.view_is) in
    rw (← c.self.view_is)
    (ap (λ (ps : List Edges). record { pairs = ps; room = vec_capacity m.edges / 2 }) (pair_written m.edges.items c.args.k _ _ c.args.both.first c.args.both.second refl refl lt))
