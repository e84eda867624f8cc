use Rattle.std.proofs.Common.{[], ◌∷◌}
use Rattle.std.specs.Prelude.{vec_capacity}
use Rattle.lls_store.proofs.Buffer.{flat_in-append}
use Rattle.lls_store.proofs.flat.FlatClauses.push.Goals as goal

pub returns : goal.returns
returns c =
    let f = c.self.inside in
    rw (c.push_reserved.ensures.items, c.push_reserved.ensures.capacity, ← c.self.view_is)
    (flat_in-append f.heads.items f.lits.items (c.args.lit ∷ []) f.tail (vec_capacity f.heads) (vec_capacity f.lits) c.self.invariant)
