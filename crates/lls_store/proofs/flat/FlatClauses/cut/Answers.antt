use Rattle.std.specs.Prelude.{vec_capacity}
use Rattle.lls_store.proofs.Buffer.{flat_in-take}
use Rattle.lls_store.proofs.flat.FlatClauses.cut.Goals as goal

pub returns-then-keep-len : goal.returns-then-keep-len
returns-then-keep-len c =
    let f = c.self.inside in
    rw (c.truncate.ensures.items, c.truncate.ensures.capacity, ← c.self.view_is)
    (flat_in-take f.heads.items f.lits.items f.tail c.args.keep (vec_capacity f.heads) (vec_capacity f.lits) c.self.invariant)
