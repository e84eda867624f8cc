use Rattle.std.specs.Prelude.{vec_capacity}
use Rattle.lls_store.proofs.Buffer.{flat_in-append}
use Rattle.lls_store.proofs.flat.FlatClauses.extend.Goals as goal

pub returns-clause-ok : goal.returns-clause-ok
returns-clause-ok c =
    let f = c.self.inside in
    rw (c.reserve.ensures.items, c.in_ok-extend_from_slice.ensures.items, ← c.self.view_is)
    (flat_in-append f.heads.items f.lits.items c.args.lits.now f.tail (vec_capacity f.heads) (vec_capacity c.reserve.new.self) c.self.invariant)
