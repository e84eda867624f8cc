use Rattle.std.proofs.Common.{refl}
use Rattle.lls_store.proofs.Buffer.{kept_in-remove}
use Rattle.lls_store.proofs.flat.FlatClauses.remove.Goals as goal

pub returns-clause-same : goal.returns-clause-same
returns-clause-same c =
    let f = c.self.inside in
    rw (c.remove.ensures.items, ← c.self.view_is, kept_in-remove f.lits.items f.heads.items c.args.k) refl
