use Rattle.std.proofs.Common.{subst}
use Rattle.lls_store.specs.Trail.{TrailState, IsConsistent}
use Rattle.lls_store.specs.Tables.{entries_in}
use Rattle.lls_store.proofs.Values.{consistent}
use Rattle.lls_store.proofs.trail.Trail.len.Goals as goal

pub returns-clause-consistent : goal.returns-clause-consistent
returns-clause-consistent c =
    let m = c.self.inside in
    let P : TrailState → Type 0 = λ t. IsConsistent t.entries in
    subst P c.self.view_is (consistent m.vars (entries_in m.rows.levels m.rows.reasons m.lits.items) c.self.invariant.0.is_trail.within c.self.invariant.0.is_trail.once)
