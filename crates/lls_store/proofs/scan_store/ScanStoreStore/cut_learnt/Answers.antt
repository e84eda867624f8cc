use Rattle.std.proofs.Common.{refl, ap}
use Rattle.lls_store.specs.Flat.{FlatState}
use Rattle.lls_store.proofs.Tails.{IsTail-take}
use Rattle.lls_store.proofs.Scanned.{IsScan-tail}
use Rattle.lls_store.proofs.scan_store.ScanStoreStore.cut_learnt.Goals as goal

pub invariant_of-self : goal.invariant_of-self
invariant_of-self c =
    let old = c.self.inside in
    IsScan-tail (record { vars = old.vars; count = old.count; flat = old.clauses }) _ refl refl (ap (λ (f : FlatState). f.clauses) c.cut.ensures)
    (rw c.cut.ensures (IsTail-take old.vars c.args.keep old.clauses.tail c.self.invariant.is_tail))
    c.self.invariant
