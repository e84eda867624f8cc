use Rattle.std.proofs.Common.{List, ap, sym, subst, ◌∙◌}
use Rattle.lls_store.specs.Trail.{TrailState}
use Rattle.lls_store.specs.Clauses.{LiveClause}
use Rattle.lls_store.specs.Sound.{IsSound}
use Rattle.lls_store.specs.Removal.{renamed}
use Rattle.lls_store.specs.Flat.{FlatState, KeptClause, AreRenumbered}
use Rattle.lls_store.specs.Scan.{ScanState, IsScan, live_in}
use Rattle.lls_store.proofs.Compacting.{IsCompacted, IsScan-compacted, IsSound-renumbered, store_of-compacted}
use Rattle.lls_store.proofs.scan_store.ScanStoreStore.compact.Goals as goal

pub rename_reasons-requires-clause-sound : goal.rename_reasons-requires-clause-sound
rename_reasons-requires-clause-sound c =
    let same = ap (λ (s : ScanState). live_in s.flat.clauses) c.self.view_is in
    subst (λ (live : List LiveClause). IsSound live c.args.trail.now) (sym same) c.requires.sound

scan : (c : goal.After-renumber) → IsScan c.args.self.now
scan c = subst IsScan c.self.view_is c.self.invariant

is_compacted : (c : goal.After-renumber) → IsCompacted c.args.self.now (record { vars = c.self.inside.vars; count = c.len.result; flat = c.renumber.new.self })
is_compacted c = record {
  vars = ap (λ (s : ScanState). s.vars) c.self.view_is;
  count = c.len.ensures ∙ sym c.renumber.ensures.clauses.length_same;
  clauses = subst (λ (old : List KeptClause). AreRenumbered old c.renumber.new.self.clauses) (ap (λ (s : ScanState). s.flat.clauses) c.self.view_is) c.renumber.ensures.clauses;
  tail = ap (λ (f : FlatState). f.tail) c.renumber.ensures.same ∙ ap (λ (s : ScanState). s.flat.tail) c.self.view_is;
}

pub invariant_of-self : goal.invariant_of-self
invariant_of-self c = IsScan-compacted c.args.self.now _ (is_compacted c) (scan c)

pub returns-clause-state : goal.returns-clause-state
returns-clause-state c = store_of-compacted c.args.self.now _ (is_compacted c) (scan c)

pub returns-clause-sound : goal.returns-clause-sound
returns-clause-sound c =
    let P : TrailState → Type 0 = λ t. IsSound (live_in c.renumber.new.self.clauses) t in
    subst P (sym (c.rename_reasons.ensures ∙ ap (λ (s : ScanState). renamed (live_in s.flat.clauses) c.args.trail.now) c.self.view_is))
    (IsSound-renumbered c.args.self.now (record { vars = c.self.inside.vars; count = c.len.result; flat = c.renumber.new.self }) c.args.trail.now (is_compacted c) (scan c) c.requires.sound)
