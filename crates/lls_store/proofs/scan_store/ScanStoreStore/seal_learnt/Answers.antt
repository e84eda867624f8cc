use Rattle.std.proofs.Common.{◌∙◌, ◌+◌, ◌-◌, [], ◌∷◌, length, ◌++◌, ap, subst}
use Rattle.lls_store.specs.Scan.{ScanState, IsScan}
use Rattle.lls_store.proofs.Sets.{AreWithin-from_list}
use Rattle.lls_store.proofs.Scanned.{HasMore, HasMore-sealed, IsScan-more, IsSound-more, store_of-more}
use Rattle.lls_store.proofs.scan_store.ScanStoreStore.seal_learnt.Goals as goal

has_more : (c : goal.After-seal) → HasMore c.args.self.now (record { vars = c.self.inside.vars; count = c.self.inside.count + 1; flat = c.seal.new.self }) c.args.id c.args.self.now.flat.tail
has_more c =
    HasMore-sealed c.args.self.now c.self.inside.vars (c.self.inside.count + 1) c.self.inside.clauses c.seal.new.self c.args.id c.args.self.now.flat.tail
    (ap (λ (s : ScanState). s.vars) c.self.view_is)
    (ap (λ (s : ScanState). s.count + 1) c.self.view_is)
    (ap (λ (s : ScanState). s.flat.clauses) c.self.view_is)
    (ap (λ (s : ScanState). s.flat.tail) c.self.view_is)
    (c.seal.ensures ∙ ap (λ n. record c.self.inside.clauses { clauses = c.self.inside.clauses.clauses ++ record { number = n; id = c.args.id; lits = c.self.inside.clauses.tail } ∷ []; tail = []; spare_heads = c.self.inside.clauses.spare_heads - 1; tail_room = c.self.inside.clauses.tail_room - length c.self.inside.clauses.tail }) (ap (λ (s : ScanState). s.count) c.self.view_is))

pub invariant_of-self : goal.invariant_of-self
invariant_of-self c =
    let s = c.args.self.now in
    let scan : IsScan s = subst IsScan c.self.view_is c.self.invariant in
    IsScan-more s _ c.args.id s.flat.tail (has_more c) scan c.requires.id (AreWithin-from_list s.vars s.flat.tail scan.is_tail.within) c.requires.most

pub returns-clause-state : goal.returns-clause-state
returns-clause-state c = store_of-more c.args.self.now _ c.args.id c.args.self.now.flat.tail (has_more c)

pub returns-clause-sound : goal.returns-clause-sound
returns-clause-sound c = IsSound-more c.args.self.now _ c.args.id c.args.self.now.flat.tail c.args.trail.now (has_more c) c.requires.sound
