use Rattle.std.proofs.Common.{◌+◌, ◌-◌, [], ◌∷◌, length, List, ◌++◌, sym, ap, subst, ◌∙◌}
use Rattle.std.specs.Prelude.{ℤ}
use Rattle.lls_store.specs.Flat.{FlatState}
use Rattle.lls_store.specs.Store.{with_clause}
use Rattle.lls_store.specs.Scan.{ScanState, IsScan, store_of}
use Rattle.lls_store.proofs.Sets.{AreWithin-from_list}
use Rattle.lls_store.proofs.Scanned.{HasMore, HasMore-sealed, IsScan-more, IsSound-more, IsSound-same, store_of-more}
use Rattle.lls_store.proofs.scan_store.ScanStoreStore.add.Goals as goal

pub returns-in_err-reserve_heads-clause-sound : goal.returns-in_err-reserve_heads-clause-sound
returns-in_err-reserve_heads-clause-sound c =
    IsSound-same c.args.self.now.flat.clauses c.reserve_heads.new.self.clauses c.args.trail.now
    (ap (λ (f : FlatState). f.clauses) c.in_err-reserve_heads.ensures.same ∙ ap (λ (s : ScanState). s.flat.clauses) c.self.view_is)
    c.requires.sound

pub returns-in_err-extend-clause-sound : goal.returns-in_err-extend-clause-sound
returns-in_err-extend-clause-sound c =
    IsSound-same c.args.self.now.flat.clauses c.extend.new.self.clauses c.args.trail.now
    (ap (λ (f : FlatState). f.clauses) c.in_err-extend.ensures.err ∙ ap (λ (f : FlatState). f.clauses) c.in_ok-reserve_heads.ensures.same ∙ ap (λ (s : ScanState). s.flat.clauses) c.self.view_is)
    c.requires.sound

has_more : (c : goal.After-seal) → HasMore c.args.self.now (record { vars = c.self.inside.vars; count = c.self.inside.count + 1; flat = c.seal.new.self }) c.args.id c.args.lits.now
has_more c =
    HasMore-sealed c.args.self.now c.self.inside.vars (c.self.inside.count + 1) c.extend.new.self c.seal.new.self c.args.id c.args.lits.now
    (ap (λ (s : ScanState). s.vars) c.self.view_is)
    (ap (λ (s : ScanState). s.count + 1) c.self.view_is)
    (ap (λ (f : FlatState). f.clauses) c.in_ok-extend.ensures.ok ∙ ap (λ (f : FlatState). f.clauses) c.in_ok-reserve_heads.ensures.same ∙ ap (λ (s : ScanState). s.flat.clauses) c.self.view_is)
    (ap (λ (f : FlatState). f.tail) c.in_ok-extend.ensures.ok ∙ ap (λ (tail : List ℤ). tail ++ c.args.lits.now) (ap (λ (f : FlatState). f.tail) c.in_ok-reserve_heads.ensures.same ∙ ap (λ (s : ScanState). s.flat.tail) c.self.view_is ∙ c.requires.tail))
    (c.seal.ensures ∙ ap (λ n. record c.extend.new.self { clauses = c.extend.new.self.clauses ++ record { number = n; id = c.args.id; lits = c.extend.new.self.tail } ∷ []; tail = []; spare_heads = c.extend.new.self.spare_heads - 1; tail_room = c.extend.new.self.tail_room - length c.extend.new.self.tail }) (ap (λ (s : ScanState). s.count) c.self.view_is))

pub invariant_of-self-2 : goal.invariant_of-self-2
invariant_of-self-2 c =
    let s = c.args.self.now in
    let scan : IsScan s = subst IsScan c.self.view_is c.self.invariant in
    IsScan-more s _ c.args.id c.args.lits.now (has_more c) scan c.requires.id (AreWithin-from_list s.vars c.args.lits.now c.requires.within) c.requires.most

pub returns-clause-ok : goal.returns-clause-ok
returns-clause-ok c =
    store_of-more c.args.self.now _ c.args.id c.args.lits.now (has_more c)
    ∙ ap (λ (tail : List ℤ). record (with_clause (store_of c.args.self.now) c.args.id c.args.lits.now) { tail = tail }) (sym c.requires.tail)

pub returns-clause-sound : goal.returns-clause-sound
returns-clause-sound c = IsSound-more c.args.self.now _ c.args.id c.args.lits.now c.args.trail.now (has_more c) c.requires.sound
