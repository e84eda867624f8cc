use Rattle.std.proofs.Common.{◌≤◌, [], ◌∷◌, ◌++◌, length, sym, ap, subst, ◌∙◌, arith}
use Rattle.std.proofs.lemmas.List.{length_push}
use Rattle.lls_store.specs.Flat.{FlatState}
use Rattle.lls_store.specs.Scan.{ScanState, IsScan, IsTail}
use Rattle.lls_store.proofs.Tails.{IsTail-push, length-IsTail}
use Rattle.lls_store.proofs.Scanned.{IsScan-tail, room_parts}
use Rattle.lls_store.proofs.scan_store.ScanStoreStore.push_learnt.Goals as goal

pub push-requires : goal.push-requires
push-requires c =
    let s = c.args.self.now in
    let scan : IsScan s = subst IsScan c.self.view_is c.self.invariant in
    let longer : length (s.flat.tail ++ c.args.lit ∷ []) ≤ s.vars = length-IsTail s.vars _ (IsTail-push s.vars s.flat.tail c.args.lit scan.is_tail c.requires.within c.requires.new) in
    let room = room_parts s c.requires.room in
    let tail = ap (λ (x : ScanState). length x.flat.tail) c.self.view_is in
    let tail_room = ap (λ (x : ScanState). x.flat.tail_room) c.self.view_is in
    omega (arith, longer, length_push s.flat.tail c.args.lit, room.1, tail, tail_room)

pub invariant_of-self : goal.invariant_of-self
invariant_of-self c =
    let s = c.args.self.now in
    let scan : IsScan s = subst IsScan c.self.view_is c.self.invariant in
    IsScan-tail s _ (ap (λ (x : ScanState). x.vars) c.self.view_is) (ap (λ (x : ScanState). x.count) c.self.view_is) (ap (λ (f : FlatState). f.clauses) c.push.ensures ∙ ap (λ (x : ScanState). x.flat.clauses) c.self.view_is)
    (subst (IsTail s.vars) (sym (ap (λ (f : FlatState). f.tail) c.push.ensures ∙ ap (λ (x : ScanState). x.flat.tail ++ c.args.lit ∷ []) c.self.view_is)) (IsTail-push s.vars s.flat.tail c.args.lit scan.is_tail c.requires.within c.requires.new))
    scan
