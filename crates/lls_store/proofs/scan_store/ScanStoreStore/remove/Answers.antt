use Rattle.std.proofs.Common.{◌≡◌, ◌≢◌, ℕ, List, Option, Some, None, ap, sym, subst, ◌∙◌}
use Rattle.std.specs.Prelude.{All, map, remove, slice_get, IsSome}
use Rattle.lls_store.specs.Clauses.{LiveClause, clause_numbered}
use Rattle.lls_store.specs.Flat.{FlatState, KeptClause}
use Rattle.lls_store.specs.Scan.{ScanState, IsScan, live_in}
use Rattle.lls_store.proofs.Numbered.{HoldsAt, holds_at, none_numbered}
use Rattle.lls_store.proofs.Removing.{HasLess, IsScan-less, IsSound-less, store_of-less}
use Rattle.lls_store.proofs.scan_store.ScanStoreStore.remove.Goals as goal

scan : (c : goal.After-remove) → IsScan c.args.self.now
scan c = subst IsScan c.self.view_is c.self.invariant

stands : (c : goal.After-remove) → HoldsAt c.args.self.now.flat.clauses c.in-Some.k c.args.c
stands c =
    holds_at c.args.self.now.flat.clauses c.in-Some.k c.args.c (scan c).are_live.numbers
    (ap (λ (s : ScanState). slice_get (map (λ (clause : KeptClause). clause.number) s.flat.clauses) c.in-Some.k) (sym c.self.view_is) ∙ c.in-Some.ensures.found)

has_less : (c : goal.After-remove) → HasLess c.args.self.now (record { vars = c.self.inside.vars; count = c.self.inside.count; flat = c.remove.new.self }) c.in-Some.k
has_less c = record {
  vars = ap (λ (s : ScanState). s.vars) c.self.view_is;
  count = ap (λ (s : ScanState). s.count) c.self.view_is;
  clauses = ap (λ (f : FlatState). f.clauses) c.remove.ensures.same ∙ ap (λ (s : ScanState). remove s.flat.clauses c.in-Some.k) c.self.view_is;
  tail = ap (λ (f : FlatState). f.tail) c.remove.ensures.same ∙ ap (λ (s : ScanState). s.flat.tail) c.self.view_is;
}

pub invariant_of-self : goal.invariant_of-self
invariant_of-self c = IsScan-less c.args.self.now _ c.in-Some.k c.args.c (has_less c) (scan c) (stands c)

pub returns-in-Some-clause-state : goal.returns-in-Some-clause-state
returns-in-Some-clause-state c = store_of-less c.args.self.now _ c.in-Some.k c.args.c (has_less c) (scan c) (stands c)

pub returns-in-Some-clause-sound : goal.returns-in-Some-clause-sound
returns-in-Some-clause-sound c = IsSound-less c.args.self.now _ c.in-Some.k c.args.c c.args.trail.now (has_less c) (scan c) (stands c) c.requires.no_reason c.requires.sound

unlike : (live : List LiveClause) (number : ℕ) (P : Type 0) → IsSome (clause_numbered live number) → clause_numbered live number ≡ None → P
unlike live number P some none = absurd (differ (clause_numbered live number) some none) where
  differ : (o : Option LiveClause) → IsSome o → o ≡ None → ⊥
  differ None is same = absurd cc
  differ (Some clause) is same = cc

pub returns-in_default-clause-state : goal.returns-in_default-clause-state
returns-in_default-clause-state c =
    let none : All (λ (clause : KeptClause). clause.number ≢ c.args.c) c.self.inside.clauses.clauses = c.in_default.ensures.none in
    unlike (live_in c.args.self.now.flat.clauses) c.args.c _ c.requires.live
    (ap (λ (s : ScanState). clause_numbered (live_in s.flat.clauses) c.args.c) (sym c.self.view_is) ∙ none_numbered c.self.inside.clauses.clauses c.args.c none)
