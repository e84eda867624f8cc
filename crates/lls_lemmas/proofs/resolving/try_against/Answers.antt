use Rattle.std.proofs.Common.{◌≡◌, ℕ, ◌≤◌, true, List, [], ◌∷◌, ◌++◌, Option, Some, refl, sym, ap, ◌∙◌, subst}
use Rattle.std.specs.Prelude.{ℤ, pos, IfSome, Ok}
use Rattle.std.specs.List.{list_all}
use Rattle.std.specs.FinSet as set
use Rattle.std.specs.Cmp.Derive.{both_true}
use Rattle.std.proofs.lemmas.List.Elements.{All-contains}
use Rattle.std.proofs.lemmas.List.Folds.{list_all-append}
use Rattle.lls_lit.specs.Literal.{negation}
use Rattle.lls_prooflog.specs.Range.{is_hint, is_id}
use Rattle.lls_store.specs.declared.store.TheConstants.{MOST_ID}
use Rattle.lls_store.specs.Clauses.{LiveClause, clause_numbered}
use Rattle.lls_store.specs.Store.{StoreState, AreLive}
use Rattle.lls_store.proofs.Live.{clause_numbered-contained}
use Rattle.lls_store.proofs.Values.{variable_of-negation}
use Rattle.lls_analyse.proofs.LiveClauses.{numbered}
use Rattle.lls_lemmas.specs.Closing.{is_id_hint}
use Rattle.lls_lemmas.specs.Pivot.{AreGroups, HoldsLit, ResolvesBy}
use Rattle.lls_lemmas.proofs.Groups.{groups_more, groups_passed}
use Rattle.lls_lemmas.proofs.Logs.{id_hints, id_within}
use Rattle.lls_lemmas.proofs.resolving.try_against.Goals as goal

-- the id of the clause that was found
record HasId (store : StoreState) (number id : ℕ) (l : ℤ) : Type 0 where
  holds : HoldsLit store.live number l
  same : id ≡ holds.clause.id
  low : 1 ≤ id
  high : id ≤ MOST_ID

has_id : (store : StoreState) (number id : ℕ) (l : ℤ) → AreLive store → HoldsLit store.live number l → IfSome (clause_numbered store.live number) (λ clause. id ≡ clause.id) → HasId store number id l
has_id store number id l live h told =
    let P : Option LiveClause → Type 0 = λ o. IfSome o (λ (clause : LiveClause). id ≡ clause.id) in
    let same : id ≡ h.clause.id = subst P h.is_live told in
    let fits = All-contains (λ (c : LiveClause). (1 ≤ c.id) × (c.id ≤ MOST_ID)) store.live h.clause live.ids_fit (numbered store.live number h.clause h.is_live).contains in
    let Q : ℕ → Type 0 = λ n. 1 ≤ n in
    let T : ℕ → Type 0 = λ n. n ≤ MOST_ID in
    record { holds = h; same = same; low = subst Q (sym same) fits.0; high = subst T (sym same) fits.1 }

-- hints behind a group's id, behind others
grown_in_range : (groups hints : List ℤ) (id : ℕ) → 1 ≤ id → id ≤ MOST_ID → list_all is_hint groups ≡ true → list_all is_id_hint hints ≡ true → list_all is_hint (groups ++ negation (pos id) ∷ hints) ≡ true
grown_in_range groups hints id low high all more =
    list_all-append is_hint groups (negation (pos id) ∷ hints) ∙ both_true all (both_true (ap is_id (variable_of-negation (pos id)) ∙ id_within id low high) (id_hints hints more).0)

-- the groups with one more
grown : (store : StoreState) (pivot : ℤ) (lits : List ℤ) (number id : ℕ) (tried : List ℕ) (groups hints : List ℤ) → AreLive store → HasId store number id (negation pivot) → list_all is_id_hint hints ≡ true
    → ((c : LiveClause) → clause_numbered store.live number ≡ Some c → ResolvesBy store.live pivot lits c hints) → AreGroups store.live pivot lits tried groups → AreGroups store.live pivot lits (tried ++ number ∷ []) (groups ++ negation (pos id) ∷ hints)
grown store pivot lits number id tried groups hints live i all resolves h =
    let clause = i.holds.clause in
    let n = numbered store.live number clause i.holds.is_live in
    let Q : ℕ → Type 0 = λ m. AreGroups store.live pivot lits (tried ++ m ∷ []) (groups ++ negation (pos id) ∷ hints) in
    let T : ℕ → Type 0 = λ m. AreGroups store.live pivot lits (tried ++ clause.number ∷ []) (groups ++ negation (pos m) ∷ hints) in
    let U : ℕ → Type 0 = λ m. 1 ≤ m in
    subst Q n.same (subst T (sym i.same)
    (groups_more store.live pivot lits clause tried groups hints live.ids live.numbers n.contains (subst U i.same i.low) (id_hints hints all).1 i.holds.inside (resolves clause i.holds.is_live) h))

pub returns-then-not-holds-clause-groups : goal.returns-then-not-holds-clause-groups
returns-then-not-holds-clause-groups g c = λ _ tried h.
    let s = g.S.Store.state c.args.store.now in
    groups_passed s.live c.args.pivot c.args.lits.now tried c.args.number c.args.resolving.now.groups.items
    (λ x inside same opposes.
    let found = clause_numbered-contained s.live x c.requires.live.numbers inside in
    c.if-not-holds.ensures.none refl (record {
      clause = x;
      is_live = ap (clause_numbered s.live) (sym same) ∙ found;
      inside = ap (set.contains x.lits) c.negated.ensures ∙ opposes;
    }))
    h

pub gather_resolvent-requires-clause-holds : goal.gather_resolvent-requires-clause-holds
gather_resolvent-requires-clause-holds g c =
    let P : ℤ → Type 0 = λ l. HoldsLit (g.S.Store.state c.args.store.now).live c.args.number l in
    subst P c.negated.ensures (c.if-not-holds.ensures.holds refl)

pub push_group-requires-clause-least : goal.push_group-requires-clause-least
push_group-requires-clause-least g c = (has_id (g.S.Store.state c.args.store.now) c.args.number c.id-id.result c.negated.result c.requires.live (c.if-not-holds.ensures.holds refl) c.id-id.ensures).low

pub push_group-requires-clause-most : goal.push_group-requires-clause-most
push_group-requires-clause-most g c = (has_id (g.S.Store.state c.args.store.now) c.args.number c.id-id.result c.negated.result c.requires.live (c.if-not-holds.ensures.holds refl) c.id-id.ensures).high

pub returns-clause-groups : goal.returns-clause-groups
returns-clause-groups g c = λ _ tried h.
    let s = g.S.Store.state c.args.store.now in
    let old = c.args.resolving.now.groups.items in
    let hints = c.gather_resolvent.new.gathering.hints.items in
    let e = c.gather_resolvent.ensures in
    let went = c.in_ok-resolved.was ∙ ap Ok c.if-not-resolved.false in
    let P : ℤ → Type 0 = λ l. HasId s c.args.number c.id-id.result l in
    let i = subst P c.negated.ensures (has_id s c.args.number c.id-id.result c.negated.result c.requires.live (c.if-not-holds.ensures.holds refl) c.id-id.ensures) in
    let is = c.in_ok-push_group.ensures ∙ ap (λ (gs : List ℤ). gs ++ negation (pos c.id-id.result) ∷ c.as_slice.result.now) e.groups ∙ ap (λ (hs : List ℤ). old ++ negation (pos c.id-id.result) ∷ hs) c.as_slice.ensures.value in
    subst (λ (gs : List ℤ). AreGroups s.live c.args.pivot c.args.lits.now (tried ++ c.args.number ∷ []) gs) (sym is)
    (grown s c.args.pivot c.args.lits.now c.args.number c.id-id.result tried old hints c.requires.live i (e.in_range went) (e.resolves went) h)

pub returns-clause-in_range : goal.returns-clause-in_range
returns-clause-in_range g c = λ _.
    let s = g.S.Store.state c.args.store.now in
    let old = c.args.resolving.now.groups.items in
    let hints = c.gather_resolvent.new.gathering.hints.items in
    let e = c.gather_resolvent.ensures in
    let went = c.in_ok-resolved.was ∙ ap Ok c.if-not-resolved.false in
    let i = has_id s c.args.number c.id-id.result c.negated.result c.requires.live (c.if-not-holds.ensures.holds refl) c.id-id.ensures in
    let is = c.in_ok-push_group.ensures ∙ ap (λ (gs : List ℤ). gs ++ negation (pos c.id-id.result) ∷ c.as_slice.result.now) e.groups ∙ ap (λ (hs : List ℤ). old ++ negation (pos c.id-id.result) ∷ hs) c.as_slice.ensures.value in
    subst (λ (gs : List ℤ). list_all is_hint gs ≡ true) (sym is) (grown_in_range old hints c.id-id.result i.low i.high c.requires.in_range (e.in_range went))
