-- Hints, gathered from the last to the first, that lead to a conflict.
use Rattle.std.proofs.Common.{◌≡◌, ◌≢◌, ℕ, zero, suc, ◌+◌, ◌<◌, Bool, true, false, not, ◌&&◌, ◌||◌, cond, List, [], ◌∷◌, ◌++◌, take, Option, Some, None, refl, sym, ap, subst, ◌∙◌, inl, inr, arith}
use Rattle.std.specs.Prelude.{ℤ, pos, ◌⊎◌, AllPairs, Contains, slice_get}
use Rattle.std.specs.List.{list_all}
use Rattle.std.specs.Ordering.{int_eq}
use Rattle.std.specs.FinSet as set
use Rattle.std.proofs.lemmas.Bool.{and_parts}
use Rattle.std.proofs.lemmas.Bool.Decides.{Decides-int_eq}
use Rattle.std.proofs.lemmas.List.{take_more}
use Rattle.std.proofs.lemmas.List.Folds.{list_any-append}
use Rattle.std.proofs.lemmas.Option.{get_or_from_slice_get, slice_get_within}
use Rattle.lls_lit.specs.Literal.{negation}
use Rattle.lls_lit.specs.Formula.{Clause}
use Rattle.lls_lit.proofs.Flipped.{negation_twice}
use Rattle.lls_prooflog.specs.UnitWalk.{Live, is_among, remaining, at_clause, at_hint, unit_walk}
use Rattle.lls_prooflog.specs.declared.step_fault.StepFault.{StepFault}
use Rattle.lls_store.specs.Trail.{Entry, TrailState, has, HasNegated}
use Rattle.lls_store.specs.Clauses.{LiveClause, Literals, IsIn, clause_numbered}
use Rattle.lls_store.specs.Sound.{IsSound}
use Rattle.lls_store.proofs.Live.{clause_numbered-contained}
use Rattle.lls_store.proofs.Sets.{IsIn-from_Contains, Contains-from_IsIn}
use Rattle.lls_analyse.proofs.Walk.{IsSpelled, spelled, others_earlier, has_taken, later}
use Rattle.lls_lemmas.specs.Behind.{GivesClause}
use Rattle.lls_lemmas.specs.Closing.{Closes, IsMarkedBelow, IsFalseBut, MarksFalse}
use Rattle.lls_lemmas.specs.Units.{IsUnit}
use Rattle.lls_lemmas.proofs.Listing.{among_more, among_last}

-- nothing remains of literals that are all assumed
none_remains : (assumed : List ℤ) (lits : Clause) → ((m : ℤ) → Contains lits m → is_among assumed m ≡ true) → remaining assumed lits ≡ []
none_remains assumed [] all = refl
none_remains assumed (l ∷ ls) all = rw (all l (0, omega arith, refl)) (none_remains assumed ls (λ m inside. all m (later l ls m inside)))

-- of literals that are assumed but for one, only that one remains
one_remains : (assumed : List ℤ) (lits : Clause) (l : ℤ) → ((m : ℤ) → Contains lits m → m ≢ l → is_among assumed m ≡ true) → list_all (int_eq l) (remaining assumed lits) ≡ true
one_remains assumed [] l all = refl
one_remains assumed (x ∷ xs) l all = by_among (is_among assumed x) refl (one_remains assumed xs l (λ m inside. all m (later x xs m inside))) where
  by_among : (b : Bool) → is_among assumed x ≡ b → list_all (int_eq l) (remaining assumed xs) ≡ true → list_all (int_eq l) (cond (not b) (x ∷ remaining assumed xs) (remaining assumed xs)) ≡ true
  by_among true among rest = rest
  by_among false among rest = elim (int_eq l x) as (λ b. int_eq l x ≡ b → (b && list_all (int_eq l) (remaining assumed xs)) ≡ true) [
    | true ↦ λ _. rest
    | false ↦ λ other.
        let clash : false ≡ true = sym among ∙ all x (0, omega arith, refl) (λ same. let no : false ≡ true = sym other ∙ (Decides-int_eq l x).1 (sym same) in absurd cc) in
        absurd cc
  ] refl

closes_left : (hint : ℤ) (left : List ℤ) (l : ℤ) (goes_on : ℤ → Option StepFault) → list_all (int_eq l) left ≡ true → goes_on l ≡ None → at_clause hint left goes_on ≡ None
closes_left hint [] l goes_on all on = refl
closes_left hint (x ∷ xs) l goes_on all on =
    let parts = and_parts (int_eq l x) (list_all (int_eq l) xs) all in
    let same : l ≡ x = (Decides-int_eq l x).0 parts.0 in
    rw (ap (λ m. list_all (int_eq m) xs) (sym same) ∙ parts.1) (ap goes_on (sym same) ∙ on)

spelled_in : (pairs : Live) (clause : LiveClause) (s : IsSpelled pairs clause) (m : ℤ) → Contains s.lits m → IsIn clause.lits m
spelled_in pairs clause s m inside = ap (λ (ls : Literals). set.contains ls m) (sym s.same) ∙ IsIn-from_Contains s.lits m inside

-- a clause whose literals are assumed but for one comes before hints that close where that one is false too
closes_clause : (pairs : Live) (assumed hints : List ℤ) (clause : LiveClause) (s : IsSpelled pairs clause) (l : ℤ) → ((m : ℤ) → IsIn clause.lits m → m ≢ l → is_among assumed m ≡ true) → unit_walk pairs (assumed ++ negation l ∷ []) hints ≡ None → unit_walk pairs assumed (pos clause.id ∷ hints) ≡ None
closes_clause pairs assumed hints clause s l others on =
    let goes_on : ℤ → Option StepFault = λ m. unit_walk pairs (assumed ++ negation m ∷ []) hints in
    ap (λ (o : Option Clause). at_hint (pos clause.id) assumed o goes_on) s.found
    ∙ closes_left (pos clause.id) (remaining assumed s.lits) l goes_on (one_remains assumed s.lits l (λ m inside other. others m (spelled_in pairs clause s m inside) other)) on

-- a clause that is assumed whole is a conflict
closes_conflict : (pairs : Live) (assumed hints : List ℤ) (clause : LiveClause) (s : IsSpelled pairs clause) → ((m : ℤ) → IsIn clause.lits m → is_among assumed m ≡ true) → unit_walk pairs assumed (pos clause.id ∷ hints) ≡ None
closes_conflict pairs assumed hints clause s all =
    let goes_on : ℤ → Option StepFault = λ m. unit_walk pairs (assumed ++ negation m ∷ []) hints in
    ap (λ (o : Option Clause). at_hint (pos clause.id) assumed o goes_on) s.found
    ∙ ap (λ (left : List ℤ). at_clause (pos clause.id) left goes_on) (none_remains assumed s.lits (λ m inside. all m (spelled_in pairs clause s m inside)))

-- what is false in one entry more
false_more : (es : List Entry) (k : ℕ) (e : Entry) (l : ℤ) → slice_get es k ≡ Some e → HasNegated (take (k + 1) es) l → HasNegated (take k es) l ⊎ (l ≡ negation e.lit)
false_more es k e l at false_ =
    let one : take (k + 1) es ≡ take k es ++ e ∷ [] = take_more es k e (slice_get_within es k e at) ∙ ap (λ (x : Entry). take k es ++ x ∷ []) (get_or_from_slice_get es k e e at) in
    let parts : (has (take k es) (negation l) || has (e ∷ []) (negation l)) ≡ true =
    sym (list_any-append (λ (x : Entry). int_eq x.lit (negation l)) (take k es) (e ∷ [])) ∙ ap (λ (xs : List Entry). has xs (negation l)) (sym one) ∙ false_ in
    elim (has (take k es) (negation l)) as (λ b. has (take k es) (negation l) ≡ b → (b || has (e ∷ []) (negation l)) ≡ true → HasNegated (take k es) l ⊎ (l ≡ negation e.lit)) [
      | true ↦ λ is _. inl is
      | false ↦ λ _ h. inr (last (int_eq e.lit (negation l)) refl h)
    ] refl parts
  where
    last : (b : Bool) → int_eq e.lit (negation l) ≡ b → (b || false) ≡ true → l ≡ negation e.lit
    last true same h = sym (negation_twice l) ∙ ap negation (sym ((Decides-int_eq e.lit (negation l)).0 same))
    last false same h = absurd cc

module _ (live : List LiveClause) (t : TrailState) (lits : List ℤ) (k : ℕ) (e : Entry) (at : slice_get t.entries k ≡ Some e) where
  -- the literal of an entry isn't marked: nothing is needed of it
  pub closes_unmarked : (marked : Literals) (hints : List ℤ) → (IsIn marked (negation e.lit) → ⊥) → Closes live lits (IsMarkedBelow marked t.entries (k + 1)) hints → Closes live lits (IsMarkedBelow marked t.entries k) hints
  closes_unmarked marked hints none closes = λ pairs assumed spells has_lits has_needed.
      closes pairs assumed spells has_lits (λ l need. elim (false_more t.entries k e l at need.1) [
        | inl early ↦ has_needed l (need.0, early)
        | inr same ↦ absurd (none (let P : ℤ → Type 0 = λ m. IsIn marked m in subst P same need.0))
      ])

  -- or it was decided for a literal of the clause
  pub closes_decided : (marked : Literals) (hints : List ℤ) → Contains lits (negation e.lit) → Closes live lits (IsMarkedBelow marked t.entries (k + 1)) hints → Closes live lits (IsMarkedBelow marked t.entries k) hints
  closes_decided marked hints for_clause closes = λ pairs assumed spells has_lits has_needed.
      closes pairs assumed spells has_lits (λ l need. elim (false_more t.entries k e l at need.1) [
        | inl early ↦ has_needed l (need.0, early)
        | inr same ↦ has_lits l (let P : ℤ → Type 0 = λ m. Contains lits m in subst P (sym same) for_clause)
      ])

  -- or a clause forced it, whose other literals are marked
  pub closes_forced : (reason : ℕ) (clause : LiveClause) (old new : Literals) (hints : List ℤ) → IsSound live t → AllPairs (λ (a b : LiveClause). a.id ≢ b.id) live → e.reason ≡ Some reason → clause_numbered live reason ≡ Some clause → ((l : ℤ) → IsIn old l → IsIn new l) → MarksFalse live t.entries reason new
      → Closes live lits (IsMarkedBelow old t.entries (k + 1)) hints → Closes live lits (IsMarkedBelow new t.entries k) (pos clause.id ∷ hints)
  closes_forced reason clause old new hints sound ids has_reason found kept marks closes = λ pairs assumed spells has_lits has_needed.
      closes_clause pairs assumed hints clause (spelled live pairs reason clause spells ids found) e.lit
      (λ m inside other. let early = others_earlier live t k e reason clause sound at has_reason found m inside other in has_needed m (marks clause found m inside (has_taken t.entries k (negation m) early), early))
      (closes pairs (assumed ++ negation e.lit ∷ []) spells (λ l inside. among_more assumed (negation e.lit) l (has_lits l inside)) (λ l need. elim (false_more t.entries k e l at need.1) [
        | inl early ↦ among_more assumed (negation e.lit) l (has_needed l (kept l need.0, early))
        | inr same ↦ among_last assumed (negation e.lit) l same
      ]))

-- the clause at the end, whose literals are the clause's own or false
pub closes_start : (live : List LiveClause) (entries : List Entry) (lits : List ℤ) (place number : ℕ) (marked : Literals) → AllPairs (λ (a b : LiveClause). a.id ≢ b.id) live → (f : IsFalseBut live lits entries place number) → MarksFalse live entries number marked → Closes live lits (IsMarkedBelow marked entries place) (pos f.clause.id ∷ [])
closes_start live entries lits place number marked ids f marks = λ pairs assumed spells has_lits has_needed.
    closes_conflict pairs assumed [] f.clause (spelled live pairs number f.clause spells ids f.is_live) (λ m inside. elim (f.each m inside) [
      | inl own ↦ has_lits m own
      | inr early ↦ has_needed m (marks f.clause f.is_live m inside (has_taken entries place (negation m) early), early)
    ])

-- a unit clause before the hints: its literal isn't needed any more
pub closes_unit : (live : List LiveClause) (entries : List Entry) (lits : List ℤ) (v id : ℕ) (more less : ℤ → Type 0) (hints : List ℤ) → AllPairs (λ (a b : LiveClause). a.id ≢ b.id) live → AllPairs (λ (a b : LiveClause). a.number < b.number) live → (u : IsUnit live entries v id) → ((l : ℤ) → more l → less l ⊎ (l ≡ negation u.lit))
    → Closes live lits more hints → Closes live lits less (pos id ∷ hints)
closes_unit live entries lits v id more less hints ids numbers u parts closes = λ pairs assumed spells has_lits has_needed.
    let found = clause_numbered-contained live u.clause numbers u.is_live in
    let single : (m : ℤ) → IsIn u.clause.lits m → m ≡ u.lit = λ m inside. only (Contains-from_IsIn (u.lit ∷ []) m (ap (λ (ls : Literals). set.contains ls m) (sym u.single) ∙ inside)) in
    ap (λ n. unit_walk pairs assumed (pos n ∷ hints)) (sym u.same_id)
    ∙ closes_clause pairs assumed hints u.clause (spelled live pairs u.clause.number u.clause spells ids found) u.lit (λ m inside other. absurd (other (single m inside)))
    (closes pairs (assumed ++ negation u.lit ∷ []) spells (λ l inside. among_more assumed (negation u.lit) l (has_lits l inside)) (λ l need. elim (parts l need) [
      | inl left ↦ among_more assumed (negation u.lit) l (has_needed l left)
      | inr same ↦ among_last assumed (negation u.lit) l same
    ])) where
      only : {l m : ℤ} → Contains (l ∷ []) m → m ≡ l
      only (zero, lt, same) = sym same
      only (suc k, lt, same) = absurd (omega (arith, lt))

-- where nothing is needed, the hints lead to the clause
pub gives_clause : (live : List LiveClause) (lits : List ℤ) (needed : ℤ → Type 0) (hints : List ℤ) → ((l : ℤ) → needed l → ⊥) → Closes live lits needed hints → GivesClause live lits hints
gives_clause live lits needed hints none closes = λ pairs assumed spells has_lits. closes pairs assumed spells has_lits (λ l need. absurd (none l need))

-- a unit clause of one of the clause's literals leads to it
pub gives_by_unit : (live : List LiveClause) (entries : List Entry) (lits : List ℤ) (v id : ℕ) → AllPairs (λ (a b : LiveClause). a.id ≢ b.id) live → AllPairs (λ (a b : LiveClause). a.number < b.number) live → (u : IsUnit live entries v id) → Contains lits u.lit → GivesClause live lits (pos id ∷ [])
gives_by_unit live entries lits v id ids numbers u inside = λ pairs assumed spells has_lits.
    let found = clause_numbered-contained live u.clause numbers u.is_live in
    ap (λ n. unit_walk pairs assumed (pos n ∷ [])) (sym u.same_id)
    ∙ closes_conflict pairs assumed [] u.clause (spelled live pairs u.clause.number u.clause spells ids found) (λ m there.
    let same : m ≡ u.lit = only (Contains-from_IsIn (u.lit ∷ []) m (ap (λ (ls : Literals). set.contains ls m) (sym u.single) ∙ there)) in
    ap (is_among assumed) same ∙ has_lits u.lit inside)
  where
    only : {l m : ℤ} → Contains (l ∷ []) m → m ≡ l
    only (zero, lt, same) = sym same
    only (suc k, lt, same) = absurd (omega (arith, lt))
