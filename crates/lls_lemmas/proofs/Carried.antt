-- Unit clauses before the hints, and hints that are turned round.
use Rattle.std.proofs.Common.{◌≡◌, ℕ, zero, suc, ◌+◌, ◌-◌, ◌<◌, ◌≤◌, Bool, true, false, ◌||◌, List, [], ◌∷◌, ◌++◌, length, take, get_or, reverse, Option, Some, None, is_some, refl, sym, ap, subst, ◌∙◌, inl, inr, arith, append_assoc}
use Rattle.std.specs.Prelude.{ℤ, pos, Contains, IsSome, slice_get, slice_index_or, option_map, unwrap_or}
use Rattle.std.specs.List.{list_all, filter_map, cons_option}
use Rattle.std.specs.Ordering.{int_cmp, int_eq}
use Rattle.std.specs.FinSet as set
use Rattle.std.specs.Cmp.Derive.{both_true}
use Rattle.std.proofs.lemmas.Bool.{and_parts}
use Rattle.std.proofs.lemmas.Bool.Decides.{nat_tests, Decides-int_eq}
use Rattle.std.proofs.lemmas.List.{append-nil, reverse-append, take_more}
use Rattle.std.proofs.lemmas.List.Folds.{list_all-append}
use Rattle.std.proofs.lemmas.List.Elements.{All-contains, filter_map-append}
use Rattle.lls_lit.specs.Literal.{variable_of, negation}
use Rattle.lls_lit.specs.Formula.{is_literal_of}
use Rattle.lls_lit.proofs.Flipped.{negation_twice}
use Rattle.lls_prooflog.specs.Range.{is_id}
use Rattle.lls_store.specs.declared.store.TheConstants.{MOST_ID}
use Rattle.lls_store.specs.Trail.{Entry, TrailState, HasNegated, IsConsistent, IsTrail, has}
use Rattle.lls_store.specs.Clauses.{LiveClause, Literals, IsIn}
use Rattle.lls_store.specs.Store.{StoreState, AreLive}
use Rattle.lls_store.proofs.Values.{same_variable, variable_of-negation}
use Rattle.lls_analyse.proofs.Gathering.{later, first_or_later, nothing_there}
use Rattle.lls_analyse.proofs.Walk.{has_taken}
use Rattle.lls_analyse.proofs.Trails.{consistent_trail}
use Rattle.lls_analyse.specs.Hinted.{hint_of}
use Rattle.lls_lemmas.specs.Behind.{GivesClause}
use Rattle.lls_lemmas.specs.Closing.{AreListed, CarriesOver, Closes, GivesEach, IsMarkedBelow, MarksFalse, is_id_hint}
use Rattle.lls_lemmas.specs.Units.{AreIds, AreUnits, HaveUnits, IsUnit, unit_of, unit_hint}
use Rattle.lls_lemmas.proofs.Closing.{closes_start, closes_unit, gives_clause}
use Rattle.lls_lemmas.proofs.Listing.{all_pass}

pub reverse-push : (xs : List ℤ) (x : ℤ) → reverse (xs ++ x ∷ []) ≡ x ∷ reverse xs
reverse-push xs x = reverse-append xs (x ∷ [])

pub list_all-reverse : (p : ℤ → Bool) (xs : List ℤ) → list_all p xs ≡ true → list_all p (reverse xs) ≡ true
list_all-reverse p [] all = refl
list_all-reverse p (x ∷ xs) all =
    let parts = and_parts (p x) (list_all p xs) all in
    ap (list_all p) (reverse-append (x ∷ []) xs) ∙ list_all-append p (reverse xs) (x ∷ []) ∙ both_true (list_all-reverse p xs parts.1) (both_true parts.0 refl)

pub all-push : (p : ℤ → Bool) (xs : List ℤ) (x : ℤ) → list_all p xs ≡ true → p x ≡ true → list_all p (xs ++ x ∷ []) ≡ true
all-push p xs x all last = list_all-append p xs (x ∷ []) ∙ both_true all (both_true last refl)

pub id_passes : (n : ℕ) → 1 ≤ n → n ≤ 9223372036854775807 → is_id_hint (pos n) ≡ true
id_passes zero low high = absurd (omega (arith, low))
id_passes (suc n) low high = both_true (in_range (suc n) low high) refl where
  in_range : (m : ℕ) → 1 ≤ m → m ≤ 9223372036854775807 → is_id m ≡ true
  in_range m low high = grind (arith, nat_tests)

-- the ids of unit clauses are in range
pub units_in_range : (store : StoreState) (es : List Entry) (units : List (Option ℕ)) → AreLive store → AreUnits store.live es units → AreIds units
units_in_range store es units live are i id is =
    let u = are i id is in
    let fits = All-contains (λ (c : LiveClause). (1 ≤ c.id) × (c.id ≤ MOST_ID)) store.live u.clause live.ids_fit u.is_live in
    (omega (arith, fits.0, u.same_id), omega (arith, fits.1, u.same_id))

-- the literal of the unit clause of a false literal's variable is its negation
unit_negates : (live : List LiveClause) (es : List Entry) (l : ℤ) (id : ℕ) → IsConsistent es → HasNegated es l → (u : IsUnit live es (variable_of l) id) → l ≡ negation u.lit
unit_negates live es l id consistent false_ u = elim (same_variable u.lit l u.of_variable) [
  | inl same ↦ absurd (consistent l (ap (has es) (sym same) ∙ u.is_true) false_)
  | inr turned ↦ sym (negation_twice l) ∙ ap negation (sym turned)
]

-- a table whose entry of a literal's variable is the id of a unit clause
unit_at : (live : List LiveClause) (es : List Entry) (units : List (Option ℕ)) (l : ℤ) (id : ℕ) → AreUnits live es units → 1 ≤ variable_of l → unit_of units l ≡ Some id → IsUnit live es (variable_of l) id
unit_at live es units l id are low is = subst (λ v. IsUnit live es v id) (let e : variable_of l - 1 + 1 ≡ variable_of l = omega (arith, low) in e) (are (variable_of l - 1) id is)

some_not_none : {o : Option ℕ} → IsSome o → o ≡ None → ⊥
some_not_none some none = let clash : false ≡ true = sym (ap is_some none) ∙ some in absurd cc

module _ (store : StoreState) (es : List Entry) (units : List (Option ℕ)) (lits : List ℤ) (needed : ℤ → Type 0)
    (live : AreLive store) (are : AreUnits store.live es units) (consistent : IsConsistent es)
    (false_ : (l : ℤ) → needed l → HasNegated es l) (each : (l : ℤ) → needed l → IsSome (unit_of units l)) where
  -- what is needed and still to come
  abbrev Left : List ℤ → ℤ → Type 0
  Left met l = needed l × Contains met l

  -- the unit clauses of all that is needed
  pub closes_units : (met hints : List ℤ) → ((l : ℤ) → Contains met l → 1 ≤ variable_of l) → Closes store.live lits (Left met) (reverse hints) → Closes store.live lits (λ l. ⊥) (reverse (hints ++ filter_map (unit_hint units) met))
  closes_units [] hints low closes =
      let P : List ℤ → Type 0 = λ hs. Closes store.live lits (λ l. ⊥) (reverse hs) in
      subst P (sym (append-nil hints)) (λ pairs assumed spells has_lits has_needed. closes pairs assumed spells has_lits (λ l need. absurd (nothing_there l need.1)))
  closes_units (x ∷ rest) hints low closes = by_unit (unit_of units x) refl (λ hs. closes_units rest hs (λ l inside. low l (later x rest l inside))) where
    by_unit : (o : Option ℕ) → unit_of units x ≡ o → ((hs : List ℤ) → Closes store.live lits (Left rest) (reverse hs) → Closes store.live lits (λ l. ⊥) (reverse (hs ++ filter_map (unit_hint units) rest))) → Closes store.live lits (λ l. ⊥) (reverse (hints ++ cons_option (option_map pos o) (filter_map (unit_hint units) rest)))
    by_unit None is on =
        on hints (λ pairs assumed spells has_lits has_needed. closes pairs assumed spells has_lits (λ l need. elim (first_or_later x rest l need.1) [
          | inl same ↦ absurd (some_not_none (each l need.0) (ap (unit_of units) (sym same) ∙ is))
          | inr there ↦ has_needed l (need.0, there)
        ]))
    by_unit (Some id) is on =
        let u = unit_at store.live es units x id are (low x (0, omega arith, refl)) is in
        let P : List ℤ → Type 0 = λ hs. Closes store.live lits (Left rest) hs in
        let Q : List ℤ → Type 0 = λ hs. Closes store.live lits (λ l. ⊥) (reverse hs) in
        let more = closes_unit store.live es lits (variable_of x) id (Left (x ∷ rest)) (Left rest) (reverse hints) live.ids live.numbers u (λ l need. elim (first_or_later x rest l need.1) [
          | inl same ↦ inr (sym same ∙ unit_negates store.live es x id consistent (ap (λ m. has es (negation m)) same ∙ false_ l need.0) u)
          | inr there ↦ inl (need.0, there)
        ]) closes
        in
        subst Q (append_assoc hints (pos id ∷ []) (filter_map (unit_hint units) rest)) (on (hints ++ pos id ∷ []) (subst P (sym (reverse-push hints (pos id))) more))

-- one more literal
pub filter_map-take_more : (f : ℤ → Option ℤ) (lits : List ℤ) (i : ℕ) (l : ℤ) → i < length lits → l ≡ get_or lits i l → filter_map f (take (i + 1) lits) ≡ filter_map f (take i lits) ++ cons_option (f l) []
filter_map-take_more f lits i l lt is =
    ap (filter_map f) (take_more lits i l lt ∙ ap (λ m. take i lits ++ m ∷ []) (sym is)) ∙ filter_map-append f (take i lits) (l ∷ [])

-- a literal that an early entry has
pub record IsEarly (es : List Entry) (n : ℕ) (m : ℤ) : Type 0 where
  pub place : ℕ
  pub entry : Entry
  pub before : place < n
  pub at : slice_get es place ≡ Some entry
  pub same : entry.lit ≡ m

pub early : (es : List Entry) (n : ℕ) (m : ℤ) → has (take n es) m ≡ true → IsEarly es n m
early [] zero m is = absurd cc
early [] (suc n) m is = absurd cc
early (e ∷ es) zero m is = absurd cc
early (e ∷ es) (suc n) m is = by_lit (int_eq e.lit m) refl is (early es n m) where
  by_lit : (b : Bool) → int_eq e.lit m ≡ b → (b || has (take n es) m) ≡ true → (has (take n es) m ≡ true → IsEarly es n m) → IsEarly (e ∷ es) (suc n) m
  by_lit true same is rest = record { place = 0; entry = e; before = omega arith; at = refl; same = (Decides-int_eq e.lit m).0 same }
  by_lit false other is rest = (let r = rest is in record { place = suc r.place; entry = r.entry; before = omega (arith, r.before); at = r.at; same = r.same })

-- each literal that became false before the place has a unit clause
early_unit : (es : List Entry) (units : List (Option ℕ)) (base : ℕ) (l : ℤ) → HaveUnits es units base → HasNegated (take base es) l → IsSome (unit_of units l)
early_unit es units base l complete false_ =
    let e = early es base (negation l) false_ in
    let same : variable_of e.entry.lit ≡ variable_of l = ap variable_of e.same ∙ variable_of-negation l in
    let P : ℕ → Type 0 = λ v. IsSome (slice_index_or units (v - 1) None) in
    subst P same (complete e.place e.entry e.before e.at)

pub least_of : (vars : ℕ) (l : ℤ) → is_literal_of vars l ≡ true → 1 ≤ variable_of l
least_of vars l is = grind (arith, nat_tests)

-- nothing is marked
pub listed-none : (vars : ℕ) → AreListed vars set.empty []
listed-none vars = record { listed = λ l inside. absurd (nothing l inside); within = refl } where
  nothing : (l : ℤ) → IsIn set.empty l → ⊥
  nothing l inside = let clash : false ≡ true = sym (set.contains-empty int_cmp l) ∙ inside in absurd cc

-- the way back from the closing clause, with the unit clauses before it
pub gathered : (store : StoreState) (t : TrailState) (units : List (Option ℕ)) (base top closing : ℕ) (first last : Literals) (met hints final : List ℤ) → AreLive store → IsTrail t → AreUnits store.live t.entries units → HaveUnits t.entries units base
    → MarksFalse store.live t.entries closing first → CarriesOver store.live t.entries first top (hint_of store.live closing ∷ []) last base hints → AreListed t.vars last met → final ≡ reverse (hints ++ filter_map (unit_hint units) met) → GivesEach store.live t.entries top closing final
gathered store t units base top closing first last met hints final live kept are complete marks carries listed is = λ lits for_lits f.
    let es = t.entries in
    let P : List ℤ → Type 0 = λ hs. Closes store.live lits (IsMarkedBelow first es top) hs in
    let hint : pos f.clause.id ≡ hint_of store.live closing = ap (λ (o : Option LiveClause). pos (unwrap_or (option_map (λ (c : LiveClause). c.id) o) 0)) (sym f.is_live) in
    let start : Closes store.live lits (IsMarkedBelow first es top) (reverse (hint_of store.live closing ∷ [])) =
    subst P (ap (λ h. h ∷ []) hint) (closes_start store.live es lits top closing first live.ids f marks)
    in
    let back = carries lits for_lits start in
    let needed : ℤ → Type 0 = IsMarkedBelow last es base in
    let closes = closes_units store es units lits needed live are (consistent_trail t kept) (λ l need. has_taken es base (negation l) need.1) (λ l need. early_unit es units base l complete need.1)
    met hints (λ l inside. least_of t.vars l (all_pass (is_literal_of t.vars) met l listed.within inside))
    (λ pairs assumed spells has_lits has_needed. back pairs assumed spells has_lits (λ l need. has_needed l (need, listed.listed l need.0)))
    in
    let Q : List ℤ → Type 0 = λ hs. GivesClause store.live lits hs in
    subst Q (sym is) (gives_clause store.live lits (λ l. ⊥) (reverse (hints ++ filter_map (unit_hint units) met)) (λ l none. none) closes)
