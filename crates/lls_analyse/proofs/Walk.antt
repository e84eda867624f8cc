-- Unit propagation by the hints of a learnt clause comes to a conflict: the reasons of the literals that were followed, in the order of
-- the trail, and then the conflict.
use Rattle.std.proofs.Common.{◌≡◌, ◌≢◌, ℕ, zero, suc, ◌<◌, ◌≤◌, Bool, true, false, not, ◌&&◌, ◌||◌, is_some, cond, List, [], ◌∷◌, ◌++◌, length, get_or, take, drop, map, Option, Some, None, refl, sym, ap, subst, ◌∙◌, inl, inr, arith}
use Rattle.std.specs.Prelude.{ℤ, pos, ◌⊎◌, AllPairs, Contains, slice_get, option_and_then, option_map, unwrap_or, ◌==◌}
use Rattle.std.specs.List.{list_all}
use Rattle.std.specs.Ordering.{int_eq}
use Rattle.std.specs.FinSet as set
use Rattle.std.proofs.lemmas.Cmp.{int_eq_equiv}
use Rattle.std.proofs.lemmas.Map.Views.{Contains-from_any, list_any-from_Contains}
use Rattle.std.proofs.lemmas.List.Elements.{Contains-append_left, Contains-push}
use Rattle.std.proofs.lemmas.List.Quantifiers.{position-Some}
use Rattle.std.proofs.lemmas.Option.{get_or_from_slice_get, slice_get_within}
use Rattle.std.proofs.lemmas.List.{take-append-drop}
use Rattle.std.proofs.lemmas.Bool.{and_parts, eq-eqb, ne_eqb, ltb-true, ltb-false}
use Rattle.std.proofs.Math.Dec.{ltb}
use Rattle.std.proofs.lemmas.List.Folds.{list_any_at, list_any-append}
use Rattle.std.proofs.Math.Seq.{split_at}
use Rattle.std.proofs.lemmas.Bool.Decides.{Decides-int_eq, Decides-eqb}
use Rattle.lls_lit.specs.Literal.{variable_of, negation}
use Rattle.lls_lit.specs.Formula.{Clause}
use Rattle.lls_prooflog.specs.UnitWalk.{Live, find_clause, is_among, remaining, at_clause, at_hint, unit_walk}
use Rattle.lls_prooflog.specs.declared.step_fault.StepFault.{StepFault}
use Rattle.lls_prooflog.specs.declared.step_fault.StepFault.TheVariants.{IdLive}
use Rattle.lls_store.specs.Trail.{Entry, TrailState, has, HasNegated, IsConsistent, place_of}
use Rattle.lls_store.specs.Clauses.{LiveClause, Literals, IsIn, clause_numbered}
use Rattle.lls_store.specs.Sound.{IsSound}
use Rattle.lls_store.specs.Store.{StoreState, AreLive, IsNewId}
use Rattle.lls_store.proofs.Values.{same_variable, variable_of-negation}
use Rattle.lls_store.proofs.Sets.{IsIn-from_Contains}
use Rattle.lls_lit.proofs.Flipped.{negation_twice}
use Rattle.lls_analyse.specs.Spelled.{Spells, IsGoodOver}
use Rattle.lls_analyse.specs.Hinted.{hint_at, StandsIn, IsCovered, IsFollowed}

among-from_Contains : (ls : List ℤ) (l : ℤ) → Contains ls l → is_among ls l ≡ true
among-from_Contains ls l inside = list_any-from_Contains int_eq_equiv l ls inside

Contains-from_among : (ls : List ℤ) (l : ℤ) → is_among ls l ≡ true → Contains ls l
Contains-from_among ls l among = Contains-from_any {eq = int_eq} (λ x y same. (Decides-int_eq x y).0 same) l ls among

pub later : {X : Type 0} → (x : X) (xs : List X) (y : X) → Contains xs y → Contains (x ∷ xs) y
later x xs y (k, lt, at) = (suc k, omega (arith, lt), at)

-- a live clause, as it is spelled
pub record IsSpelled (pairs : Live) (clause : LiveClause) : Type 0 where
  pub lits : Clause
  pub found : find_clause pairs clause.id ≡ Some lits
  pub same : set.from_list lits ≡ clause.lits

tail_pairs : {X : Type 0} (R : X → X → Type 0) → (c : X) (cs : List X) → AllPairs R (c ∷ cs) → AllPairs R cs
tail_pairs R c cs pairs = λ i j d lt within. pairs (suc i) (suc j) d (omega (arith, lt)) (omega (arith, within))

numbered_among : (live : List LiveClause) (number : ℕ) (clause : LiveClause) → clause_numbered live number ≡ Some clause → Contains live clause
numbered_among [] number clause found = absurd cc
numbered_among (c ∷ cs) number clause found = by_test (c.number == number) found (numbered_among cs number clause) where
  by_test : (b : Bool) → cond b (Some c) (clause_numbered cs number) ≡ Some clause → (clause_numbered cs number ≡ Some clause → Contains cs clause) → Contains (c ∷ cs) clause
  by_test true is rest = let same : c ≡ clause = cc in (0, omega arith, same)
  by_test false is rest = later c cs clause (rest is)

pub spelled : (live : List LiveClause) (pairs : Live) (number : ℕ) (clause : LiveClause) → Spells live pairs → AllPairs (λ (a b : LiveClause). a.id ≢ b.id) live → clause_numbered live number ≡ Some clause → IsSpelled pairs clause
spelled [] pairs number clause spells ids found = absurd cc
spelled (c ∷ cs) [] number clause spells ids found = absurd spells
spelled (c ∷ cs) (p ∷ ps) number clause spells ids found = by_test (c.number == number) found (spelled cs ps number clause spells.1.1 (tail_pairs (λ (a b : LiveClause). a.id ≢ b.id) c cs ids)) where
  by_test : (b : Bool) → cond b (Some c) (clause_numbered cs number) ≡ Some clause → (clause_numbered cs number ≡ Some clause → IsSpelled ps clause) → IsSpelled (p ∷ ps) clause
  by_test true is later =
      let same : c ≡ clause = cc in
      record {
        lits = p.1;
        found = ap (λ b. cond b (Some p.1) (find_clause ps clause.id)) (eq-eqb p.0 clause.id (spells.0 ∙ ap (λ (x : LiveClause). x.id) same));
        same = spells.1.0 ∙ ap (λ (x : LiveClause). x.lits) same;
      }
  by_test false is later =
      let rest = later is in
      let (k, lt, at) = numbered_among cs number clause is in
      let other : p.0 ≢ clause.id = λ same. ids 0 (suc k) clause (omega arith) (omega (arith, lt)) (sym spells.0 ∙ same ∙ ap (λ (x : LiveClause). x.id) (sym at)) in
      record { lits = rest.lits; found = ap (λ b. cond b (Some p.1) (find_clause ps clause.id)) (ne_eqb p.0 clause.id other) ∙ rest.found; same = rest.same }

-- nothing remains of literals that are all assumed
none_remains : (assumed : List ℤ) (lits : Clause) → ((m : ℤ) → Contains lits m → is_among assumed m ≡ true) → remaining assumed lits ≡ []
none_remains assumed [] all = refl
none_remains assumed (l ∷ ls) all = rw (all l (0, omega arith, refl)) (none_remains assumed ls (λ m inside. all m (later l ls m inside)))

-- of literals that are assumed but for one, only that one remains
one_remains : (assumed : List ℤ) (lits : Clause) (l : ℤ) → ((m : ℤ) → Contains lits m → m ≢ l → is_among assumed m ≡ true) → list_all (int_eq l) (remaining assumed lits) ≡ true
one_remains assumed [] l all = refl
one_remains assumed (x ∷ xs) l all = by_among (is_among assumed x) refl (one_remains assumed xs l (λ m inside. all m (later x xs m inside))) where
  unlike : false ≡ true → ⊥
  unlike clash = cc

  by_among : (b : Bool) → is_among assumed x ≡ b → list_all (int_eq l) (remaining assumed xs) ≡ true → list_all (int_eq l) (cond (not b) (x ∷ remaining assumed xs) (remaining assumed xs)) ≡ true
  by_among true among rest = rest
  by_among false among rest = elim (int_eq l x) as (λ b. int_eq l x ≡ b → (b && list_all (int_eq l) (remaining assumed xs)) ≡ true) [
    | true ↦ λ _. rest
    | false ↦ λ other. absurd (unlike (sym among ∙ all x (0, omega arith, refl) (λ same. unlike (sym other ∙ (Decides-int_eq l x).1 (sym same)))))
  ] refl

closes_at : (hint : ℤ) (left : List ℤ) (l : ℤ) (goes_on : ℤ → Option StepFault) → list_all (int_eq l) left ≡ true → goes_on l ≡ None → at_clause hint left goes_on ≡ None
closes_at hint [] l goes_on all on = refl
closes_at hint (x ∷ xs) l goes_on all on =
    let parts = and_parts (int_eq l x) (list_all (int_eq l) xs) all in
    let same : l ≡ x = (Decides-int_eq l x).0 parts.0 in
    rw (ap (λ m. list_all (int_eq m) xs) (sym same) ∙ parts.1) (ap goes_on (sym same) ∙ on)

-- a literal that no early entry has
none_early : (es : List Entry) (k : ℕ) (l : ℤ) → ((i : ℕ) (d : Entry) → i < k → i < length es → variable_of (get_or es i d).lit ≢ variable_of l) → has (take k es) l ≡ false
none_early [] zero l none = refl
none_early [] (suc k) l none = refl
none_early (e ∷ es) zero l none = refl
none_early (e ∷ es) (suc k) l none =
    let other : int_eq e.lit l ≡ false = differ e.lit l (none 0 e (omega arith) (omega arith)) in
    rw other (none_early es k l (λ i d lt within. none (suc i) d (omega (arith, lt)) (omega (arith, within)))) where
      differ : (a b : ℤ) → variable_of a ≢ variable_of b → int_eq a b ≡ false
      differ a b apart = elim (int_eq a b) as (λ t. int_eq a b ≡ t → t ≡ false) [ true ↦ λ same. absurd (apart (ap variable_of ((Decides-int_eq a b).0 same))) | false ↦ λ _. refl ] refl

-- a literal that an early entry has stands early
pub place_before : (es : List Entry) (k j : ℕ) (m : ℤ) → HasNegated (take k es) m → place_of es (variable_of m) ≡ Some j → j < k
place_before es k j m false_ at = by_test (ltb j k) refl where
  unlike : {b : Bool} → b ≡ false → b ≡ true → ⊥
  unlike is clash = cc

  by_test : (b : Bool) → ltb j k ≡ b → j < k
  by_test true lt = ltb-true j k lt
  by_test false ge = absurd (unlike (none_early es k (negation m) (λ i d lt within same. unlike ((position-Some (λ (e : Entry). variable_of e.lit == variable_of m) es j d at).2 i (omega (arith, lt, ltb-false j k ge))) (eq-eqb (variable_of (get_or es i d).lit) (variable_of m) (same ∙ variable_of-negation m)))) false_)

-- a false literal whose variable stands at a place is the negation of the literal there
pub negated_at : (es : List Entry) (k : ℕ) (e : Entry) (m : ℤ) → IsConsistent es → HasNegated es m → place_of es (variable_of m) ≡ Some k → slice_get es k ≡ Some e → negation e.lit ≡ m
negated_at es k e m consistent false_ at here =
    let found = position-Some (λ (x : Entry). variable_of x.lit == variable_of m) es k e at in
    let is : get_or es k e ≡ e = get_or_from_slice_get es k e e here in
    let same : variable_of e.lit ≡ variable_of m = ap (λ (x : Entry). variable_of x.lit) (sym is) ∙ (Decides-eqb (variable_of (get_or es k e).lit) (variable_of m)).0 found.1 in
    elim (same_variable e.lit m same) [
      | inl t ↦ absurd (consistent m (list_any_at (λ (x : Entry). int_eq x.lit m) es k e found.0 ((Decides-int_eq (get_or es k e).lit m).1 (ap (λ (x : Entry). x.lit) is ∙ t))) false_)
      | inr t ↦ ap negation t ∙ negation_twice m
    ]

-- what forced a literal: the others of the clause are false by earlier ones
pub others_earlier : (live : List LiveClause) (t : TrailState) (k : ℕ) (e : Entry) (reason : ℕ) (clause : LiveClause) → IsSound live t → slice_get t.entries k ≡ Some e → e.reason ≡ Some reason → clause_numbered live reason ≡ Some clause
    → (m : ℤ) → IsIn clause.lits m → m ≢ e.lit → HasNegated (take k t.entries) m
others_earlier live t k e reason clause sound here reasoned found m inside other =
    let lt = slice_get_within t.entries k e here in
    let splits : t.entries ≡ take k t.entries ++ e ∷ drop (suc k) t.entries =
    split_at t.entries k e lt ∙ ap (λ (x : Entry). take k t.entries ++ x ∷ drop (suc k) t.entries) (get_or_from_slice_get t.entries k e e here) in
    let forced = sound (take k t.entries) (drop (suc k) t.entries) e reason splits reasoned in
    let same : forced.clause ≡ clause = some_same forced.clause clause (sym forced.is_live ∙ found) in
    forced.others_false m (ap (λ (c : LiveClause). set.contains c.lits m) same ∙ inside) other where
      some_same : {X : Type 0} → (x y : X) → Some x ≡ Some y → x ≡ y
      some_same x y is = cc

-- what the walk stands on
pub record IsChain (live : List LiveClause) (trail : TrailState) (conflict : LiveClause) (lits : List ℤ) (places : List ℕ) : Type 0 where
  pub followed : (k : ℕ) → Contains places k → IsFollowed live trail.entries lits places k
  pub conflict_covered : (m : ℤ) → IsIn conflict.lits m → IsCovered trail.entries lits places m
  pub conflict_false : (m : ℤ) → IsIn conflict.lits m → HasNegated trail.entries m

pub has_taken : (es : List Entry) (k : ℕ) (l : ℤ) → has (take k es) l ≡ true → has es l ≡ true
has_taken es k l taken =
    ap (λ (xs : List Entry). has xs l) (sym (take-append-drop k es))
    ∙ list_any-append (λ (e : Entry). int_eq e.lit l) (take k es) (drop k es)
    ∙ ap (λ b. b || has (drop k es) l) taken

first_or_later : (k : ℕ) (ks : List ℕ) (j : ℕ) → Contains (k ∷ ks) j → (k ≡ j) ⊎ Contains ks j
first_or_later k ks j (zero, lt, at) = inl at
first_or_later k ks j (suc i, lt, at) = inr (i, omega (arith, lt), at)

first_least : (k : ℕ) (ks : List ℕ) (j : ℕ) → AllPairs (λ a b. a ≤ b) (k ∷ ks) → Contains (k ∷ ks) j → k ≤ j
first_least k ks j sorted (zero, lt, at) = omega (arith, at)
first_least k ks j sorted (suc i, lt, at) = omega (arith, sorted 0 (suc i) j (omega arith) lt, at)

hint_is : (live : List LiveClause) (es : List Entry) (lits : List ℤ) (places : List ℕ) (k : ℕ) → (f : IsFollowed live es lits places k) → hint_at live es k ≡ pos f.clause.id
hint_is live es lits places k f =
    ap (λ (o : Option LiveClause). pos (unwrap_or (option_map (λ (c : LiveClause). c.id) o) 0))
    (ap (λ (o : Option Entry). option_and_then (clause_numbered live) (option_and_then (λ (e : Entry). e.reason) o)) f.at ∙ ap (option_and_then (clause_numbered live)) f.has_reason ∙ f.is_live)

spelled_in : (pairs : Live) (clause : LiveClause) (s : IsSpelled pairs clause) (m : ℤ) → Contains s.lits m → IsIn clause.lits m
spelled_in pairs clause s m inside = ap (λ (ls : Literals). set.contains ls m) (sym s.same) ∙ IsIn-from_Contains s.lits m inside

module _ (live : List LiveClause) (trail : TrailState) (conflict : LiveClause) (lits : List ℤ) (places : List ℕ) (pairs : Live)
    (sound : IsSound live trail) (consistent : IsConsistent trail.entries) (ids : AllPairs (λ (a b : LiveClause). a.id ≢ b.id) live)
    (spells : Spells live pairs) (chain : IsChain live trail conflict lits places) (last : IsSpelled pairs conflict) where
  -- each covered literal is assumed already, or will be
  Known : List ℤ → List ℕ → Type 0
  Known assumed rest = (m : ℤ) → HasNegated trail.entries m → IsCovered trail.entries lits places m → (is_among assumed m ≡ true) ⊎ StandsIn trail.entries rest m

  none_left : (assumed : List ℤ) → Known assumed [] → (m : ℤ) → Contains last.lits m → is_among assumed m ≡ true
  unfolding Known
  none_left assumed known m inside =
      let is_in = spelled_in pairs conflict last m inside in
      elim (known m (chain.conflict_false m is_in) (chain.conflict_covered m is_in)) [
        | inl among ↦ among
        | inr stands ↦ absurd (nowhere stands.place stands.among)
      ] where
        nowhere : (j : ℕ) → Contains [] j → ⊥
        nowhere j (i, lt, at) = omega (arith, lt)

  others_assumed : (assumed : List ℤ) (k : ℕ) (ks : List ℕ) (f : IsFollowed live trail.entries lits places k) → Known assumed (k ∷ ks) → AllPairs (λ a b. a ≤ b) (k ∷ ks) → (m : ℤ) → IsIn f.clause.lits m → m ≢ f.entry.lit → is_among assumed m ≡ true
  unfolding Known
  others_assumed assumed k ks f known sorted m inside other =
      let early = others_earlier live trail k f.entry f.reason f.clause sound f.at f.has_reason f.is_live m inside other in
      elim (known m (has_taken trail.entries k (negation m) early) (f.others m inside other)) [
        | inl among ↦ among
        | inr stands ↦ absurd (omega (arith, place_before trail.entries k stands.place m early stands.at, first_least k ks stands.place sorted stands.among))
      ]

  known_more : (assumed : List ℤ) (k : ℕ) (ks : List ℕ) (f : IsFollowed live trail.entries lits places k) → Known assumed (k ∷ ks) → Known (assumed ++ negation f.entry.lit ∷ []) ks
  unfolding Known
  known_more assumed k ks f known = λ m false_ covered.
      elim (known m false_ covered) [
        | inl among ↦ inl (among-from_Contains (assumed ++ negation f.entry.lit ∷ []) m (Contains-append_left assumed (negation f.entry.lit ∷ []) m (Contains-from_among assumed m among)))
        | inr stands ↦ elim (first_or_later k ks stands.place stands.among) [
          | inl same ↦
              let is : negation f.entry.lit ≡ m = negated_at trail.entries k f.entry m consistent false_ (stands.at ∙ ap Some (sym same)) f.at in
              inl (among-from_Contains (assumed ++ negation f.entry.lit ∷ []) m (let P : ℤ → Type 0 = λ l. Contains (assumed ++ negation f.entry.lit ∷ []) l in subst P is (Contains-push assumed (negation f.entry.lit))))
          | inr rest ↦ inr (record { place = stands.place; at = stands.at; among = rest })
        ]
      ]

  walk : (rest : List ℕ) (assumed : List ℤ) → Known assumed rest → AllPairs (λ a b. a ≤ b) rest → ((k : ℕ) → Contains rest k → Contains places k) → unit_walk pairs assumed (map (hint_at live trail.entries) rest ++ pos conflict.id ∷ []) ≡ None
  walk [] assumed known sorted within =
      let goes_on : ℤ → Option StepFault = λ l. unit_walk pairs (assumed ++ negation l ∷ []) [] in
      ap (λ (o : Option Clause). at_hint (pos conflict.id) assumed o goes_on) last.found
      ∙ ap (λ (left : List ℤ). at_clause (pos conflict.id) left goes_on) (none_remains assumed last.lits (none_left assumed known))
  walk (k ∷ ks) assumed known sorted within =
      let f = chain.followed k (within k (0, omega arith, refl)) in
      let spelt = spelled live pairs f.reason f.clause spells ids f.is_live in
      let hints = map (hint_at live trail.entries) ks ++ pos conflict.id ∷ [] in
      let goes_on : ℤ → Option StepFault = λ l. unit_walk pairs (assumed ++ negation l ∷ []) hints in
      ap (λ hint. unit_walk pairs assumed (hint ∷ hints)) (hint_is live trail.entries lits places k f)
      ∙ ap (λ (o : Option Clause). at_hint (pos f.clause.id) assumed o goes_on) spelt.found
      ∙ closes_at (pos f.clause.id) (remaining assumed spelt.lits) f.entry.lit goes_on
      (one_remains assumed spelt.lits f.entry.lit (λ m inside other. others_assumed assumed k ks f known sorted m (spelled_in pairs f.clause spelt m inside) other))
      (walk ks (assumed ++ negation f.entry.lit ∷ []) (known_more assumed k ks f known) (tail_pairs (λ a b. a ≤ b) k ks sorted) (λ j inside. within j (later k ks j inside)))

-- the hints of the places, in order, and then the conflict's
pub unit_walk-places : (live : List LiveClause) (trail : TrailState) (number : ℕ) (conflict : LiveClause) (lits : List ℤ) (places : List ℕ) (pairs : Live)
    → IsSound live trail → IsConsistent trail.entries → AllPairs (λ (a b : LiveClause). a.id ≢ b.id) live → Spells live pairs → clause_numbered live number ≡ Some conflict
    → IsChain live trail conflict lits places → AllPairs (λ a b. a ≤ b) places
    → unit_walk pairs lits (map (hint_at live trail.entries) places ++ pos conflict.id ∷ []) ≡ None
unfolding Known
unit_walk-places live trail number conflict lits places pairs sound consistent ids spells found chain sorted =
    walk live trail conflict lits places pairs sound consistent ids spells chain (spelled live pairs number conflict spells ids found) places lits
    (λ m false_ covered. elim covered [ inl inside ↦ inl (among-from_Contains lits m inside) | inr stands ↦ inr stands ]) sorted (λ k inside. inside)

-- no list that spells the live clauses has a new id
new_id : (live : List LiveClause) (pairs : Live) (id : ℕ) → Spells live pairs → ((clause : LiveClause) → Contains live clause → clause.id ≢ id) → find_clause pairs id ≡ None
new_id [] [] id spells new = refl
new_id [] (p ∷ ps) id spells new = absurd spells
new_id (c ∷ cs) [] id spells new = absurd spells
new_id (c ∷ cs) (p ∷ ps) id spells new =
    ap (λ b. cond b (Some p.1) (find_clause ps id)) (ne_eqb p.0 id (λ same. new c (0, omega arith, refl) (sym spells.0 ∙ same)))
    ∙ new_id cs ps id spells.1.1 (λ clause inside. new clause (later c cs clause inside))

-- so the addition is good, however the clauses are spelled
pub IsGoodOver-places : (store : StoreState) (trail : TrailState) (number id : ℕ) (conflict : LiveClause) (lits : List ℤ) (places : List ℕ)
    → AreLive store → IsSound store.live trail → IsConsistent trail.entries → IsNewId store.live id → clause_numbered store.live number ≡ Some conflict
    → IsChain store.live trail conflict lits places → AllPairs (λ a b. a ≤ b) places
    → IsGoodOver store.live id lits (map (hint_at store.live trail.entries) places ++ pos conflict.id ∷ [])
IsGoodOver-places store trail number id conflict lits places are_live sound consistent new found chain sorted = λ pairs spells.
    let hints = map (hint_at store.live trail.entries) places ++ pos conflict.id ∷ [] in
    ap (λ (o : Option Clause). cond (is_some o) (Some (IdLive id)) (unit_walk pairs lits hints)) (new_id store.live pairs id spells new.new)
    ∙ unit_walk-places store.live trail number conflict lits places pairs sound consistent are_live.ids spells found chain sorted
