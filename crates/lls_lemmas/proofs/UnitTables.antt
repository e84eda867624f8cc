-- A table of unit clauses that grows.
use Rattle.std.proofs.Common.{◌≡◌, ◌≢◌, ℕ, ◌+◌, ◌-◌, ◌<◌, true, false, List, [], ◌∷◌, ◌++◌, length, take, set, Option, Some, None, is_none, refl, sym, ap, subst, ◌∙◌, inl, inr, arith}
use Rattle.std.specs.Prelude.{ℤ, ◌⊎◌, ◌==◌, Contains, IsSome, IfSome, slice_get, slice_index_or, slice_set}
use Rattle.std.specs.Ordering.{int_eq}
use Rattle.std.specs.FinSet as set
use Rattle.std.proofs.lemmas.Bool.Decides.{nat_tests, Decides-int_eq, Decides-eqb}
use Rattle.std.proofs.lemmas.List.{get_or-set_other, length-set}
use Rattle.std.proofs.lemmas.List.Elements.{Contains-append_left, Contains-append_right, Contains-push_cases}
use Rattle.std.proofs.lemmas.Grind.{get_or-set_at}
use Rattle.std.proofs.lemmas.Option.{same_Some, slice_get_within, slice_get-get_or}
use Rattle.lls_lit.specs.Literal.{variable_of}
use Rattle.lls_store.specs.Trail.{Entry, TrailState, has, Has, HasNegated, IsTrail, literals_of, reason_of}
use Rattle.lls_store.specs.Clauses.{LiveClause, clause_numbered}
use Rattle.lls_store.specs.Closed.{IsSettled}
use Rattle.lls_store.specs.Closed.IsSettled.{satisfied}
use Rattle.lls_store.specs.Sound.{IsForced, IsSound}
use Rattle.lls_store.specs.Store.{StoreState, with_clause}
use Rattle.lls_store.proofs.Sets.{IsIn-from_Contains}
use Rattle.lls_store.proofs.SoundChanges.{IsSound-push, clause_numbered-push}
use Rattle.lls_analyse.proofs.LiveClauses.{numbered}
use Rattle.lls_analyse.proofs.Trails.{has_here, none_decided}
use Rattle.lls_lemmas.specs.Behind.{GivesClause}
use Rattle.lls_lemmas.specs.Closing.{DecidesFor, GivesEach}
use Rattle.lls_lemmas.specs.Finding.{HasLiterals}
use Rattle.lls_lemmas.specs.Units.{HasUnits, IsUnit, StoreGrows, unit_of}
use Rattle.lls_lemmas.proofs.Reading.{IsRead, is_read, forced_at}

reason_there : {o : Option ℕ} → is_none o ≡ false → (x : ℕ) × (o ≡ Some x)
reason_there {o = None} is = absurd cc
reason_there {o = Some x} is = (x, refl)

-- the clause that forced the literal at a place of a trail at level 0
pub record IsForcedAt (live : List LiveClause) (t : TrailState) (k : ℕ) (l : ℤ) : Type 0 where
  pub read : IsRead t k l
  pub reason : ℕ
  pub is_reason : reason_of t.entries (variable_of l) ≡ Some reason
  pub forced : IsForced live (take k t.entries) l reason

pub forced_place : (live : List LiveClause) (t : TrailState) (k : ℕ) (l : ℤ) → IsTrail t → t.current ≡ 0 → IsSound live t → slice_get (literals_of t.entries) k ≡ Some l → IsForcedAt live t k l
forced_place live t k l kept level sound is =
    let r = is_read t k l kept is in
    let reason = reason_there (none_decided t k r.entry kept level r.at) in
    let P : ℤ → Type 0 = λ m. IsForced live (take k t.entries) m reason.0 in
    record { read = r; reason = reason.0; is_reason = r.is_reason ∙ reason.1; forced = subst P r.same (forced_at live t k r.entry reason.0 sound r.at reason.1) }

-- at level 0 nothing was decided
pub none_for : (t : TrailState) (lits : List ℤ) → IsTrail t → t.current ≡ 0 → DecidesFor lits t.entries
none_for t lits kept level = λ e inside none.
    let k = inside.0 in
    let at : slice_get t.entries k ≡ Some e = slice_get-get_or t.entries k e inside.1 ∙ ap (λ (x : Entry). Some x) inside.2 in
    let reason = reason_there (none_decided t k e kept level at) in
    let clash : None ≡ Some reason.0 = sym none ∙ reason.1 in
    absurd cc

-- so a reason and what comes before it give the literal
pub gives_unit : (live : List LiveClause) (t : TrailState) (k number : ℕ) (l : ℤ) (hints : List ℤ) → IsTrail t → t.current ≡ 0 → IsForced live (take k t.entries) l number → GivesEach live t.entries k number hints → GivesClause live (l ∷ []) hints
gives_unit live t k number l hints kept level f gives =
    gives (l ∷ []) (none_for t (l ∷ []) kept level) (record {
      clause = f.clause;
      is_live = f.is_live;
      each = λ m inside.
          elim (int_eq m l) as (λ b. int_eq m l ≡ b → Contains (l ∷ []) m ⊎ HasNegated (take k t.entries) m) [
            | true ↦ λ same. inl (0, omega arith, sym ((Decides-int_eq m l).0 same))
            | false ↦ λ other. inr (f.others_false m inside (λ same. let clash : false ≡ true = sym other ∙ (Decides-int_eq m l).1 same in absurd cc))
          ] refl;
    })

-- a live clause of a literal alone is a unit clause
pub unit_found : (store : StoreState) (t : TrailState) (k number id : ℕ) (l : ℤ) → IsRead t k l → (h : HasLiterals store.live number (l ∷ [])) → IfSome (clause_numbered store.live number) (λ clause. id ≡ clause.id) → IsUnit store.live t.entries (variable_of l) id
unit_found store t k number id l r h is_id =
    let P : Option LiveClause → Type 0 = λ o. IfSome o (λ (clause : LiveClause). id ≡ clause.id) in
    record {
      clause = h.clause;
      lit = l;
      is_live = (numbered store.live number h.clause h.is_live).contains;
      same_id = sym (subst P h.is_live is_id);
      single = sym h.same;
      is_true = ap (has t.entries) (sym r.same) ∙ has_here t.entries k r.entry r.at;
      of_variable = refl;
    }

-- and so is a clause of it that is added
pub unit_added : (store : StoreState) (t : TrailState) (k id : ℕ) (l : ℤ) → IsRead t k l → IsUnit (with_clause store id (l ∷ [])).live t.entries (variable_of l) id
unit_added store t k id l r =
    let clause : LiveClause = record { number = store.count; id = id; lits = set.from_list (l ∷ []) } in
    record {
      clause = clause;
      lit = l;
      is_live = Contains-append_right store.live (clause ∷ []) clause (0, omega arith, refl);
      same_id = refl;
      single = refl;
      is_true = ap (has t.entries) (sym r.same) ∙ has_here t.entries k r.entry r.at;
      of_variable = refl;
    }

pub store_stays : (t : TrailState) (store : StoreState) → StoreGrows t store store
store_stays t store = record { kept = λ number clause found. found; closed = λ closed. closed }

pub store_then : (t : TrailState) (a b c : StoreState) → StoreGrows t a b → StoreGrows t b c → StoreGrows t a c
store_then t a b c first second = record { kept = λ number clause found. second.kept number clause (first.kept number clause found); closed = λ closed. second.closed (first.closed closed) }

-- a clause with a true literal comes behind
pub store_more : (t : TrailState) (store : StoreState) (id : ℕ) (l : ℤ) → Has t.entries l → StoreGrows t store (with_clause store id (l ∷ []))
store_more t store id l true_ =
    let new : LiveClause = record { number = store.count; id = id; lits = set.from_list (l ∷ []) } in
    record {
      kept = λ number clause found. clause_numbered-push store.live new clause number found;
      closed = λ closed clause inside. elim (Contains-push_cases store.live new clause inside) [
        | inl old ↦ closed clause old
        | inr same ↦ (
            let P : LiveClause → Type 0 = λ c. IsSettled t.entries c.lits in
            subst P same (satisfied l (IsIn-from_Contains (l ∷ []) l (0, omega arith, refl)) true_))
      ];
    }

unit_kept : (live : List LiveClause) (new : LiveClause) (es : List Entry) (v id : ℕ) → IsUnit live es v id → IsUnit (live ++ new ∷ []) es v id
unit_kept live new es v id u = record { clause = u.clause; lit = u.lit; is_live = Contains-append_left live (new ∷ []) u.clause u.is_live; same_id = u.same_id; single = u.single; is_true = u.is_true; of_variable = u.of_variable }

-- the units of a store to which a clause came
pub units_more : (store : StoreState) (t : TrailState) (units : List (Option ℕ)) (done id : ℕ) (lits : List ℤ) → HasUnits store t units done → HasUnits (with_clause store id lits) t units done
units_more store t units done id lits h =
    let new : LiveClause = record { number = store.count; id = id; lits = set.from_list lits } in
    record {
      level = h.level;
      is_trail = h.is_trail;
      sound = IsSound-push store.live new t h.sound;
      same_vars = h.same_vars;
      unit_each = h.unit_each;
      are_units = λ i n is. unit_kept store.live new t.entries (i + 1) n (h.are_units i n is);
      complete = h.complete;
      done_within = h.done_within;
    }

is_some_from : {o : Option ℕ} (x : ℕ) → o ≡ Some x → IsSome o
is_some_from {o = None} x is = absurd cc
is_some_from {o = Some y} x is = refl

less : (a b : ℕ) → a < b + 1 → (a == b) ≡ false → a < b
less a b lt apart = grind (arith, nat_tests)

-- one unit clause more is in the table
pub units_set : (store : StoreState) (t : TrailState) (units : List (Option ℕ)) (done place id : ℕ) (l : ℤ) → HasUnits store t units done → IsRead t done l → place + 1 ≡ variable_of l → IsUnit store.live t.entries (variable_of l) id → HasUnits store t (slice_set units place (Some id)) (done + 1)
units_set store t units done place id l h r at u =
    let lt : place < length units = omega (arith, at, r.most, h.unit_each) in
    let here : slice_index_or (slice_set units place (Some id)) place None ≡ Some id = get_or-set_at units place place (Some id) None refl lt in
    record {
      level = h.level;
      is_trail = h.is_trail;
      sound = h.sound;
      same_vars = h.same_vars;
      unit_each = set_length ∙ h.unit_each;
      are_units = λ i n is. elim (i == place) as (λ b. (i == place) ≡ b → IsUnit store.live t.entries (i + 1) n) [
        | true ↦ λ same.
            let equal : i ≡ place = (Decides-eqb i place).0 same in
            let ids : id ≡ n = same_Some id n (sym here ∙ ap (λ j. slice_index_or (slice_set units place (Some id)) j None) (sym equal) ∙ is) in
            let P : ℕ → Type 0 = λ v. IsUnit store.live t.entries v id in
            let Q : ℕ → Type 0 = λ m. IsUnit store.live t.entries (i + 1) m in
            subst Q ids (subst P (let e : variable_of l ≡ i + 1 = omega (arith, at, equal) in e) u)
        | false ↦ λ other. h.are_units i n (sym (elsewhere i (differ i other)) ∙ is)
      ] refl;
      complete = λ k e lt' at'. elim (variable_of e.lit - 1 == place) as (λ b. (variable_of e.lit - 1 == place) ≡ b → IsSome (unit_of (slice_set units place (Some id)) e.lit)) [
        | true ↦ λ same. is_some_from id (ap (λ j. slice_index_or (slice_set units place (Some id)) j None) ((Decides-eqb (variable_of e.lit - 1) place).0 same) ∙ here)
        | false ↦ λ other.
            let P : Option ℕ → Type 0 = λ o. IsSome o in
            subst P (sym (elsewhere (variable_of e.lit - 1) (differ (variable_of e.lit - 1) other))) (h.complete k e (before k e lt' at' other) at')
      ] refl;
      done_within = omega (arith, slice_get_within t.entries done r.entry r.at);
    }
  where
    set_length : length (slice_set units place (Some id)) ≡ length units
    set_length = length-set units place (Some id)

    differ : (i : ℕ) → (i == place) ≡ false → i ≢ place
    differ i other same = let clash : false ≡ true = sym other ∙ (Decides-eqb i place).1 same in absurd cc

    elsewhere : (i : ℕ) → i ≢ place → slice_index_or (slice_set units place (Some id)) i None ≡ slice_index_or units i None
    elsewhere i apart = get_or-set_other units place i (Some id) None apart

    before : (k : ℕ) (e : Entry) → k < done + 1 → slice_get t.entries k ≡ Some e → (variable_of e.lit - 1 == place) ≡ false → k < done
    before k e lt' at' other = elim (k == done) as (λ b. (k == done) ≡ b → k < done) [
      | true ↦ λ same.
          let equal : k ≡ done = (Decides-eqb k done).0 same in
          let entries : e ≡ r.entry = same_Some e r.entry (sym at' ∙ ap (slice_get t.entries) equal ∙ r.at) in
          let v : variable_of e.lit ≡ variable_of l = ap (λ (x : Entry). variable_of x.lit) entries ∙ ap variable_of r.same in
          let there : variable_of e.lit - 1 ≡ place = omega (arith, v, at) in
          let clash : false ≡ true = sym other ∙ (Decides-eqb (variable_of e.lit - 1) place).1 there in
          absurd cc
      | false ↦ λ apart. less k done lt' apart
    ] refl
