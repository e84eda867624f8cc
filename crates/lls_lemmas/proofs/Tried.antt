-- A clause whose literals were taken as false: what comes of a conflict.
use Rattle.std.proofs.Common.{◌≡◌, ℕ, ◌≤◌, true, false, List, [], ◌∷◌, length, take, Option, Some, None, refl, sym, ap, subst, ◌∙◌, inl, inr, arith}
use Rattle.std.specs.Prelude.{ℤ, pos, ◌⊎◌, Contains, slice_get, option_and_then}
use Rattle.std.specs.Ordering.{int_eq}
use Rattle.std.proofs.lemmas.Bool.Decides.{Decides-int_eq}
use Rattle.std.proofs.lemmas.List.{length-append, take_all}
use Rattle.std.proofs.lemmas.List.Elements.{Contains-append_cases}
use Rattle.std.proofs.lemmas.Option.{get_or_from_slice_get, slice_get_within}
use Rattle.lls_lit.specs.Literal.{variable_of, negation}
use Rattle.lls_store.specs.Trail.{Entry, TrailState, has, Has, HasNegated, IsTrail, entry_of, reason_of}
use Rattle.lls_store.specs.Clauses.{LiveClause}
use Rattle.lls_store.specs.Sound.{IsSound}
use Rattle.lls_store.specs.Store.{StoreState, AreLive, IsConflict}
use Rattle.lls_store.proofs.Values.{same_variable, variable_of-negation}
use Rattle.lls_lit.proofs.Flipped.{negation_twice}
use Rattle.lls_analyse.proofs.Trails.{consistent_trail, entry_of_here, false_within}
use Rattle.lls_analyse.proofs.Walk.{has_taken}
use Rattle.lls_lemmas.specs.Assumed.{Assumes}
use Rattle.lls_lemmas.specs.Behind.{GivesClause}
use Rattle.lls_lemmas.specs.Closing.{DecidesFor, IsFalseBut}
use Rattle.lls_lemmas.specs.Lemmas.{is_tautology}
use Rattle.lls_lemmas.specs.Units.{AreUnits, HaveUnits, IsUnit}
use Rattle.lls_lemmas.proofs.AtZero.{in_front}
use Rattle.lls_lemmas.proofs.Beyond.{stays_true}
use Rattle.lls_lemmas.proofs.Carried.{early}
use Rattle.lls_lemmas.proofs.Closing.{gives_by_unit}
use Rattle.lls_lemmas.proofs.Reading.{forced_at}
use Rattle.lls_lemmas.proofs.Tautologies.{both_there}
use Rattle.lls_lemmas.proofs.UnitTables.{none_for}

-- the clause that forced a true literal of the clause
pub record IsTrueBy (live : List LiveClause) (t : TrailState) (lits : List ℤ) (l : ℤ) : Type 0 where
  pub entry : Entry
  pub is_entry : entry_of t.entries (variable_of l) ≡ Some entry
  pub reason : ℕ
  pub is_reason : reason_of t.entries (variable_of l) ≡ Some reason
  pub false_but : (top : ℕ) → length t.entries ≤ top → IsFalseBut live lits t.entries top reason

pub true_by : (live : List LiveClause) (t : TrailState) (lits : List ℤ) (l : ℤ) → IsTrail t → IsSound live t → Has t.entries l → Contains lits l → DecidesFor lits t.entries → is_tautology lits ≡ false → IsTrueBy live t lits l
true_by live t lits l kept sound true_ inside decides apart =
    let es = t.entries in
    let e = early es (length es) l (ap (λ (xs : List Entry). has xs l) (take_all (length es) es (omega arith)) ∙ true_) in
    let found : entry_of es (variable_of l) ≡ Some e.entry = ap (λ m. entry_of es (variable_of m)) (sym e.same) ∙ entry_of_here es e.place e.entry kept.once e.at in
    by_reason e.place e.entry e.at e.same found (e.entry.reason) refl
  where
    by_reason : (k : ℕ) (e : Entry) → slice_get t.entries k ≡ Some e → e.lit ≡ l → entry_of t.entries (variable_of l) ≡ Some e → (o : Option ℕ) → e.reason ≡ o → IsTrueBy live t lits l
    by_reason k e at same found None is =
        let contained : Contains t.entries e = (k, slice_get_within t.entries k e at, get_or_from_slice_get t.entries k e e at) in
        let P : ℤ → Type 0 = λ m. Contains lits (negation m) in
        let negated = subst P same (decides e contained is) in
        let clash : false ≡ true = sym apart ∙ both_there lits l inside negated in
        absurd cc
    by_reason k e at same found (Some reason) is =
        let f = forced_at live t k e reason sound at is in
        record {
          entry = e;
          is_entry = found;
          reason = reason;
          is_reason = ap (option_and_then (λ (x : Entry). x.reason)) found ∙ is;
          false_but = λ top all. record {
            clause = f.clause;
            is_live = f.is_live;
            each = λ m there.
                elim (int_eq m e.lit) as (λ b. int_eq m e.lit ≡ b → Contains lits m ⊎ HasNegated (take top t.entries) m) [
                  | true ↦ λ equal. (let P : ℤ → Type 0 = λ x. Contains lits x in inl (subst P (sym ((Decides-int_eq m e.lit).0 equal ∙ same)) inside))
                  | false ↦ λ other. (
                      let P : List Entry → Type 0 = λ xs. HasNegated xs m in
                      inr (subst P (sym (take_all top t.entries all)) (has_taken t.entries k (negation m) (f.others_false m there (λ equal. let clash : false ≡ true = sym other ∙ (Decides-int_eq m e.lit).1 equal in absurd cc)))))
                ] refl;
          };
        }

-- a conflict is false but for no literal
pub conflict_but : (live : List LiveClause) (t : TrailState) (lits : List ℤ) (top number : ℕ) → length t.entries ≤ top → IsConflict live t number → IsFalseBut live lits t.entries top number
conflict_but live t lits top number all c = record {
  clause = c.clause;
  is_live = c.is_live;
  each = λ m inside.
      let P : List Entry → Type 0 = λ es. HasNegated es m in
      inr (subst P (sym (take_all top t.entries all)) (c.all_false m inside));
}

-- the unit clause of a true literal of the clause
pub true_by_unit : (store : StoreState) (t : TrailState) (lits : List ℤ) (l : ℤ) (id : ℕ) → IsTrail t → AreLive store → Has t.entries l → Contains lits l → IsUnit store.live t.entries (variable_of l) id → GivesClause store.live lits (pos id ∷ [])
true_by_unit store t lits l id kept live true_ inside u =
    let P : ℤ → Type 0 = λ m. Contains lits m in
    gives_by_unit store.live t.entries lits (variable_of l) id live.ids live.numbers u (elim (same_variable u.lit l u.of_variable) [
      | inl same ↦ subst P (sym same) inside
      | inr turned ↦ absurd (consistent_trail t kept l true_ (ap (has t.entries) (sym turned) ∙ u.is_true))
    ])

-- beyond level 0 the unit clauses stay
pub are_units_on : (live : List LiveClause) (base t : TrailState) (lits : List ℤ) (units : List (Option ℕ)) → AreUnits live base.entries units → Assumes base lits t → AreUnits live t.entries units
are_units_on live base t lits units are a = λ i id is. (let u = are i id is in record { clause = u.clause; lit = u.lit; is_live = u.is_live; same_id = u.same_id; single = u.single; is_true = stays_true base t lits u.lit a u.is_true; of_variable = u.of_variable })

pub have_units_on : (base t : TrailState) (lits : List ℤ) (units : List (Option ℕ)) (done : ℕ) → done ≤ length base.entries → HaveUnits base.entries units done → Assumes base lits t → HaveUnits t.entries units done
have_units_on base t lits units done within have a = λ k e lt at. have k e lt (in_front base.entries a.more k e (omega (arith, lt, within)) (ap (λ (xs : List Entry). slice_get xs k) (sym a.goes_on) ∙ at))

pub decides_on : (base t : TrailState) (lits : List ℤ) → IsTrail base → base.current ≡ 0 → Assumes base lits t → DecidesFor lits t.entries
decides_on base t lits kept level a = λ e inside none.
    let P : List Entry → Type 0 = λ es. Contains es e in
    elim (Contains-append_cases base.entries a.more e (subst P a.goes_on inside)) [
      | inl old ↦ none_for base lits kept level e old none
      | inr new ↦ a.decided e new none
    ]

pub longer : (base t : TrailState) (lits : List ℤ) → Assumes base lits t → length base.entries ≤ length t.entries
longer base t lits a = omega (arith, ap length a.goes_on, length-append base.entries a.more)

-- a true literal is one of the variables
pub true_within : (t : TrailState) (l : ℤ) → IsTrail t → Has t.entries l → (1 ≤ variable_of l) × (variable_of l ≤ t.vars)
true_within t l kept true_ =
    let within = false_within t (negation l) kept (ap (has t.entries) (negation_twice l) ∙ true_) in
    (omega (arith, within.0, variable_of-negation l), omega (arith, within.1, variable_of-negation l))
