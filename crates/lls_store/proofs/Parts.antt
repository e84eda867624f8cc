-- What holds of the parts of a trail, kept as it changes.
use Rattle.std.proofs.Common.{◌≡◌, ℕ, ◌+◌, ◌-◌, ◌<◌, ◌≤◌, Bool, true, false, cond, List, [], ◌∷◌, ◌++◌, length, get_or, set, Some, None, refl, sym, ap, subst, ◌∙◌, inl, inr, arith}
use Rattle.std.specs.Prelude.{ℤ, replicate, Option, is_none, option_map, IsSome}
use Rattle.std.proofs.lemmas.List.{length-set, length-map, length_push, map_push, get_or-set_other, get_or-replicate, length-replicate}
use Rattle.std.proofs.lemmas.List.Sums.{sum_by-set, get_or-le-sum_by}
use Rattle.std.proofs.lemmas.Grind.{get_or-set_at}
use Rattle.std.proofs.lemmas.List.Folds.{list_all-append, sum_by-replicate}
use Rattle.std.proofs.lemmas.Bool.{and_parts}
use Rattle.std.proofs.lemmas.Bool.Decides.{eqb_tells}
use Rattle.lls_lit.specs.declared.var.TheConstants.Var.{MOST}
use Rattle.lls_lit.specs.Literal.{variable_of, is_positive}
use Rattle.lls_lit.specs.Formula.{is_literal_of, is_within}
use Rattle.lls_store.specs.Trail.{Entry, TrailState, IsTrail, entry_of, literals_of, is_decision, decisions}
use Rattle.lls_store.specs.Tables.{entry_in, entries_in, trail_in, unset_count, AreValues, AreTables}
use Rattle.lls_store.proofs.Entries.{entry_of-cons_other, entry_of-push_same, entry_of-push_other, once_popped, decisions_push, IsTrail-push, IsTrail-popped}
use Rattle.lls_store.proofs.Tabled.{variable_bounds, variable_within, literals_of-entries_in, entries_in-push, levels_in, value_in, once_in, levels_after-reason, decisions-reason}

abbrev sign_found : Option Entry → Option Bool
sign_found o = option_map (λ e. is_positive e.lit) o

AreValues-push : (es : List Entry) (e : Entry) (values : List (Option Bool)) (i : ℕ) → AreValues es values → i + 1 ≡ variable_of e.lit → entry_of es (variable_of e.lit) ≡ None → i < length values
    → AreValues (es ++ e ∷ []) (set values i (Some (is_positive e.lit)))
AreValues-push es e values i h at none lt =
    λ j below. elim (eqb_tells j i) [
      | inl t ↦
          get_or-set_at values i j (Some (is_positive e.lit)) None t.1 lt
          ∙ sym (ap sign_found (entry_of-push_same es e (j + 1) (ap (entry_of es) (ap (λ k. k + 1) t.1 ∙ at) ∙ none) (sym (ap (λ k. k + 1) t.1 ∙ at))))
      | inr t ↦
          get_or-set_other values i j (Some (is_positive e.lit)) None t.1
          ∙ h j (omega (arith, below, length-set values i (Some (is_positive e.lit))))
          ∙ sym (ap sign_found (entry_of-push_other es e (j + 1) (λ same. t.1 (omega (arith, same, at)))))
    ]

AreValues-popped : (es : List Entry) (e : Entry) (values : List (Option Bool)) (i : ℕ) → AreValues (es ++ e ∷ []) values → i + 1 ≡ variable_of e.lit → entry_of es (variable_of e.lit) ≡ None → i < length values → AreValues es (set values i None)
AreValues-popped es e values i h at none lt =
    λ j below. elim (eqb_tells j i) [
      | inl t ↦ get_or-set_at values i j None None t.1 lt ∙ sym (ap sign_found (ap (entry_of es) (ap (λ k. k + 1) t.1 ∙ at) ∙ none))
      | inr t ↦
          get_or-set_other values i j None None t.1
          ∙ h j (omega (arith, below, length-set values i None))
          ∙ ap sign_found (entry_of-push_other es e (j + 1) (λ same. t.1 (omega (arith, same, at))))
    ]

abbrev unset_one : Option Bool → ℕ
unset_one value = cond (is_none value) 1 0

unset-set : (values : List (Option Bool)) (i : ℕ) (b : Bool) → i < length values → get_or values i None ≡ None → unset_count (set values i (Some b)) + 1 ≡ unset_count values
unset-set values i b lt none = omega (arith, sum_by-set unset_one values i (Some b) None lt, ap unset_one none)

unset-cleared : (values : List (Option Bool)) (i : ℕ) (b : Bool) → i < length values → get_or values i None ≡ Some b → unset_count (set values i None) ≡ unset_count values + 1
unset-cleared values i b lt some = omega (arith, sum_by-set unset_one values i None None lt, ap unset_one some)

-- where a variable has no value, there is room for a literal
pub room_left : (t : TrailState) (room i : ℕ) (values : List (Option Bool)) (levels : List ℕ) (reasons : List (Option ℕ)) → AreTables t room values levels reasons → i < t.vars → entry_of t.entries (i + 1) ≡ None → length t.entries < t.vars
room_left t room i values levels reasons h lt none =
    let inside : i < length values = omega (arith, h.value_each) in
    let value : get_or values i None ≡ None = h.are_values i inside ∙ ap sign_found none in
    omega (arith, get_or-le-sum_by unset_one values i None inside, ap unset_one value, h.unset_rest)

-- a literal more
pub AreTables-push : (vars current now room i : ℕ) (values : List (Option Bool)) (levels : List ℕ) (reasons : List (Option ℕ)) (lits : List ℤ) (l : ℤ) (reason : Option ℕ)
    → AreTables (trail_in vars current levels reasons lits) room values levels reasons → i + 1 ≡ variable_of l → variable_of l ≤ vars → entry_of (entries_in levels reasons lits) (variable_of l) ≡ None → now ≡ current + cond (is_none reason) 1 0
    → AreTables (trail_in vars now (set levels i now) (set reasons i reason) (lits ++ l ∷ [])) room (set values i (Some (is_positive l))) (set levels i now) (set reasons i reason)
AreTables-push vars current now room i values levels reasons lits l reason h at most none counts =
    let es = entries_in levels reasons lits in
    let e : Entry = record { lit = l; level = now; reason = reason } in
    let none_here : entry_of es (i + 1) ≡ None = ap (entry_of es) at ∙ none in
    let inside : i < length values = omega (arith, h.value_each, at, most) in
    let grown : entries_in (set levels i now) (set reasons i reason) (lits ++ l ∷ []) ≡ es ++ e ∷ [] =
    entries_in-push levels reasons i now reason vars lits l (ap (is_within vars) (sym (literals_of-entries_in levels reasons lits)) ∙ h.is_trail.within) none_here (omega (arith, h.level_each, at, most)) (omega (arith, h.reason_each, at, most)) (omega (arith, at)) in
    let left : length es < vars = room_left (trail_in vars current levels reasons lits) room i values levels reasons h (omega (arith, at, most)) none_here in
    let P : List Entry → Type 0 = λ all. AreTables (record { vars = vars; current = now; entries = all }) room (set values i (Some (is_positive l))) (set levels i now) (set reasons i reason) in
    subst P (sym grown) (record {
      is_trail = IsTrail-push (trail_in vars current levels reasons lits) now e h.is_trail (variable_within vars (variable_of l) (omega (arith, at)) most) none left counts refl;
      room_for_all = h.room_for_all;
      value_each = length-set values i (Some (is_positive l)) ∙ h.value_each;
      level_each = length-set levels i now ∙ h.level_each;
      reason_each = length-set reasons i reason ∙ h.reason_each;
      are_values = AreValues-push es e values i h.are_values at none inside;
      unset_rest = omega (arith, length_push es e, unset-set values i (is_positive l) inside (h.are_values i inside ∙ ap sign_found none_here), h.unset_rest);
    })

pub trail_in-push : (vars current now room i : ℕ) (values : List (Option Bool)) (levels : List ℕ) (reasons : List (Option ℕ)) (lits : List ℤ) (l : ℤ) (reason : Option ℕ)
    → AreTables (trail_in vars current levels reasons lits) room values levels reasons → i + 1 ≡ variable_of l → variable_of l ≤ vars → entry_of (entries_in levels reasons lits) (variable_of l) ≡ None
    → trail_in vars now (set levels i now) (set reasons i reason) (lits ++ l ∷ []) ≡ record { vars = vars; current = now; entries = entries_in levels reasons lits ++ record { lit = l; level = now; reason = reason } ∷ [] }
trail_in-push vars current now room i values levels reasons lits l reason h at most none =
    ap (λ (es : List Entry). record { vars = vars; current = now; entries = es })
    (entries_in-push levels reasons i now reason vars lits l (ap (is_within vars) (sym (literals_of-entries_in levels reasons lits)) ∙ h.is_trail.within) (ap (entry_of (entries_in levels reasons lits)) at ∙ none)
    (omega (arith, h.level_each, at, most)) (omega (arith, h.reason_each, at, most)) (omega (arith, at)))

-- a literal less
pub AreTables-popped : (vars current room i : ℕ) (values : List (Option Bool)) (levels : List ℕ) (reasons : List (Option ℕ)) (lits : List ℤ) (l : ℤ)
    → AreTables (trail_in vars current levels reasons (lits ++ l ∷ [])) room values levels reasons → i + 1 ≡ variable_of l → i < length values
    → AreTables (trail_in vars (decisions (entries_in levels reasons lits)) levels reasons lits) room (set values i None) levels reasons
AreTables-popped vars current room i values levels reasons lits l h at inside =
    let es = entries_in levels reasons lits in
    let e = entry_in levels reasons l in
    let P : List Entry → Type 0 = λ all. AreTables (record { vars = vars; current = current; entries = all }) room values levels reasons in
    let h' : AreTables (record { vars = vars; current = current; entries = es ++ e ∷ [] }) room values levels reasons = subst P (map_push (entry_in levels reasons) lits l) h in
    let none : entry_of es (variable_of l) ≡ None = (once_popped es e h'.is_trail.once).1 in
    let value : get_or values i None ≡ Some (is_positive l) =
    h'.are_values i inside ∙ ap sign_found (entry_of-push_same es e (i + 1) (ap (entry_of es) at ∙ none) (sym at)) in
    record {
      is_trail = IsTrail-popped vars current es e h'.is_trail;
      room_for_all = h'.room_for_all;
      value_each = length-set values i None ∙ h'.value_each;
      level_each = h'.level_each;
      reason_each = h'.reason_each;
      are_values = AreValues-popped es e values i h'.are_values at none inside;
      unset_rest = omega (arith, length_push es e, unset-cleared values i (is_positive l) inside value, h'.unset_rest);
    }

-- another reason
pub AreTables-reason : (vars current room i reason : ℕ) (values : List (Option Bool)) (levels : List ℕ) (reasons : List (Option ℕ)) (lits : List ℤ)
    → AreTables (trail_in vars current levels reasons lits) room values levels reasons → i < length reasons → is_none (get_or reasons i None) ≡ false
    → AreTables (trail_in vars current levels (set reasons i (Some reason)) lits) room values levels (set reasons i (Some reason))
AreTables-reason vars current room i reason values levels reasons lits h inside forced =
    let new = set reasons i (Some reason) in
    let same_length : length (entries_in levels new lits) ≡ length (entries_in levels reasons lits) = length-map lits (entry_in levels new) ∙ sym (length-map lits (entry_in levels reasons)) in
    record {
      is_trail = record {
        vars_fit = h.is_trail.vars_fit;
        within = ap (is_within vars) (literals_of-entries_in levels new lits ∙ sym (literals_of-entries_in levels reasons lits)) ∙ h.is_trail.within;
        once = once_in levels new reasons lits ∙ h.is_trail.once;
        most = omega (arith, same_length, h.is_trail.most);
        levels = levels_in levels new reasons lits ∙ h.is_trail.levels ∙ sym (levels_after-reason 0 levels reasons i reason lits inside forced);
        current = h.is_trail.current ∙ sym (decisions-reason levels reasons i reason lits inside forced);
      };
      room_for_all = h.room_for_all;
      value_each = h.value_each;
      level_each = h.level_each;
      reason_each = length-set reasons i (Some reason) ∙ h.reason_each;
      are_values = λ j below. h.are_values j below ∙ value_in levels reasons new lits (j + 1);
      unset_rest = omega (arith, same_length, h.unset_rest);
    }

last_within : (vars : ℕ) (lits : List ℤ) (l : ℤ) → is_within vars (lits ++ l ∷ []) ≡ true → variable_of l ≤ vars
last_within vars lits l h =
    let parts = and_parts (is_within vars lits) (is_within vars (l ∷ [])) (sym (list_all-append (is_literal_of vars) lits (l ∷ [])) ∙ h) in
    (variable_bounds vars (variable_of l) ((and_parts (is_literal_of vars l) true parts.1).0)).1

-- the same with the number of decisions as it was counted down
pub AreTables-counted_down : (vars current now room i : ℕ) (values : List (Option Bool)) (levels : List ℕ) (reasons : List (Option ℕ)) (all lits : List ℤ) (l : ℤ) (read : Option ℕ) (decided : Bool)
    → AreTables (trail_in vars current levels reasons all) room values levels reasons → all ≡ lits ++ l ∷ [] → i + 1 ≡ variable_of l → read ≡ get_or reasons i None → is_none read ≡ decided → now ≡ current - cond decided 1 0
    → AreTables (trail_in vars now levels reasons lits) room (set values i None) levels reasons
AreTables-counted_down vars current now room i values levels reasons all lits l read decided before splits at is was counts =
    let es = entries_in levels reasons lits in
    let e = entry_in levels reasons l in
    let P : List ℤ → Type 0 = λ ls. AreTables (trail_in vars current levels reasons ls) room values levels reasons in
    let h : AreTables (trail_in vars current levels reasons (lits ++ l ∷ [])) room values levels reasons = subst P splits before in
    let most : variable_of l ≤ vars = last_within vars lits l (ap (is_within vars) (sym (literals_of-entries_in levels reasons (lits ++ l ∷ []))) ∙ h.is_trail.within) in
    let reason : is_decision e ≡ decided = ap (λ n. is_none (get_or reasons n None)) (omega (arith, at)) ∙ ap is_none (sym is) ∙ was in
    let counted : current ≡ decisions es + cond decided 1 0 =
    h.is_trail.current ∙ ap decisions (map_push (entry_in levels reasons) lits l) ∙ decisions_push es e ∙ ap (λ b. decisions es + cond b 1 0) reason in
    let now_is : decisions es ≡ now = omega (arith, counted, counts) in
    let Q : ℕ → Type 0 = λ n. AreTables (trail_in vars n levels reasons lits) room (set values i None) levels reasons in
    subst Q now_is (AreTables-popped vars current room i values levels reasons lits l h at (omega (arith, at, most, h.value_each)))

-- no literal
pub AreTables-empty : (vars room : ℕ) (values : List (Option Bool)) (levels : List ℕ) (reasons : List (Option ℕ)) (lits : List ℤ) → vars ≤ MOST → lits ≡ [] → vars ≤ room → values ≡ replicate vars None → length levels ≡ vars → length reasons ≡ vars
    → AreTables (trail_in vars 0 levels reasons lits) room values levels reasons
AreTables-empty vars room values levels reasons lits few none roomy unset level_each reason_each =
    let P : List ℤ → Type 0 = λ ls. AreTables (trail_in vars 0 levels reasons ls) room values levels reasons in
    subst P (sym none) (record {
      is_trail = record { vars_fit = few; within = refl; once = refl; most = omega arith; levels = refl; current = refl };
      room_for_all = roomy;
      value_each = ap length unset ∙ length-replicate vars None;
      level_each = level_each;
      reason_each = reason_each;
      are_values = λ i lt. ap (λ (vs : List (Option Bool)). get_or vs i None) unset ∙ get_or-replicate vars i None None (omega (arith, lt, ap length unset, length-replicate vars (unset_value)));
      unset_rest = omega (arith, ap unset_count unset, sum_by-replicate unset_one vars None);
    }) where
      unset_value : Option Bool
      unset_value = None

most_of : (vars : ℕ) (es : List Entry) (v : ℕ) → is_within vars (literals_of es) ≡ true → IsSome (entry_of es v) → v ≤ vars
most_of vars [] v within some = absurd cc
most_of vars (e ∷ es) v within some =
    let parts = and_parts (is_literal_of vars e.lit) (is_within vars (literals_of es)) within in
    let P : Option Entry → Type 0 = λ o. IsSome o in
    elim (eqb_tells (variable_of e.lit) v) [
      | inl t ↦ omega (arith, t.1, (variable_bounds vars (variable_of e.lit) parts.0).1)
      | inr t ↦ most_of vars es v parts.1 (subst P (entry_of-cons_other e es v t.1) some)
    ]

-- a variable that has an entry is one of the trail's
pub variable_most : (t : TrailState) (v : ℕ) → IsTrail t → IsSome (entry_of t.entries v) → v ≤ t.vars
variable_most t v h some = most_of t.vars t.entries v h.within some

-- the last literal's variable is one of the trail's
pub variable_of_last : (vars current : ℕ) (levels : List ℕ) (reasons : List (Option ℕ)) (all lits : List ℤ) (l : ℤ) → IsTrail (trail_in vars current levels reasons all) → all ≡ lits ++ l ∷ [] → variable_of l ≤ vars
variable_of_last vars current levels reasons all lits l h splits =
    last_within vars lits l (ap (is_within vars) (sym splits) ∙ ap (is_within vars) (sym (literals_of-entries_in levels reasons all)) ∙ h.within)
