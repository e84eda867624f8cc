-- The variables that wait in an order, as some are taken out of it and put in, and as a trail grows.
use Rattle.std.proofs.Common.{◌≡◌, ◌≢◌, inl, inr, ℕ, zero, suc, ◌+◌, ◌-◌, ◌<◌, ◌≤◌, Bool, true, false, cond, List, [], ◌∷◌, ◌++◌, length, get_or, set, take, drop, Some, None, refl, sym, ap, subst, ◌∙◌, arith, true≢false}
use Rattle.std.specs.Prelude.{ℤ, All, slice_get, count_by, nat_le, replicate, ◌||◌}
use Rattle.std.specs.List.{sum_by}
use Rattle.std.proofs.lemmas.List.{get_or-replicate, get_or-set_other, get_or-set_same, take-append-drop}
use Rattle.std.proofs.lemmas.List.Elements.{All-from_recursion, recursion_from_All}
use Rattle.std.proofs.lemmas.Bool.{or_cases}
use Rattle.std.specs.List.{AllByRecursion as ByRecursion}
use Rattle.lls_solver.specs.Released.{AreReleased}
use Rattle.lls_solver.proofs.Levels.{drop-next}
use Rattle.std.proofs.Math.ListN.{get_or-eq_default}
use Rattle.std.proofs.lemmas.List.Sums.{sum_by-set}
use Rattle.std.proofs.lemmas.Bool.Decides.{nat_tests, eqb_tells}
use Rattle.lls_lit.specs.Literal.{variable_of, negation}
use Rattle.lls_lit.specs.Formula.{is_literal_of}
use Rattle.lls_prooflog.proofs.LiteralLists.{negation-negation}
use Rattle.lls_store.specs.Trail.{Entry, TrailState, Has, has, IsUnset}
use Rattle.std.specs.Ordering.{int_eq}
use Rattle.std.proofs.Math.Bool.{or-true}
use Rattle.std.proofs.lemmas.Bool.Decides.{Decides-int_eq}
use Rattle.std.proofs.lemmas.List.Folds.{list_any-append}
use Rattle.lls_store.proofs.Values.{same_variable, variable_of-negation}
use Rattle.lls_store.specs.Store.{GoesOn}
use Rattle.lls_store.proofs.Tabled.{variable_bounds}
use Rattle.lls_order.specs.Order.{OrderState, is_in, IsEmpty}
use Rattle.lls_order.specs.Changes.{put_in, taken_out}
use Rattle.lls_solver.specs.Course.{AreWaiting, AreWaitingBut, AllSet}

-- a variable that is in has a place in the list
is_in-within : (order : OrderState) (n : ℕ) → is_in order (suc n) ≡ true → n < length order.inside
is_in-within order n stands = elim (nat_le (length order.inside) n) as (λ b. nat_le (length order.inside) n ≡ b → n < length order.inside) [
  | true ↦ λ past. let clash : false ≡ true = sym (get_or-eq_default order.inside false (grind (arith, nat_tests))) ∙ stands in absurd cc
  | false ↦ λ before. grind (arith, nat_tests)
] refl

-- taking one out leaves the others in
pub is_in-taken_other : (order : OrderState) (v w : ℕ) → 1 ≤ v → w ≢ v → is_in (taken_out order v) w ≡ is_in order w
is_in-taken_other order v zero some other = refl
is_in-taken_other order v (suc n) some other = get_or-set_other order.inside (v - 1) n false false (λ (same : n ≡ v - 1). other (omega (arith, some, same)))

-- and there are fewer then
pub fewer_in : (order : OrderState) (v : ℕ) → is_in order v ≡ true → count_by (λ b. b) (taken_out order v).inside < count_by (λ b. b) order.inside
fewer_in order zero stands = absurd cc
fewer_in order (suc n) stands =
    let within = is_in-within order n stands in
    let worth : Bool → ℕ = λ b. cond b 1 0 in
    let one : worth (get_or order.inside n false) ≡ 1 = ap worth stands in
    let place : suc n - 1 ≡ n = omega arith in
    let less : sum_by worth (set order.inside n false) < sum_by worth order.inside = omega (arith, sum_by-set worth order.inside n false false within, one) in
    rw place less

-- both literals of a variable are unset where one is
pub unset_other : (entries : List Entry) (l m : ℤ) → variable_of l ≡ variable_of m → IsUnset entries l → IsUnset entries m
unset_other entries l m same unset = elim (same_variable l m same) [
  | inl equal ↦ subst (IsUnset entries) equal unset
  | inr negated ↦
      let back : negation l ≡ m = ap negation negated ∙ negation-negation m in
      let P : ℤ → Type 0 = λ k. ¬ Has entries k in
      record { not_true = subst P back unset.not_false; not_false = subst P negated unset.not_true }
]

-- a variable that has a value may be taken out
pub waiting_without : (entries : List Entry) (order : OrderState) (v : ℕ) (lit : ℤ) → 1 ≤ v → variable_of lit ≡ v → AreWaiting entries order → ¬ IsUnset entries lit → AreWaiting entries (taken_out order v)
waiting_without entries order v lit some is waiting has_value l within unset =
    is_in-taken_other order v (variable_of l) some (λ same. has_value (unset_other entries l lit (same ∙ sym is) unset)) ∙ waiting l within unset

pub waiting_but : (entries : List Entry) (order : OrderState) (v : ℕ) → 1 ≤ v → AreWaiting entries order → AreWaitingBut v entries (taken_out order v)
waiting_but entries order v some waiting l within other unset = is_in-taken_other order v (variable_of l) some other ∙ waiting l within unset

-- where none is in, all have values
pub all_set : (vars : ℕ) (entries : List Entry) (order : OrderState) → order.vars ≡ vars → IsEmpty order → AreWaiting entries order → AllSet vars entries
all_set vars entries order same empty waiting l within unset =
    let clash : false ≡ true = sym (empty (variable_of l)) ∙ waiting l (subst (λ n. is_literal_of n l ≡ true) (sym same) within) unset in
    absurd cc

-- a variable that is in is one
pub in_least : (order : OrderState) (v : ℕ) → is_in order v ≡ true → 1 ≤ v
in_least order zero stands = absurd cc
in_least order (suc n) stands = omega arith

pub none_some : (b : Bool) → ¬ (None ≡ Some b)
none_some b e = cc

-- a literal has a value behind a trail where it has one, or stands at the end
pub has-push : (entries : List Entry) (e : Entry) (l : ℤ) → has (entries ++ e ∷ []) l ≡ (has entries l || (int_eq e.lit l || false))
has-push entries e l = list_any-append (λ (x : Entry). int_eq x.lit l) entries (e ∷ [])

pub unset_before : (entries : List Entry) (e : Entry) (l : ℤ) → IsUnset (entries ++ e ∷ []) l → IsUnset entries l
unset_before entries e l unset = record {
  not_true = λ stands. unset.not_true (has-push entries e l ∙ ap (λ b. b || (int_eq e.lit l || false)) stands);
  not_false = λ stands. unset.not_false (has-push entries e (negation l) ∙ ap (λ b. b || (int_eq e.lit (negation l) || false)) stands);
}

has_last : (entries : List Entry) (e : Entry) (l : ℤ) → e.lit ≡ l → has (entries ++ e ∷ []) l ≡ true
has_last entries e l same = has-push entries e l ∙ ap (λ b. has entries l || (b || false)) ((Decides-int_eq e.lit l).1 same) ∙ or-true (has entries l)

-- the variable at the end has a value
pub unset_apart : (entries : List Entry) (e : Entry) (l : ℤ) → IsUnset (entries ++ e ∷ []) l → variable_of l ≢ variable_of e.lit
unset_apart entries e l unset same = elim (same_variable e.lit l (sym same)) [
  | inl equal ↦ unset.not_true (has_last entries e l equal)
  | inr negated ↦ unset.not_false (has_last entries e (negation l) negated)
]

-- after a decision all others wait still
pub waiting_decided : (entries : List Entry) (e : Entry) (order : OrderState) (v : ℕ) → variable_of e.lit ≡ v → AreWaitingBut v entries order → AreWaiting (entries ++ e ∷ []) order
waiting_decided entries e order v is waiting l within unset =
    waiting l within (λ same. unset_apart entries e l unset (same ∙ sym is)) (unset_before entries e l unset)

-- what was in stays in where one is put in
pub is_in-put_other : (order : OrderState) (v w : ℕ) → is_in order w ≡ true → is_in (put_in order v) w ≡ true
is_in-put_other order v zero stands = absurd cc
is_in-put_other order v (suc n) stands =
    elim (eqb_tells n (v - 1)) [
      | inl t ↦ ap (λ i. get_or (set order.inside (v - 1) true) i false) t.1 ∙ get_or-set_same order.inside (v - 1) true false (subst (λ i. i < length order.inside) t.1 (is_in-within order n stands))
      | inr t ↦ get_or-set_other order.inside (v - 1) n true false t.1 ∙ stands
    ]

pub waiting_put : (entries : List Entry) (order : OrderState) (v : ℕ) → AreWaiting entries order → AreWaiting entries (put_in order v)
waiting_put entries order v waiting l within unset = is_in-put_other order v (variable_of l) (waiting l within unset)

-- one more entry is released
pub released_next : (entries : List Entry) (order : OrderState) (v k : ℕ) (e : Entry) → slice_get entries k ≡ Some e → variable_of e.lit ≡ v → is_in (put_in order v) v ≡ true
    → AreReleased entries order (k + 1) → AreReleased entries (put_in order v) k
released_next entries order v k e at is stands released =
    let P : Entry → Type 0 = λ x. is_in (put_in order v) (variable_of x.lit) ≡ true in
    let rest : All P (drop (k + 1) entries) = λ i d lt. is_in-put_other order v (variable_of (get_or (drop (k + 1) entries) i d).lit) (released i d lt) in
    subst (All P) (sym (drop-next entries k e at)) (All-from_recursion P (e ∷ drop (k + 1) entries) (ap (is_in (put_in order v)) is ∙ stands, recursion_from_All P (drop (k + 1) entries) rest))

in_either : (entries : List Entry) (k : ℕ) (l : ℤ) → has entries l ≡ true → has (take k entries) l ≡ false → has (drop k entries) l ≡ true
in_either entries k l stands none =
    ap (λ b. b || has (drop k entries) l) (sym none)
    ∙ sym (list_any-append (λ (x : Entry). int_eq x.lit l) (take k entries) (drop k entries))
    ∙ ap (λ es. has es l) (take-append-drop k entries)
    ∙ stands

-- a literal that stands among released entries is of a variable that is in
released_in : (entries : List Entry) (order : OrderState) (l m : ℤ) → variable_of m ≡ variable_of l → has entries m ≡ true → ByRecursion (λ (e : Entry). is_in order (variable_of e.lit) ≡ true) entries → is_in order (variable_of l) ≡ true
released_in [] order l m same stands all = absurd cc
released_in (e ∷ es) order l m same stands all =
    elim (or_cases (int_eq e.lit m) (has es m) stands) [
      | inl here ↦ ap (is_in order) (sym (ap variable_of ((Decides-int_eq e.lit m).0 here) ∙ same)) ∙ all.0
      | inr later ↦ released_in es order l m same later all.1
    ]

-- where what stands behind is released, what the first entries lack waits
pub waiting_front : (entries : List Entry) (order : OrderState) (k : ℕ) → AreWaiting entries order → AreReleased entries order k → AreWaiting (take k entries) order
waiting_front entries order k waiting released l within unset =
    let all = recursion_from_All (λ (e : Entry). is_in order (variable_of e.lit) ≡ true) (drop k entries) released in
    by_value (has entries l) refl (has entries (negation l)) refl where
      none_front : (m : ℤ) → ¬ Has (take k entries) m → has (take k entries) m ≡ false
      none_front m not = elim (has (take k entries) m) as (λ b. has (take k entries) m ≡ b → b ≡ false) [ true ↦ λ is. absurd (not is) | false ↦ λ _. refl ] refl

      by_value : (t : Bool) → has entries l ≡ t → (f : Bool) → has entries (negation l) ≡ f → is_in order (variable_of l) ≡ true
      by_value true is f is_f = released_in (drop k entries) order l l refl (in_either entries k l is (none_front l unset.not_true)) (recursion_from_All (λ (e : Entry). is_in order (variable_of e.lit) ≡ true) (drop k entries) released)
      by_value false is true is_f = released_in (drop k entries) order l (negation l) (variable_of-negation l) (in_either entries k (negation l) is_f (none_front (negation l) unset.not_false)) (recursion_from_All (λ (e : Entry). is_in order (variable_of e.lit) ≡ true) (drop k entries) released)
      by_value false is false is_f = waiting l within (record { not_true = λ stands. true≢false (sym stands ∙ is); not_false = λ stands. true≢false (sym stands ∙ is_f) })

-- what has a value keeps it where the trail goes on
pub unset_front : (entries more : List Entry) (l : ℤ) → IsUnset (entries ++ more) l → IsUnset entries l
unset_front entries more l unset =
    let kept : (m : ℤ) → has entries m ≡ true → has (entries ++ more) m ≡ true = λ m stands. list_any-append (λ (x : Entry). int_eq x.lit m) entries more ∙ ap (λ b. b || has more m) stands in
    record { not_true = λ stands. unset.not_true (kept l stands); not_false = λ stands. unset.not_false (kept (negation l) stands) }

pub waiting_on : (old new : TrailState) (order : OrderState) → GoesOn old new → AreWaiting old.entries order → AreWaiting new.entries order
waiting_on old new order on waiting l within unset =
    waiting l within (unset_front old.entries on.added l (subst (λ (t : TrailState). IsUnset t.entries l) on.grown unset))

-- all variables are in
in_all : (order : OrderState) (vars v : ℕ) → order.inside ≡ replicate vars true → 1 ≤ v → v ≤ vars → is_in order v ≡ true
in_all order vars zero inside some most = absurd (omega (arith, some))
in_all order vars (suc n) inside some most = rw inside (get_or-replicate vars n true false (omega (arith, most)))

pub waiting_all : (vars : ℕ) (order : OrderState) → order.vars ≡ vars → order.inside ≡ replicate vars true → AreWaiting [] order
waiting_all vars order same inside l literal unset =
    let bounds = variable_bounds order.vars (variable_of l) literal in
    in_all order vars (variable_of l) inside bounds.0 (omega (arith, bounds.1, same))
