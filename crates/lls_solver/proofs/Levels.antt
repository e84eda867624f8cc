-- The entries of a trail that stand above a level: the last ones.
use Rattle.std.proofs.Common.{◌≡◌, ◌≢◌, ℕ, zero, suc, ◌+◌, ◌<◌, ◌≤◌, Bool, true, false, cond, List, [], ◌∷◌, ◌++◌, length, take, drop, get_or, Option, Some, None, is_none, is_some, not, refl, sym, ap, subst, ◌∙◌, arith}
use Rattle.std.specs.Prelude.{ℤ, nat_le, nat_lt, slice_get, option_and_then, option_map, IsSome}
use Rattle.std.specs.Option.{option_map_or}
use Rattle.std.proofs.lemmas.Bool.{and_parts}
use Rattle.std.proofs.lemmas.Bool.Decides.{nat_tests}
use Rattle.std.proofs.lemmas.Option.{same_Some, slice_get_within, slice_get-get_or, get_or_from_slice_get}
use Rattle.std.proofs.lemmas.List.{take-append-drop, take_more, take_all, get_or-map, length-map}
use Rattle.std.proofs.lemmas.List.Sums.{count_by_more_no, count_by_more_yes, sum_by-append, take_while-cons}
use Rattle.lls_lit.specs.Literal.{variable_of}
use Rattle.lls_store.specs.Trail.{Entry, IsTrail, TrailState, decisions, entry_of, is_decision, level_of, literals_of, reason_of, has_variables_once}
use Rattle.lls_store.specs.Changes.{entries_up_to}
use Rattle.lls_store.proofs.Entries.{entry_of-cons_same, entry_of-cons_other, IsTrail-popped, level_of_last}
use Rattle.lls_store.proofs.Cut.{cut_all}
use Rattle.lls_store.proofs.Tabled.{variable_bounds}
use Rattle.lls_lit.specs.Formula.{is_literal_of}
use Rattle.std.specs.List.{list_all}

-- a variable's entry is the one that stands for it
pub entry_of-stands : (es : List Entry) (k : ℕ) (e : Entry) → slice_get es k ≡ Some e → has_variables_once es ≡ true → entry_of es (variable_of e.lit) ≡ Some e
entry_of-stands [] k e is once = absurd cc
entry_of-stands (x ∷ es) zero e is once =
    let same : x ≡ e = same_Some x e is in
    entry_of-cons_same x es (variable_of e.lit) (ap (λ (y : Entry). variable_of y.lit) same) ∙ ap Some same
entry_of-stands (x ∷ es) (suc k) e is once =
    let parts = and_parts (is_none (entry_of es (variable_of x.lit))) (has_variables_once es) once in
    let found = entry_of-stands es k e is parts.1 in
    let apart : variable_of x.lit ≢ variable_of e.lit = λ same.
    let clash : false ≡ true = sym (ap is_none (ap (entry_of es) same ∙ found)) ∙ parts.0 in
    absurd cc
    in
    entry_of-cons_other x es (variable_of e.lit) apart ∙ found

-- the entry of a literal that was read
pub record IsRead (t : TrailState) (k : ℕ) (l : ℤ) : Type 0 where
  pub entry : Entry
  pub at : slice_get t.entries k ≡ Some entry
  pub lit : entry.lit ≡ l
  pub level : level_of t.entries (variable_of l) ≡ Some entry.level

pub is_read : (t : TrailState) (k : ℕ) (l : ℤ) → IsTrail t → slice_get (literals_of t.entries) k ≡ Some l → IsRead t k l
is_read t k l h is =
    let d : Entry = record { lit = l; level = 0; reason = None } in
    let lit_of : Entry → ℤ = λ e. e.lit in
    let within : k < length t.entries = omega (arith, slice_get_within (literals_of t.entries) k l is, length-map t.entries lit_of) in
    let e = get_or t.entries k d in
    let at = slice_get-get_or t.entries k d within in
    let same : e.lit ≡ l = sym (get_or-map lit_of t.entries k d l within) ∙ get_or_from_slice_get (literals_of t.entries) k l l is in
    record {
      entry = e;
      at = at;
      lit = same;
      level = ap (λ l. level_of t.entries (variable_of l)) (sym same) ∙ ap (option_map (λ (x : Entry). x.level)) (entry_of-stands t.entries k e at h.once);
    }

abbrev pub front : TrailState → ℕ → TrailState
front t k = record { vars = t.vars; current = decisions (take k t.entries); entries = take k t.entries }

-- the first entries up to a place, behind which all stand above a level
pub record IsAbove (t : TrailState) (level k : ℕ) : Type 0 where
  pub is_front : IsTrail (front t k)
  pub kept : entries_up_to level (take k t.entries) ≡ entries_up_to level t.entries

pub above_start : (t : TrailState) (level : ℕ) → IsTrail t → IsAbove t level (length t.entries)
above_start t level h =
    let all : take (length t.entries) t.entries ≡ t.entries = take_all (length t.entries) t.entries (omega arith) in
    let P : List Entry → Type 0 = λ es. IsTrail (record { vars = t.vars; current = decisions es; entries = es }) in
    record {
      is_front = subst P (sym all) (subst (λ n. IsTrail (record { vars = t.vars; current = n; entries = t.entries })) h.current h);
      kept = ap (entries_up_to level) all;
    }

up_to-push : (level : ℕ) (es : List Entry) (e : Entry) → nat_le e.level level ≡ false → entries_up_to level (es ++ e ∷ []) ≡ entries_up_to level es
up_to-push level [] e above = take_while-cons (λ x. nat_le x.level level) e [] ∙ ap (λ b. cond b (e ∷ []) []) above
up_to-push level (x ∷ es) e above =
    take_while-cons (λ y. nat_le y.level level) x (es ++ e ∷ []) ∙ ap (λ ys. cond (nat_le x.level level) (x ∷ ys) []) (up_to-push level es e above) ∙ sym (take_while-cons (λ y. nat_le y.level level) x es)

with_last : (t : TrailState) (k : ℕ) (e : Entry) → slice_get t.entries k ≡ Some e → take (k + 1) t.entries ≡ take k t.entries ++ e ∷ []
with_last t k e at = take_more t.entries k e (slice_get_within t.entries k e at) ∙ ap (λ (x : Entry). take k t.entries ++ x ∷ []) (get_or_from_slice_get t.entries k e e at)

pub above_next : (t : TrailState) (level k : ℕ) (e : Entry) → slice_get t.entries k ≡ Some e → level < e.level → IsAbove t level (k + 1) → IsAbove t level k
above_next t level k e at above h =
    let last = with_last t k e at in
    let P : List Entry → Type 0 = λ es. IsTrail (record { vars = t.vars; current = decisions es; entries = es }) in
    let high : nat_le e.level level ≡ false = grind (arith, nat_tests) in
    record {
      is_front = IsTrail-popped t.vars (decisions (take k t.entries ++ e ∷ [])) (take k t.entries) e (subst P last h.is_front);
      kept = sym (up_to-push level (take k t.entries) e high) ∙ ap (entries_up_to level) (sym last) ∙ h.kept;
    }

-- where the last of them isn't above the level, they are what the cut leaves
pub above_end : (t : TrailState) (level k : ℕ) (e : Entry) → slice_get t.entries k ≡ Some e → e.level ≤ level → IsAbove t level (k + 1) → entries_up_to level t.entries ≡ take (k + 1) t.entries
above_end t level k e at low h =
    let last = with_last t k e at in
    let P : List Entry → Type 0 = λ es. IsTrail (record { vars = t.vars; current = decisions es; entries = es }) in
    let of_last : e.level ≡ decisions (take k t.entries ++ e ∷ []) = level_of_last t.vars (decisions (take k t.entries ++ e ∷ [])) (take k t.entries) e (subst P last h.is_front) in
    let below : decisions (take (k + 1) t.entries) ≤ level = omega (arith, of_last, low, ap decisions last) in
    sym h.kept ∙ cut_all (front t (k + 1)) level h.is_front below

pub above_none : (t : TrailState) (level : ℕ) → IsAbove t level 0 → entries_up_to level t.entries ≡ []
above_none t level h = sym h.kept

-- what is left at a place, and behind it
pub drop-next : {X : Type 0} (xs : List X) (k : ℕ) (x : X) → slice_get xs k ≡ Some x → drop k xs ≡ x ∷ drop (k + 1) xs
drop-next [] k x e = absurd cc
drop-next (y ∷ ys) zero x e = ap (λ (z : _). z ∷ ys) (same_Some y x e)
drop-next (y ∷ ys) (suc k) x e = let next : suc k + 1 ≡ suc (k + 1) = omega arith in rw next (drop-next ys k x e)

-- what each passes, the one that was read passes
pub passes_read : {X : Type 0} (p : X → Bool) (xs : List X) (k : ℕ) (x : X) → list_all p xs ≡ true → slice_get xs k ≡ Some x → p x ≡ true
passes_read p [] k x all is = absurd cc
passes_read p (y ∷ ys) zero x all is = subst (λ z. p z ≡ true) (same_Some y x is) (and_parts (p y) (list_all p ys) all).0
passes_read p (y ∷ ys) (suc k) x all is = passes_read p ys k x (and_parts (p y) (list_all p ys) all).1 is

pub variable_read : (t : TrailState) (k : ℕ) (l : ℤ) → IsTrail t → slice_get (literals_of t.entries) k ≡ Some l → variable_of l ≤ t.vars
variable_read t k l h is = (variable_bounds t.vars (variable_of l) (passes_read (is_literal_of t.vars) (literals_of t.entries) k l h.within is)).1

-- a variable that has a level has a value
pub known_at_level : (o : Option Entry) (level : ℕ) → option_map (λ (e : Entry). e.level) o ≡ Some level → IsSome o
known_at_level None level is = absurd cc
known_at_level (Some e) level is = refl

-- what a test of a level tells
pub test_told : (t : TrailState) (k level : ℕ) (l : ℤ) (test : Bool) → (read : IsRead t k l) → test ≡ option_map_or (nat_lt level) (level_of t.entries (variable_of l)) false → test ≡ nat_lt level read.entry.level
test_told t k level l test read is = is ∙ ap (λ o. option_map_or (nat_lt level) o false) read.level

pub above_told : (level n : ℕ) (test : Bool) → test ≡ nat_lt level n → test ≡ true → level < n
above_told level n test is passes = let e : nat_lt level n ≡ true = sym is ∙ passes in grind (arith, nat_tests)

pub below_told : (level n : ℕ) (test : Bool) → test ≡ nat_lt level n → test ≡ false → n ≤ level
below_told level n test is fails = let e : nat_lt level n ≡ false = sym is ∙ fails in grind (arith, nat_tests)

-- the reason of a literal that was read
pub reason_read : (t : TrailState) (k v : ℕ) (l : ℤ) (h : IsTrail t) (read : slice_get (literals_of t.entries) k ≡ Some l) → v ≡ variable_of l → reason_of t.entries v ≡ (is_read t k l h read).entry.reason
reason_read t k v l h read of_lit =
    let at = is_read t k l h read in
    ap (reason_of t.entries) (of_lit ∙ ap variable_of (sym at.lit)) ∙ ap (option_and_then (λ (e : Entry). e.reason)) (entry_of-stands t.entries k at.entry at.at h.once)

-- no more decisions stand among the first entries
pub decisions_front : (t : TrailState) (k : ℕ) → IsTrail t → decisions (take k t.entries) ≤ t.current
decisions_front t k h = omega (arith, h.current, ap decisions (take-append-drop k t.entries), sum_by-append (λ (e : Entry). cond (is_decision e) 1 0) (take k t.entries) (drop k t.entries))

-- one more entry, which was decided
pub decisions_more : (t : TrailState) (k v : ℕ) (l : ℤ) (b : Bool) → IsTrail t → slice_get (literals_of t.entries) k ≡ Some l → v ≡ variable_of l → b ≡ is_none (reason_of t.entries v) → decisions (take (k + 1) t.entries) ≡ decisions (take k t.entries) + cond b 1 0
decisions_more t k v l b h read of_lit is = by_test b refl where
  at : IsRead t k l
  at = is_read t k l h read

  d : Entry
  d = at.entry

  lt : k < length t.entries
  lt = slice_get_within t.entries k at.entry at.at

  decided : is_decision (get_or t.entries k d) ≡ b
  decided = ap is_decision (get_or_from_slice_get t.entries k at.entry d at.at) ∙ ap is_none (sym (reason_read t k v l h read of_lit)) ∙ sym is

  by_test : (c : Bool) → b ≡ c → decisions (take (k + 1) t.entries) ≡ decisions (take k t.entries) + cond c 1 0
  by_test true so = count_by_more_yes is_decision t.entries k d lt (decided ∙ so)
  by_test false so = omega (arith, count_by_more_no is_decision t.entries k d lt (decided ∙ so))

pub none_told : (b : Bool) (o : Option ℕ) → not b ≡ is_some o → b ≡ is_none o
none_told true None is = refl
none_told false (Some n) is = refl
none_told true (Some n) is = absurd cc
none_told false None is = absurd cc
