-- A learnt clause is fresh: the literals below the current level show it.
use Rattle.std.proofs.Common.{◌≡◌, ◌≢◌, ℕ, zero, suc, ◌+◌, ◌<◌, ◌≤◌, Bool, true, false, not, ◌||◌, cond, List, [], ◌∷◌, get_or, take, Some, refl, sym, ap, ◌∙◌, inl, inr, arith}
use Rattle.std.specs.Prelude.{ℤ, ◌⊎◌, Contains, filter, slice_get, option_map, take_while, nat_lt}
use Rattle.std.specs.List.{list_any, list_all, prefix_len}
use Rattle.std.specs.Ordering.{int_eq}
use Rattle.std.specs.FinSet as set
use Rattle.std.specs.Cmp.Derive.{both_true}
use Rattle.std.proofs.lemmas.Cmp.{int_eq_equiv}
use Rattle.std.proofs.lemmas.Bool.{lt-ltb, ltb-true}
use Rattle.std.proofs.lemmas.Bool.Decides.{Decides-int_eq}
use Rattle.std.proofs.lemmas.List.Folds.{list_any_at}
use Rattle.lls_lit.specs.Literal.{variable_of, negation}
use Rattle.lls_prooflog.specs.UnitWalk.{Live, is_among}
use Rattle.lls_prooflog.specs.Steps.{clauses_of}
use Rattle.lls_prooflog.specs.Fresh.{is_not_false, has_two, is_settled, is_closed}
use Rattle.lls_store.specs.Trail.{Entry, TrailState, literals_of, has, HasNegated, IsTrail, entry_of, level_of}
use Rattle.lls_store.specs.Clauses.{LiveClause, Literals}
use Rattle.lls_store.specs.Closed.{IsSettled, AreSettled, entries_below, IsClosedBelow}
use Rattle.lls_store.specs.Closed.IsSettled.{satisfied, two_left}
use Rattle.lls_store.proofs.Sets.{Contains-from_IsIn}
use Rattle.lls_store.proofs.Values.{variable_of-negation}
use Rattle.lls_analyse.specs.Spelled.{Spells}
use Rattle.lls_analyse.specs.Learnt.{IsFreshOver}
use Rattle.lls_lit.proofs.Flipped.{negation_twice}
use Rattle.lls_analyse.proofs.Trails.{consistent_trail, entry_at, level_at, decisions_rise, entry_of_here, has_here}
use Rattle.lls_analyse.proofs.Walk.{negated_at}
use Rattle.lls_analyse.proofs.Learning.{false_entry}
use Rattle.lls_analyse.proofs.Learned.{level_most}
use Rattle.lls_analyse.proofs.Gathering.{later, first_or_later, nothing_there, in_filter}

-- a literal is among those of entries where some entry has it
among-literals_of : (es : List Entry) (l : ℤ) → is_among (literals_of es) l ≡ has es l
among-literals_of [] l = refl
among-literals_of (e ∷ es) l = ap (λ b. b || is_among (literals_of es) l) (int_eq_equiv.symm l e.lit) ∙ ap (λ b. int_eq e.lit l || b) (among-literals_of es l)

not_true : (b : Bool) → (b ≡ true → ⊥) → b ≡ false
not_true true never = absurd (never refl)
not_true false never = refl

while_cons : (p : Entry → Bool) (x : Entry) (xs : List Entry) → p x ≡ true → take_while p (x ∷ xs) ≡ x ∷ take_while p xs
while_cons p x xs is = ap (λ b. take (cond b (1 + prefix_len p xs) 0) (x ∷ xs)) is ∙ (let one : 1 + prefix_len p xs ≡ suc (prefix_len p xs) = omega arith in ap (λ n. take n (x ∷ xs)) one)

while_stop : (p : Entry → Bool) (x : Entry) (xs : List Entry) → p x ≡ false → take_while p (x ∷ xs) ≡ []
while_stop p x xs is = ap (λ b. take (cond b (1 + prefix_len p xs) 0) (x ∷ xs)) is

-- an entry of the first ones that pass
pub record IsEarly (p : Entry → Bool) (es : List Entry) (l : ℤ) : Type 0 where
  pub place : ℕ
  pub entry : Entry
  pub here : slice_get es place ≡ Some entry
  pub same : entry.lit ≡ l
  pub passes : p entry ≡ true

pub early : (p : Entry → Bool) (es : List Entry) (l : ℤ) → has (take_while p es) l ≡ true → IsEarly p es l
early p [] l is = absurd cc
early p (x ∷ xs) l is = by_test (p x) refl is (early p xs l) where
  by_lit : (t : Bool) → int_eq x.lit l ≡ t → p x ≡ true → (t || has (take_while p xs) l) ≡ true → (has (take_while p xs) l ≡ true → IsEarly p xs l) → IsEarly p (x ∷ xs) l
  by_lit true at passes either rest = record { place = 0; entry = x; here = refl; same = (Decides-int_eq x.lit l).0 at; passes = passes }
  by_lit false at passes either rest = (let r = rest either in record { place = suc r.place; entry = r.entry; here = r.here; same = r.same; passes = r.passes })

  by_test : (b : Bool) → p x ≡ b → has (take_while p (x ∷ xs)) l ≡ true → (has (take_while p xs) l ≡ true → IsEarly p xs l) → IsEarly p (x ∷ xs) l
  by_test true passes is' rest = by_lit (int_eq x.lit l) refl passes (ap (λ (ys : List Entry). has ys l) (sym (while_cons p x xs passes)) ∙ is') rest
  by_test false fails is' rest = absurd (nothing (ap (λ (ys : List Entry). has ys l) (sym (while_stop p x xs fails)) ∙ is')) where
    nothing : false ≡ true → ⊥
    nothing e = cc

in_early : (p : Entry → Bool) (es : List Entry) (k : ℕ) (e : Entry) → slice_get es k ≡ Some e → ((j : ℕ) (x : Entry) → j ≤ k → slice_get es j ≡ Some x → p x ≡ true) → has (take_while p es) e.lit ≡ true
in_early p [] k e here all = absurd cc
in_early p (x ∷ xs) zero e here all =
    let same : x ≡ e = cc in
    ap (λ (ys : List Entry). has ys e.lit) (while_cons p x xs (all 0 x (omega arith) refl)) ∙ ap (λ b. b || has (take_while p xs) e.lit) ((Decides-int_eq x.lit e.lit).1 (ap (λ (y : Entry). y.lit) same))
in_early p (x ∷ xs) (suc k) e here all =
    ap (λ (ys : List Entry). has ys e.lit) (while_cons p x xs (all 0 x (omega arith) refl))
    ∙ either (int_eq x.lit e.lit) (in_early p xs k e here (λ j y le at. all (suc j) y (omega (arith, le)) at)) where
      either : (a : Bool) {b : Bool} → b ≡ true → (a || b) ≡ true
      either true is = refl
      either false is = is

-- two different elements
two_there : (xs : List ℤ) (l m : ℤ) → Contains xs l → Contains xs m → l ≢ m → has_two xs ≡ true
two_there [] l m inside inside' apart = absurd (nothing_there l inside)
two_there (x ∷ xs) l m inside inside' apart = by (first_or_later x xs l inside) (first_or_later x xs m inside') (λ t t'. two_there xs l m t t' apart) where
  either : (a : Bool) {b : Bool} → b ≡ true → (a || b) ≡ true
  either true is = refl
  either false is = is

  differs : (y : ℤ) → Contains xs y → x ≢ y → list_any (λ z. not (int_eq x z)) xs ≡ true
  differs y (k, lt, at) other = list_any_at (λ z. not (int_eq x z)) xs k y lt (ap (λ z. not (int_eq x z)) at ∙ ap not (not_true (int_eq x y) (λ same. other ((Decides-int_eq x y).0 same))))

  by : (x ≡ l) ⊎ Contains xs l → (x ≡ m) ⊎ Contains xs m → (Contains xs l → Contains xs m → has_two xs ≡ true) → has_two (x ∷ xs) ≡ true
  by (inl t) (inl t') rest = absurd (apart (sym t ∙ t'))
  by (inl t) (inr t') rest = ap (λ b. b || has_two xs) (differs m t' (λ same. apart (sym t ∙ same)))
  by (inr t) (inl t') rest = ap (λ b. b || has_two xs) (differs l t (λ same. apart (sym same ∙ t')))
  by (inr t) (inr t') rest = either (list_any (λ z. not (int_eq x z)) xs) (rest t t')

-- a settled clause, as it is spelled
settled_list : (es : List Entry) (lits : Literals) (ls : List ℤ) → set.from_list ls ≡ lits → IsSettled es lits → is_settled (literals_of es) ls ≡ true
settled_list es lits ls spelled (satisfied l inside true_) =
    let (k, lt, at) = Contains-from_IsIn ls l (ap (λ (s : Literals). set.contains s l) spelled ∙ inside) in
    ap (λ b. b || has_two (filter (is_not_false (literals_of es)) ls)) (list_any_at (is_among (literals_of es)) ls k l lt (ap (is_among (literals_of es)) at ∙ among-literals_of es l ∙ true_))
settled_list es lits ls spelled (two_left l m inside inside' apart open_ open_') =
    let there = Contains-from_IsIn ls l (ap (λ (s : Literals). set.contains s l) spelled ∙ inside) in
    let there' = Contains-from_IsIn ls m (ap (λ (s : Literals). set.contains s m) spelled ∙ inside') in
    let p = is_not_false (literals_of es) in
    either (list_any (is_among (literals_of es)) ls) (two_there (filter p ls) l m (in_filter p ls l there (left l open_)) (in_filter p ls m there' (left m open_')) apart) where
      left : (l : ℤ) → ¬ HasNegated es l → is_not_false (literals_of es) l ≡ true
      left l open_ = ap not (not_true (is_among (literals_of es) (negation l)) (λ is. open_ (sym (among-literals_of es (negation l)) ∙ is)))

      either : (a : Bool) {b : Bool} → b ≡ true → (a || b) ≡ true
      either true is = refl
      either false is = is

closed_list : (es : List Entry) (live : List LiveClause) (pairs : Live) → Spells live pairs → AreSettled live es → is_closed (literals_of es) (clauses_of pairs) ≡ true
closed_list es [] [] spells settled = refl
closed_list es [] (p ∷ ps) spells settled = absurd spells
closed_list es (c ∷ cs) [] spells settled = absurd spells
closed_list es (c ∷ cs) (p ∷ ps) spells settled =
    both_true (settled_list es c.lits p.1 spells.1.0 (settled c (0, omega arith, refl))) (closed_list es cs ps spells.1.1 (λ clause inside. settled clause (later c cs clause inside)))

all_of : (p : ℤ → Bool) (xs : List ℤ) → ((m : ℤ) → Contains xs m → p m ≡ true) → list_all p xs ≡ true
all_of p [] all = refl
all_of p (x ∷ xs) all = both_true (all x (0, omega arith, refl)) (all_of p xs (λ m inside. all m (later x xs m inside)))

-- the entries below the current level, and their literals
abbrev below : TrailState → List Entry
below trail = entries_below trail.current trail.entries

abbrev trues : TrailState → List ℤ
trues trail = literals_of (below trail)

-- the literals below the current level, and the one literal of the clause that is of it, show that the clause is fresh
pub fresh_over : (live : List LiveClause) (trail : TrailState) (clause : List ℤ) (first : ℤ) → IsTrail trail → IsClosedBelow live trail → Contains clause first → level_of trail.entries (variable_of first) ≡ Some trail.current
    → ((m : ℤ) → Contains clause m → HasNegated trail.entries m) → ((m : ℤ) → Contains clause m → (m ≡ first) ⊎ (level_of trail.entries (variable_of m) ≢ Some trail.current)) → IsFreshOver live clause
fresh_over live trail clause first kept closed inside current false_ others = λ pairs spells. (
  first,
  (
    (trues trail),
    record {
      in_clause = list_any_at (int_eq first) clause inside.0 first inside.1 ((Decides-int_eq first (get_or clause inside.0 first)).1 (sym inside.2));
      consistent = all_of (is_not_false (trues trail)) (trues trail) (λ m there. ap not (not_true (is_among (trues trail) (negation m)) (λ is. consistent_trail trail kept m (wider m (among m there)) (wider (negation m) (sym (among-literals_of (below trail) (negation m)) ∙ is)))));
      others_false = all_of (λ l. int_eq l first || is_among (trues trail) (negation l)) clause other_false;
      unset_not_true = not_true (is_among (trues trail) first) (λ is. consistent_trail trail kept first (wider first (sym (among-literals_of (below trail) first) ∙ is)) (false_ first inside));
      unset_not_false = not_true (is_among (trues trail) (negation first)) (λ is. not_below (sym (among-literals_of (below trail) (negation first)) ∙ is));
      closed = closed_list (below trail) live pairs spells closed;
    },
  ),
) where
  wider : (l : ℤ) → has (below trail) l ≡ true → has trail.entries l ≡ true
  wider l is =
      let at = early (λ (e : Entry). nat_lt e.level trail.current) trail.entries l is in
      ap (has trail.entries) (sym at.same) ∙ has_here trail.entries at.place at.entry at.here

  among : (m : ℤ) → Contains (trues trail) m → has (below trail) m ≡ true
  among m (k, lt, at) = sym (among-literals_of (below trail) m) ∙ list_any_at (int_eq m) (trues trail) k m lt ((Decides-int_eq m (get_or (trues trail) k m)).1 (sym at))

  not_below : has (below trail) (negation first) ≡ true → ⊥
  not_below is =
      let at = early (λ (e : Entry). nat_lt e.level trail.current) trail.entries (negation first) is in
      let found : entry_of trail.entries (variable_of first) ≡ Some at.entry = ap (entry_of trail.entries) (sym (variable_of-negation first) ∙ ap variable_of (sym at.same)) ∙ entry_of_here trail.entries at.place at.entry kept.once at.here in
      let level : at.entry.level ≡ trail.current = told (sym (ap (option_map (λ (e : Entry). e.level)) found) ∙ current) in
      omega (arith, ltb-true at.entry.level trail.current at.passes, level) where
        told : {a b : ℕ} → Some a ≡ Some b → a ≡ b
        told e = cc

  lower_below : (m : ℤ) → Contains clause m → level_of trail.entries (variable_of m) ≢ Some trail.current → has (below trail) (negation m) ≡ true
  lower_below m there other =
      let (e, found) = false_entry trail.entries m (false_ m there) in
      let (k, at) = entry_at trail.entries (variable_of m) e found in
      let level : level_of trail.entries (variable_of m) ≡ Some e.level = ap (option_map (λ (x : Entry). x.level)) found in
      let most = level_most trail m e.level kept level in
      let lt : e.level < trail.current = omega (arith, most, apart_from e.level (λ same. other (level ∙ ap Some same))) in
      let same : negation e.lit ≡ m = negated_at trail.entries k e m (consistent_trail trail kept) (false_ m there) at.place at.here in
      let lit : e.lit ≡ negation m = sym (negation_twice e.lit) ∙ ap negation same in
      ap (has (below trail)) (sym lit) ∙ in_early (λ (x : Entry). nat_lt x.level trail.current) trail.entries k e at.here
      (λ j x le here. lt-ltb x.level trail.current (omega (arith, lt, level_at trail k e kept at.here, level_at trail j x kept here, decisions_rise trail.entries (j + 1) (k + 1) (omega (arith, le))))) where
        apart_from : (n : ℕ) → (n ≡ trail.current → ⊥) → n ≢ trail.current
        apart_from n other' = other'

  other_false : (m : ℤ) → Contains clause m → (int_eq m first || is_among (trues trail) (negation m)) ≡ true
  other_false m there = elim (others m there) [
    | inl t ↦ ap (λ b. b || is_among (trues trail) (negation m)) ((Decides-int_eq m first).1 t)
    | inr t ↦ either (int_eq m first) (among-literals_of (below trail) (negation m) ∙ lower_below m there t)
  ] where
    either : (a : Bool) {b : Bool} → b ≡ true → (a || b) ≡ true
    either true is = refl
    either false is = is
