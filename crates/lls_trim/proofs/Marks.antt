-- Marks of the needed additions, as a pass from the last one back sets them.
use Rattle.std.proofs.Common.{◌≡◌, ℕ, zero, suc, ◌+◌, ◌-◌, ◌<◌, ◌≤◌, Bool, true, false, ◌||◌, List, [], ◌∷◌, All, length, get_or, set, Option, Some, refl, sym, ap, ◌∙◌, subst, inl, inr, arith}
use Rattle.std.specs.Prelude.{slice_get, replicate}
use Rattle.std.specs.List.{Contains}
use Rattle.std.specs.Option.{unwrap_or}
use Rattle.std.proofs.lemmas.Bool.Decides.{eqb_tells}
use Rattle.std.proofs.lemmas.List.{get_or-set_same, get_or-set_other, length-set, length-replicate}
use Rattle.std.proofs.lemmas.Option.{slice_get_within}
use Rattle.lls_trim.specs.declared.source.Source.{Source}
use Rattle.lls_trim.specs.declared.source.Source.TheVariants.{Given, Added}
use Rattle.lls_trim.specs.Inferences.{Inference}
use Rattle.lls_trim.specs.Needed.{sources_in, sources_at, ComesFrom, IsNeeded, last, source, IsNeededRat, NeedsNoRat}
use Rattle.lls_trim.specs.Trimmed.{AreMarked, is_marked}
use Rattle.lls_trim.specs.Marking.{IsBelow, AreOrdered, is_one, names_one}

-- a source that is contained is named, and the other way round
one_is : (j : ℕ) → is_one j (Added j) ≡ true
one_is j = elim (eqb_tells j j) [ inl t ↦ t.0 | inr t ↦ absurd (t.1 refl) ]

is_one-same : (j : ℕ) (s : Source) → is_one j s ≡ true → s ≡ Added j
is_one-same j (Given id) e = absurd cc
is_one-same j (Added k) e = elim (eqb_tells k j) [ inl t ↦ ap Added t.1 | inr t ↦ let clash : true ≡ false = sym e ∙ t.0 in absurd cc ]

pub names_one-from : (j : ℕ) (ss : List Source) (k : ℕ) → k < length ss → get_or ss k (Added j) ≡ Added j → names_one j ss ≡ true
names_one-from j [] k lt e = absurd (omega arith)
names_one-from j (s ∷ ss) zero lt e = ap (λ b. b || names_one j ss) (ap (is_one j) e ∙ one_is j)
names_one-from j (s ∷ ss) (suc k) lt e =
    let more = names_one-from j ss k (omega arith) e in
    elim (is_one j s) as (λ b. (b || names_one j ss) ≡ true) [ true ↦ refl | false ↦ more ]

pub contains_one : (j : ℕ) (ss : List Source) → names_one j ss ≡ true → Contains ss (Added j)
contains_one j [] e = absurd cc
contains_one j (s ∷ ss) e =
    elim (is_one j s) as (λ b. is_one j s ≡ b → (b || names_one j ss) ≡ true → Contains (s ∷ ss) (Added j)) [
      | true ↦ λ is _. (0, omega arith, is_one-same j s is)
      | false ↦ λ _ h. let more = contains_one j ss h in (suc more.0, omega (arith, more.1), more.2)
    ] refl e

-- the addition among those before it
pub below_one : (bound j : ℕ) (ss : List Source) → All (IsBelow bound) ss → Contains ss (Added j) → j < bound
below_one bound j ss all c = subst (IsBelow bound) c.2 (all c.0 (Added j) c.1)

-- a pass that looked at the additions from a place on
pub record IsMarking (inferences : List Inference) (marks : List Bool) (place : ℕ) : Type 0 where
  pub as_many : length marks ≡ length inferences
  pub within : place ≤ length inferences
  pub needed : (k : ℕ) → is_marked marks k ≡ true → IsNeeded inferences k
  pub ended : (k : ℕ) → k + 1 ≡ length inferences → is_marked marks k ≡ true
  pub closed : (k j : ℕ) → place ≤ k → is_marked marks k ≡ true → ComesFrom inferences k j → is_marked marks j ≡ true

-- the additions below a place aren't at fault
abbrev pub NoRatBelow : List Inference → ℕ → Type 0
NoRatBelow inferences place = (k line : ℕ) → IsNeededRat inferences k line → k < place → ⊥

all_unset : (n k : ℕ) → get_or (replicate n false) k false ≡ false
all_unset zero k = refl
all_unset (suc n) zero = refl
all_unset (suc n) (suc k) = all_unset n k

or_right : (a b : Bool) → b ≡ true → (a || b) ≡ true
or_right true b e = refl
or_right false b e = e

pub marked_within : (marks : List Bool) (k : ℕ) → is_marked marks k ≡ true → k < length marks
marked_within [] k e = absurd cc
marked_within (m ∷ ms) zero e = omega arith
marked_within (m ∷ ms) (suc k) e = omega (arith, marked_within ms k e)

-- at the start the last one alone is marked
pub marking_starts : (inferences : List Inference) (marks : List Bool) (k : ℕ) → marks ≡ replicate (length inferences) false → 0 < length inferences → k ≡ length inferences → IsMarking inferences (set marks (k - 1) true) k
marking_starts inferences marks n none some is = record {
  as_many = rw length-set (rw none (length-replicate (length inferences) false));
  within = omega (arith, is);
  needed = λ k e. elim (eqb_tells k (n - 1)) [
    | inl t ↦ last k (omega (arith, t.1, some, is))
    | inr t ↦ absurd (unmarked k t.1 e)
  ];
  ended = λ k e. let at : k ≡ n - 1 = omega (arith, is) in let lt : k < length marks = omega (arith, ap length none, length-replicate {A = Bool} (length inferences) false) in rw (← at) (get_or-set_same marks k true false lt);
  closed = λ k j le e c. let lt = marked_within (set marks (n - 1) true) k e in absurd (omega (arith, le, is, lt, length-set {A = Bool} marks (n - 1) true, ap length none, length-replicate {A = Bool} (length inferences) false));
}
  where
    unset : (k : ℕ) → get_or marks k false ≡ false
    unset k = ap (λ ms. get_or ms k false) none ∙ all_unset (length inferences) k

    unmarked : (k : ℕ) → (k ≡ n - 1 → ⊥) → is_marked (set marks (n - 1) true) k ≡ true → ⊥
    unmarked k apart e = let clash : true ≡ false = sym e ∙ get_or-set_other marks (n - 1) k true false apart ∙ unset k in cc

-- the addition before the place is looked at: it isn't marked
pub marking_passes : (inferences : List Inference) (marks : List Bool) (place : ℕ) → IsMarking inferences marks place → is_marked marks (place - 1) ≡ false → IsMarking inferences marks (place - 1)
marking_passes inferences marks place m none = record {
  as_many = m.as_many;
  within = omega (arith, m.within);
  needed = m.needed;
  ended = m.ended;
  closed = λ k j le e c. elim (eqb_tells k (place - 1)) [
    | inl t ↦ let clash : true ≡ false = sym e ∙ ap (is_marked marks) t.1 ∙ none in absurd cc
    | inr t ↦ m.closed k j (omega (arith, le, t.1)) e c
  ];
}

-- it is marked, and so are those that it comes from by then
pub marking_goes_on : (inferences : List Inference) (marks marks2 : List Bool) (place : ℕ) (i : Inference) → AreOrdered inferences → IsMarking inferences marks place → 0 < place → is_marked marks (place - 1) ≡ true → slice_get inferences (place - 1) ≡ Some i
    → ((j : ℕ) → is_marked marks2 j ≡ (is_marked marks j || names_one j (unwrap_or i.by []))) → length marks2 ≡ length marks → IsMarking inferences marks2 (place - 1)
marking_goes_on inferences marks marks2 place i ordered m some is there more len = record {
  as_many = len ∙ m.as_many;
  within = omega (arith, m.within);
  needed = λ j e. either_needed j (sym (more j) ∙ e);
  ended = λ k e. stays k (m.ended k e);
  closed = λ k j le e c. elim (eqb_tells k (place - 1)) [
    | inl t ↦ named j (subst (λ n. ComesFrom inferences n j) t.1 c)
    | inr t ↦ stays j (m.closed k j (omega (arith, le, t.1)) (was k le t.1 e) c)
  ];
}
  where
    k0 : ℕ
    k0 = place - 1

    sources_are : sources_at inferences (place - 1) ≡ unwrap_or i.by []
    sources_are = ap sources_in there

    stays : (j : ℕ) → is_marked marks j ≡ true → is_marked marks2 j ≡ true
    stays j e = more j ∙ ap (λ b. b || names_one j (unwrap_or i.by [])) e

    named : (j : ℕ) → ComesFrom inferences (place - 1) j → is_marked marks2 j ≡ true
    named j c =
        let c2 = subst (λ (ss : List Source). Contains ss (Added j)) sources_are c in
        more j ∙ or_right (is_marked marks j) (names_one j (unwrap_or i.by [])) (names_one-from j (unwrap_or i.by []) c2.0 c2.1 c2.2)

    either_needed : (j : ℕ) → (is_marked marks j || names_one j (unwrap_or i.by [])) ≡ true → IsNeeded inferences j
    either_needed j e = elim (is_marked marks j) as (λ b. is_marked marks j ≡ b → (b || names_one j (unwrap_or i.by [])) ≡ true → IsNeeded inferences j) [
      | true ↦ λ t _. m.needed j t
      | false ↦ λ _ h. source (place - 1) j (m.needed (place - 1) is) (subst (λ (ss : List Source). Contains ss (Added j)) (sym sources_are) (contains_one j (unwrap_or i.by []) h))
    ] refl e

    was : (k : ℕ) → place - 1 ≤ k → (k ≡ place - 1 → ⊥) → is_marked marks2 k ≡ true → is_marked marks k ≡ true
    was k le apart e = elim (is_marked marks k) as (λ b. is_marked marks k ≡ b → (b || names_one k (unwrap_or i.by [])) ≡ true → is_marked marks k ≡ true) [
      | true ↦ λ t _. t
      | false ↦ λ _ h.
          let c = subst (λ (ss : List Source). Contains ss (Added k)) (sym sources_are) (contains_one k (unwrap_or i.by []) h) in
          let lt = below_one (place - 1) k (sources_at inferences (place - 1)) (ordered (place - 1)) c in absurd (omega (arith, lt, le))
    ] refl (sym (more k) ∙ e)

-- all are looked at
pub marking_ends : (inferences : List Inference) (marks : List Bool) (place : ℕ) → IsMarking inferences marks place → place ≡ 0 → AreMarked inferences marks
marking_ends inferences marks place m none = record {
  as_many = m.as_many;
  needed = λ k. (m.needed k, λ n. set_all k n);
}
  where
    set_all : (k : ℕ) → IsNeeded inferences k → is_marked marks k ≡ true
    set_all at (last k e) = m.ended k e
    set_all at (source k j n c) = m.closed k j (omega (arith, none)) (set_all k n) c

-- what an addition comes from is in range
pub ordered_by : (inferences : List Inference) (k bound : ℕ) (i : Inference) → AreOrdered inferences → slice_get inferences k ≡ Some i → k ≤ bound → All (IsBelow bound) (unwrap_or i.by [])
ordered_by inferences k bound i ordered there le = λ n d lt. more (get_or (unwrap_or i.by []) n d) (subst (λ (ss : List Source). All (IsBelow k) ss) (ap sources_in there) (ordered k) n d lt) where
  more : (s : Source) → IsBelow k s → IsBelow bound s
  more (Given id) h = tt
  more (Added j) h = omega (arith, h, le)

pub ordered_some : (inferences : List Inference) (k bound : ℕ) (i : Inference) (by : Option (List Source)) → AreOrdered inferences → slice_get inferences k ≡ Some i → k ≤ bound → i.by ≡ by → (ss : List Source) → by ≡ Some ss → All (IsBelow bound) ss
ordered_some inferences k bound i by ordered there le is ss e = subst (λ (o : Option (List Source)). All (IsBelow bound) (unwrap_or o [])) (is ∙ e) (ordered_by inferences k bound i ordered there le)

-- where none below the end is at fault, none is
pub no_rat : (inferences : List Inference) (place : ℕ) → NoRatBelow inferences place → length inferences ≤ place → NeedsNoRat inferences
no_rat inferences place none le k line rat = none k line rat (omega (arith, le, slice_get_within inferences k rat.inference rat.there))
