-- Lists of literals: what holds of the literals among them, of those that are kept, and of one alone.
use Rattle.std.proofs.Common.{◌≡◌, zero, suc, ◌+◌, Bool, true, false, not, ◌||◌, cond, List, [], ◌∷◌, refl, sym, ap, arith}
use Rattle.std.specs.Prelude.{ℤ, pos, negsuc, filter}
use Rattle.std.specs.List.{list_all, list_any}
use Rattle.std.specs.Ordering.{int_eq}
use Rattle.std.proofs.lemmas.Bool.{and_parts, and_from, not-true}
use Rattle.std.proofs.lemmas.Bool.Decides.{Decides-int_eq}
use Rattle.lls_lit.specs.Literal.{negation}
use Rattle.lls_prooflog.specs.UnitWalk.{is_among}

pub same_literal : (l m : ℤ) → int_eq l m ≡ true → l ≡ m
same_literal l m e = (Decides-int_eq l m).0 e

-- what every literal passes, one among them passes
pub passes_among : (test : ℤ → Bool) (lits : List ℤ) (l : ℤ) → list_all test lits ≡ true → is_among lits l ≡ true → test l ≡ true
passes_among test [] l all e = absurd cc
passes_among test (m ∷ ms) l all e =
    let parts = and_parts (test m) (list_all test ms) all in
    elim (int_eq l m) as (λ b. int_eq l m ≡ b → (b || is_among ms l) ≡ true → test l ≡ true) [
      | true ↦ λ is _. rw (same_literal l m is) parts.0
      | false ↦ λ _ h. passes_among test ms l parts.1 h
    ] refl e

-- where every literal fails a test, none passes it
pub none_passes : (test : ℤ → Bool) (lits : List ℤ) → list_all (λ l. not (test l)) lits ≡ true → list_any test lits ≡ false
none_passes test [] all = refl
none_passes test (l ∷ ls) all =
    let parts = and_parts (not (test l)) (list_all (λ m. not (test m)) ls) all in
    rw (not-true (test l) parts.0) (none_passes test ls parts.1)

-- what follows of each literal among others
pub all_from : (test : ℤ → Bool) (clause part : List ℤ) → list_all (is_among clause) part ≡ true → ((l : ℤ) → is_among clause l ≡ true → test l ≡ true) → list_all test part ≡ true
all_from test clause [] within each = refl
all_from test clause (l ∷ ls) within each =
    let parts = and_parts (is_among clause l) (list_all (is_among clause) ls) within in
    and_from (test l) (list_all test ls) (each l parts.0) (all_from test clause ls parts.1 each)

-- what is kept by a test passes another where it fails the one or passes the other
pub filter_passes : (keep test : ℤ → Bool) (lits : List ℤ) → list_all (λ l. not (keep l) || test l) lits ≡ true → list_all test (filter keep lits) ≡ true
filter_passes keep test [] all = refl
filter_passes keep test (l ∷ ls) all =
    let parts = and_parts (not (keep l) || test l) (list_all (λ m. not (keep m) || test m) ls) all in
    let rest = filter_passes keep test ls parts.1 in
    elim (keep l) as (λ b. (not b || test l) ≡ true → list_all test (cond b (l ∷ filter keep ls) (filter keep ls)) ≡ true) [
      | true ↦ λ h. rw (h, rest) refl
      | false ↦ λ _. rest
    ] parts.0

-- literals that pass a weaker test are among the kept ones too
pub any_kept : (test keep : ℤ → Bool) (lits : List ℤ) → ((l : ℤ) → test l ≡ true → keep l ≡ true) → list_any test lits ≡ true → list_any test (filter keep lits) ≡ true
any_kept test keep [] each e = e
any_kept test keep (l ∷ ls) each e =
    elim (test l) as (λ t. test l ≡ t → (t || list_any test ls) ≡ true → list_any test (cond (keep l) (l ∷ filter keep ls) (filter keep ls)) ≡ true) [
      | true ↦ λ is _. rw (each l is, is) refl
      | false ↦ λ is h. let rest = any_kept test keep ls each h in
          elim (keep l) as (λ b. list_any test (cond b (l ∷ filter keep ls) (filter keep ls)) ≡ true) [ true ↦ rw (is, rest) refl | false ↦ rest ]
    ] refl e

pub any_of_more : (test keep more : ℤ → Bool) (lits : List ℤ) → ((l : ℤ) → keep l ≡ true → more l ≡ true) → list_any test (filter keep lits) ≡ true → list_any test (filter more lits) ≡ true
any_of_more test keep more [] each e = e
any_of_more test keep more (l ∷ ls) each e =
    elim (keep l) as (λ b. keep l ≡ b → list_any test (cond b (l ∷ filter keep ls) (filter keep ls)) ≡ true → list_any test (cond (more l) (l ∷ filter more ls) (filter more ls)) ≡ true) [
      | true ↦ λ is h. rw (each l is) (elim (test l) as (λ t. (t || list_any test (filter keep ls)) ≡ true → (t || list_any test (filter more ls)) ≡ true) [
        | true ↦ λ _. refl
        | false ↦ λ k. any_of_more test keep more ls each k
      ] h)
      | false ↦ λ _ h. let rest = any_of_more test keep more ls each h in
          elim (more l) as (λ b. list_any test (cond b (l ∷ filter more ls) (filter more ls)) ≡ true) [
            | true ↦ elim (test l) as (λ t. (t || list_any test (filter more ls)) ≡ true) [ true ↦ refl | false ↦ rest ]
            | false ↦ rest
          ]
    ] refl e

-- a literal that is true where all the literals are the same
pub true_alone : (test : ℤ → Bool) (l : ℤ) (ls : List ℤ) → list_all (int_eq l) ls ≡ true → list_any test (l ∷ ls) ≡ true → test l ≡ true
true_alone test l [] same e = elim (test l) as (λ b. (b || false) ≡ true → b ≡ true) [ true ↦ λ _. refl | false ↦ λ h. h ] e
true_alone test l (m ∷ ms) same e =
    let both = and_parts (int_eq l m) (list_all (int_eq l) ms) same in
    let equal : m ≡ l = sym (same_literal l m both.0) in
    true_alone test l ms both.1 (once (test l) (list_any test ms) (rw equal at e))
  where
    once : (a b : Bool) → (a || (a || b)) ≡ true → (a || b) ≡ true
    once true b e = refl
    once false b e = e

pub negation-negation : (l : ℤ) → negation (negation l) ≡ l
negation-negation (pos zero) = refl
negation-negation (pos (suc n)) = ap (λ m. pos m) (let e : n + 1 ≡ suc n = omega arith in e)
negation-negation (negsuc n) = ap negation (ap (λ m. pos m) (let e : n + 1 ≡ suc n = omega arith in e))
