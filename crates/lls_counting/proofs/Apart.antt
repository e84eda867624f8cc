-- Numbers with no two equal, along lists of clauses that grow at the end and lose some.
use Rattle.std.proofs.Common.{◌≡◌, ◌<◌, ◌≤◌, zero, suc, ℕ, Bool, true, false, ◌||◌, cond, List, [], ◌∷◌, ◌++◌, length, map, refl, arith}
use Rattle.std.specs.Prelude.{filter, ⊤}
use Rattle.std.specs.List.{list_any, AllByRecursion, IsDistinct}
use Rattle.std.proofs.Math.Dec.{eqb, eqb-zero-suc, eqb-suc-zero}
use Rattle.std.specs.Cmp.{nat_eq_equiv}
use Rattle.std.proofs.lemmas.Map.Keys.{IsDistinct-cons}
use Rattle.std.proofs.lemmas.Map.Made.{IsDistinct-from_count}
use Rattle.std.proofs.lemmas.Bool.{eqb-true}
use Rattle.std.proofs.lemmas.Map.Steps.{length-le_from_distinct_below}

pub all_push : {X : Type 0} (P : X → Type 0) (xs : List X) (x : X) → AllByRecursion P xs → P x → AllByRecursion P (xs ++ x ∷ [])
all_push P [] x all last = (last, tt)
all_push P (y ∷ ys) x all last = (all.0, all_push P ys x all.1 last)

pub all_filter : {X : Type 0} (P : X → Type 0) (keep : X → Bool) (xs : List X) → AllByRecursion P xs → AllByRecursion P (filter keep xs)
all_filter P keep [] all = tt
all_filter P keep (x ∷ xs) all =
    elim (keep x) as (λ b. AllByRecursion P (cond b (x ∷ filter keep xs) (filter keep xs))) [
      | true ↦ (all.0, all_filter P keep xs all.1)
      | false ↦ all_filter P keep xs all.1
    ]

pub all_map : {X : Type 0} (P : X → Type 0) (Q : ℕ → Type 0) (f : X → ℕ) (xs : List X) → ((x : X) → P x → Q (f x)) → AllByRecursion P xs → AllByRecursion Q (map f xs)
all_map P Q f [] each all = tt
all_map P Q f (x ∷ xs) each all = (each x all.0, all_map P Q f xs each all.1)

all_map_filter : {X : Type 0} (Q : ℕ → Type 0) (f : X → ℕ) (keep : X → Bool) (xs : List X) → AllByRecursion Q (map f xs) → AllByRecursion Q (map f (filter keep xs))
all_map_filter Q f keep [] all = tt
all_map_filter Q f keep (x ∷ xs) all =
    elim (keep x) as (λ b. AllByRecursion Q (map f (cond b (x ∷ filter keep xs) (filter keep xs)))) [
      | true ↦ (all.0, all_map_filter Q f keep xs all.1)
      | false ↦ all_map_filter Q f keep xs all.1
    ]

-- no two are equal
abbrev pub IsApart : List ℕ → Type 0
IsApart [] = ⊤
IsApart (n ∷ ns) = AllByRecursion (λ m. eqb n m ≡ false) ns × IsApart ns

pub apart_push : (ns : List ℕ) (n : ℕ) → IsApart ns → AllByRecursion (λ m. eqb m n ≡ false) ns → IsApart (ns ++ n ∷ [])
apart_push [] n apart other = (tt, tt)
apart_push (m ∷ ms) n apart other = (all_push (λ k. eqb m k ≡ false) ms n apart.0 other.0, apart_push ms n apart.1 other.1)

pub apart_filter : {X : Type 0} (f : X → ℕ) (keep : X → Bool) (xs : List X) → IsApart (map f xs) → IsApart (map f (filter keep xs))
apart_filter f keep [] apart = tt
apart_filter f keep (x ∷ xs) apart =
    elim (keep x) as (λ b. IsApart (map f (cond b (x ∷ filter keep xs) (filter keep xs)))) [
      | true ↦ (all_map_filter (λ k. eqb (f x) k ≡ false) f keep xs apart.0, apart_filter f keep xs apart.1)
      | false ↦ apart_filter f keep xs apart.1
    ]

distinct_from_apart : (ns : List ℕ) → IsApart ns → IsDistinct eqb ns
distinct_from_apart [] apart = IsDistinct-from_count nat_eq_equiv [] refl
distinct_from_apart (n ∷ ns) apart = IsDistinct-cons eqb n ns apart.0 (distinct_from_apart ns apart.1)

-- positive numbers below a bound with no two equal are fewer
pub fewer_than_bound : (ns : List ℕ) (bound : ℕ) → IsApart ns → AllByRecursion (λ n. (1 ≤ n) × (n < bound)) ns → 0 < bound → length ns < bound
fewer_than_bound ns bound apart within positive =
    let many = length-le_from_distinct_below (0 ∷ ns) bound (distinct_from_apart (0 ∷ ns) (others ns within, apart)) inside in
    omega (arith, many)
  where
    others : (ms : List ℕ) → AllByRecursion (λ n. (1 ≤ n) × (n < bound)) ms → AllByRecursion (λ n. eqb 0 n ≡ false) ms
    others [] all = tt
    others (zero ∷ ms) all = absurd (let low = all.0.0 in omega (arith, low))
    others (suc m ∷ ms) all = (eqb-zero-suc m, others ms all.1)

    below : (ms : List ℕ) (q : ℕ) → AllByRecursion (λ n. (1 ≤ n) × (n < bound)) ms → list_any (eqb q) ms ≡ true → q < bound
    below [] q all some = absurd cc
    below (m ∷ ms) q all some =
        elim (eqb q m) as (λ b. eqb q m ≡ b → (b || list_any (eqb q) ms) ≡ true → q < bound) [
          | true ↦ λ is _. rw (eqb-true q m is) all.0.1
          | false ↦ λ _ h. below ms q all.1 h
        ] refl some

    inside : (q : ℕ) → list_any (eqb q) (0 ∷ ns) ≡ true → q < bound
    inside zero some = positive
    inside (suc q) some = below ns (suc q) within (rw (eqb-suc-zero q) at some)
