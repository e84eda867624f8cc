-- What holds of each element of lists that are joined end to end.
use Rattle.std.proofs.Common.{◌≡◌, ◌<◌, ◌≤◌, ℕ, zero, suc, ◌+◌, List, [], ◌∷◌, ◌++◌, length, get_or, map, arith, subst, inl, inr}
use Rattle.std.specs.List.{AllByRecursion as Each, flat_map, range_with_len}
use Rattle.std.proofs.lemmas.List.Concat.{flat_map_single}
use Rattle.std.proofs.lemmas.Bool.{cases_lt}

pub Each-append : {X : Type 0} (P : X → Type 0) (xs ys : List X) → Each P xs → Each P ys → Each P (xs ++ ys)
Each-append P [] ys first last = last
Each-append P (x ∷ xs) ys first last = (first.0, Each-append P xs ys first.1 last)

pub Each-front : {X : Type 0} (P : X → Type 0) (xs ys : List X) → Each P (xs ++ ys) → Each P xs
Each-front P [] ys each = tt
Each-front P (x ∷ xs) ys each = (each.0, Each-front P xs ys each.1)

pub Each-back : {X : Type 0} (P : X → Type 0) (xs ys : List X) → Each P (xs ++ ys) → Each P ys
Each-back P [] ys each = each
Each-back P (x ∷ xs) ys each = Each-back P xs ys each.1

-- of the lists of a list's elements
pub Each-flat_map : {X Y : Type 0} (P : Y → Type 0) (f : X → List Y) (xs : List X) (d : X) → ((k : ℕ) → k < length xs → Each P (f (get_or xs k d)))
    → Each P (flat_map f xs)
Each-flat_map P f [] d each = tt
Each-flat_map P f (x ∷ xs) d each =
    Each-append P (f x) (flat_map f xs) (each 0 (omega arith)) (Each-flat_map P f xs d (λ k below. each (suc k) (omega arith)))

pub flat_map-each : {X Y : Type 0} (P : Y → Type 0) (f : X → List Y) (xs : List X) (d : X) → Each P (flat_map f xs)
    → (k : ℕ) → k < length xs → Each P (f (get_or xs k d))
flat_map-each P f [] d each k below = absurd (omega arith)
flat_map-each P f (x ∷ xs) d each zero below = Each-front P (f x) (flat_map f xs) each
flat_map-each P f (x ∷ xs) d each (suc k) below = flat_map-each P f xs d (Each-back P (f x) (flat_map f xs) each) k (omega arith)

-- of the lists of the numbers of a range
from_range : {Y : Type 0} (P : Y → Type 0) (f : ℕ → List Y) (a n : ℕ) → ((k : ℕ) → a ≤ k → k < a + n → Each P (f k)) → Each P (flat_map f (range_with_len a n))
from_range P f a zero each = tt
from_range P f a (suc n) each =
    Each-append P (f a) (flat_map f (range_with_len (a + 1) n)) (each a (omega arith) (omega arith)) (from_range P f (a + 1) n (λ k low high. each k (omega arith) (omega arith)))

in_range : {Y : Type 0} (P : Y → Type 0) (f : ℕ → List Y) (a n : ℕ) → Each P (flat_map f (range_with_len a n)) → (k : ℕ) → a ≤ k → k < a + n → Each P (f k)
in_range P f a zero each k low high = absurd (omega arith)
in_range P f a (suc n) each k low high =
    elim (cases_lt a k) [
      | inl less ↦ in_range P f (a + 1) n (Each-back P (f a) (flat_map f (range_with_len (a + 1) n)) each) k (omega arith) (omega arith)
      | inr rest ↦ let same : a ≡ k = omega arith in subst (λ j. Each P (f j)) same (Each-front P (f a) (flat_map f (range_with_len (a + 1) n)) each)
    ]

pub Each-range : {Y : Type 0} (P : Y → Type 0) (f : ℕ → List Y) (n : ℕ) → ((k : ℕ) → k < n → Each P (f k)) → Each P (flat_map f (range_with_len 0 n))
Each-range P f n each = from_range P f 0 n (λ k low high. each k (omega arith))

pub range-each : {Y : Type 0} (P : Y → Type 0) (f : ℕ → List Y) (n : ℕ) → Each P (flat_map f (range_with_len 0 n)) → (k : ℕ) → k < n → Each P (f k)
range-each P f n each k below = in_range P f 0 n each k (omega arith) (omega arith)

-- of an element for each number of a range
pub Each-mapped : {Y : Type 0} (P : Y → Type 0) (f : ℕ → Y) (n : ℕ) → ((k : ℕ) → k < n → P (f k)) → Each P (map f (range_with_len 0 n))
Each-mapped P f n each =
    subst (Each P) (flat_map_single f (range_with_len 0 n)) (Each-range P (λ k. f k ∷ []) n (λ k below. (each k below, tt)))

pub mapped-each : {Y : Type 0} (P : Y → Type 0) (f : ℕ → Y) (n : ℕ) → Each P (map f (range_with_len 0 n)) → (k : ℕ) → k < n → P (f k)
mapped-each P f n each k below =
    (range-each P (λ j. f j ∷ []) n (rw (flat_map_single f (range_with_len 0 n)) each) k below).0
