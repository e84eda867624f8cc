-- The first element of a list that passes a test.
use Rattle.std.proofs.Common.{◌≡◌, ◌<◌, ℕ, zero, suc, ◌+◌, Bool, true, false, cond, List, [], ◌∷◌, length, get_or, take, Option, None, Some, refl, ap, ◌∙◌, arith, add-one}
use Rattle.std.specs.List.{find}
use Rattle.std.specs.Option.{option_map}

-- what passes, behind elements that don't
pub found_at : {X : Type 0} (test : X → Bool) (xs : List X) (k : ℕ) (d : X) → find test (take k xs) ≡ None → k < length xs → test (get_or xs k d) ≡ true → find test xs ≡ Some (get_or xs k d)
found_at test [] k d none inside passes = absurd (omega arith)
found_at test (x ∷ xs) zero d none inside passes = ap (λ b. cond b (Some x) (find test xs)) passes
found_at test (x ∷ xs) (suc k) d none inside passes =
    elim (test x) as (λ b. cond b (Some x) (find test (take k xs)) ≡ None → cond b (Some x) (find test xs) ≡ Some (get_or xs k d)) [
      | true ↦ λ here. cc
      | false ↦ λ here. found_at test xs k d here (omega arith) passes
    ] none

-- one element more that doesn't
none_suc : {X : Type 0} (test : X → Bool) (xs : List X) (k : ℕ) (d : X) → find test (take k xs) ≡ None → k < length xs → test (get_or xs k d) ≡ false → find test (take (suc k) xs) ≡ None
none_suc test [] k d none inside fails = absurd (omega arith)
none_suc test (x ∷ xs) zero d none inside fails = ap (λ b. cond b (Some x) None) fails
none_suc test (x ∷ xs) (suc k) d none inside fails =
    elim (test x) as (λ b. cond b (Some x) (find test (take k xs)) ≡ None → cond b (Some x) (find test (take (suc k) xs)) ≡ None) [
      | true ↦ λ here. cc
      | false ↦ λ here. none_suc test xs k d here (omega arith) fails
    ] none

pub found_none_more : {X : Type 0} (test : X → Bool) (xs : List X) (k : ℕ) (d : X) → find test (take k xs) ≡ None → k < length xs → test (get_or xs k d) ≡ false → find test (take (k + 1) xs) ≡ None
found_none_more test xs k d none inside fails = rw add-one (none_suc test xs k d none inside fails)

-- where none is found, each fails
pub none_found : {X : Type 0} (test : X → Bool) (xs : List X) → find test xs ≡ None → (k : ℕ) (d : X) → k < length xs → test (get_or xs k d) ≡ false
none_found test [] none k d inside = absurd (omega arith)
none_found test (x ∷ xs) none zero d inside =
    elim (test x) as (λ b. cond b (Some x) (find test xs) ≡ None → b ≡ false) [ true ↦ λ here. cc | false ↦ λ here. refl ] none
none_found test (x ∷ xs) none (suc k) d inside =
    elim (test x) as (λ b. cond b (Some x) (find test xs) ≡ None → test (get_or xs k d) ≡ false) [
      | true ↦ λ here. cc
      | false ↦ λ here. none_found test xs here k d (omega arith)
    ] none

-- and where each fails, none is found
pub nothing_found : {X : Type 0} (test : X → Bool) (xs : List X) → ((k : ℕ) (d : X) → k < length xs → test (get_or xs k d) ≡ false) → find test xs ≡ None
nothing_found test [] fails = refl
nothing_found test (x ∷ xs) fails =
    ap (λ b. cond b (Some x) (find test xs)) (fails 0 x (omega arith)) ∙ nothing_found test xs (λ k d inside. fails (suc k) d (omega arith))

-- where nothing is made of what is found, nothing is
pub nothing_mapped : {X Y : Type 0} (f : X → Y) (o : Option X) → option_map f o ≡ None → o ≡ None
nothing_mapped f None none = refl
nothing_mapped f (Some x) none = cc
