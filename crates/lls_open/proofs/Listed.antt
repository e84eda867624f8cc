-- A loop over numbers that appends the elements of each.
use Rattle.std.proofs.Common.{◌≡◌, ℕ, ◌+◌, List, ◌++◌, ap, ◌∙◌, sym, append_assoc}
use Rattle.std.specs.List.{flat_map, range_with_len}
use Rattle.lls_encode.proofs.Steps.{flat_map-range_more}

-- one step more
pub appended_more : {A : Type 0} (before now next : List A) (f : ℕ → List A) (a n k : ℕ) → now ≡ before ++ flat_map f (range_with_len a n) → next ≡ now ++ f k → k ≡ a + n
    → next ≡ before ++ flat_map f (range_with_len a (n + 1))
appended_more before now next f a n k so_far step at =
    step
    ∙ ap (λ xs. xs ++ f k) so_far
    ∙ append_assoc before (flat_map f (range_with_len a n)) (f k)
    ∙ ap (λ xs. before ++ xs) (ap (λ m. flat_map f (range_with_len a n) ++ f m) at ∙ sym (flat_map-range_more f a n))

-- all steps
pub appended_all : {A : Type 0} (before now : List A) (f : ℕ → List A) (a b n m : ℕ) → now ≡ before ++ flat_map f (range_with_len a n) → a ≡ b → n ≡ m
    → now ≡ before ++ flat_map f (range_with_len b m)
appended_all before now f a b n m so_far first all =
    so_far ∙ ap (λ k. before ++ flat_map f (range_with_len k n)) first ∙ ap (λ k. before ++ flat_map f (range_with_len b k)) all
