-- A loop over numbers that appends a list for each: one more step.
use Rattle.std.proofs.Common.{◌≡◌, ℕ, zero, suc, ◌+◌, List, [], ◌∷◌, ◌++◌, map, refl, sym, ap, ◌∙◌, arith, append_assoc, add-one, add-zero}
use Rattle.std.specs.List.{flat_map, range_with_len}
use Rattle.std.proofs.lemmas.List.{append-nil}
use Rattle.std.proofs.lemmas.List.FromFn.{map-range_with_len_more}

flat_map-range_suc : {A : Type 0} (f : ℕ → List A) (a n : ℕ) → flat_map f (range_with_len a (suc n)) ≡ flat_map f (range_with_len a n) ++ f (a + n)
flat_map-range_suc f a zero = rw (append-nil, add-zero) refl
flat_map-range_suc f a (suc n) =
    let at : a + 1 + n ≡ a + suc n = omega arith in
    ap (λ rest. f a ++ rest) (flat_map-range_suc f (a + 1) n ∙ ap (λ k. flat_map f (range_with_len (a + 1) n) ++ f k) at)
    ∙ sym (append_assoc (f a) (flat_map f (range_with_len (a + 1) n)) (f (a + suc n)))

pub joined_more : {A : Type 0} (f : ℕ → List A) (before now next : List A) (n : ℕ) → now ≡ before ++ flat_map f (range_with_len 0 n)
    → next ≡ now ++ f n → next ≡ before ++ flat_map f (range_with_len 0 (n + 1))
joined_more f before now next n so_far step =
    let at : 0 + n ≡ n = omega arith in
    step ∙ ap (λ xs. xs ++ f n) so_far ∙ append_assoc before (flat_map f (range_with_len 0 n)) (f n)
    ∙ ap (λ xs. before ++ xs) (ap (λ k. flat_map f (range_with_len 0 n) ++ f k) (sym at) ∙ sym (rw add-one (flat_map-range_suc f 0 n)))

pub mapped_more : {A : Type 0} (f : ℕ → A) (before now next : List A) (last : A) (n : ℕ) → now ≡ before ++ map f (range_with_len 0 n)
    → last ≡ f n → next ≡ now ++ last ∷ [] → next ≡ before ++ map f (range_with_len 0 (n + 1))
mapped_more f before now next last n so_far is step =
    let at : 0 + n ≡ n = omega arith in
    step ∙ ap (λ xs. xs ++ last ∷ []) so_far ∙ append_assoc before (map f (range_with_len 0 n)) (last ∷ [])
    ∙ ap (λ xs. before ++ xs) (ap (λ x. map f (range_with_len 0 n) ++ x ∷ []) is ∙ sym (map-range_with_len_more f 0 n n at))
