-- The first element of lists that are joined end to end.
use Rattle.std.proofs.Common.{◌≡◌, ◌<◌, ◌≤◌, ℕ, zero, suc, ◌+◌, Bool, true, false, cond, List, [], ◌∷◌, ◌++◌, None, Some, refl, sym, ap, ◌∙◌, arith}
use Rattle.std.specs.List.{flat_map, range_with_len}
use Rattle.std.proofs.lemmas.Grind.{flat_map-append}
use Rattle.lls_symmetry.proofs.Joined.{joined_more}
use Rattle.lls_problem.specs.Firsts.{first}

pub nothing_first : {X : Type 0} (xs : List X) → None ≡ first xs → xs ≡ []
nothing_first [] none = refl
nothing_first (x ∷ xs) none = cc

pub both_empty : {X : Type 0} (xs ys : List X) → xs ++ ys ≡ [] → (xs ≡ []) × (ys ≡ [])
both_empty [] ys none = (refl, none)
both_empty (x ∷ xs) ys none = cc

-- the first of the first list that has one
pub first_before : {X : Type 0} (xs ys : List X) (v : X) → Some v ≡ first xs → Some v ≡ first (xs ++ ys)
first_before [] ys v found = cc
first_before (x ∷ xs) ys v found = found

pub first_behind : {X : Type 0} (xs ys : List X) → xs ≡ [] → first (xs ++ ys) ≡ first ys
first_behind xs ys none = ap (λ zs. first (zs ++ ys)) none

found_from : {X : Type 0} (f : ℕ → List X) (a n k : ℕ) (v : X) → flat_map f (range_with_len a k) ≡ [] → Some v ≡ first (f (a + k)) → k < n
    → Some v ≡ first (flat_map f (range_with_len a n))
found_from f a zero k v none found below = absurd (omega arith)
found_from f a (suc n) zero v none found below =
    let here : a + 0 ≡ a = omega arith in
    first_before (f a) (flat_map f (range_with_len (a + 1) n)) v (found ∙ ap (λ j. first (f j)) here)
found_from f a (suc n) (suc k) v none found below =
    let both = both_empty (f a) (flat_map f (range_with_len (a + 1) k)) none in
    let there : a + suc k ≡ a + 1 + k = omega arith in
    found_from f (a + 1) n k v both.1 (found ∙ ap (λ j. first (f j)) there) (omega arith) ∙ sym (first_behind (f a) (flat_map f (range_with_len (a + 1) n)) both.0)

-- a loop over numbers that looks for the first element of their lists: it is found, or not yet, or not at all
pub found_first : {X : Type 0} (f : ℕ → List X) (n k : ℕ) (v : X) → flat_map f (range_with_len 0 k) ≡ [] → Some v ≡ first (f k) → k < n
    → Some v ≡ first (flat_map f (range_with_len 0 n))
found_first f n k v none found below =
    let here : k ≡ 0 + k = omega arith in
    found_from f 0 n k v none (found ∙ ap (λ j. first (f j)) here) below

pub none_more : {X : Type 0} (f : ℕ → List X) (k : ℕ) → flat_map f (range_with_len 0 k) ≡ [] → None ≡ first (f k) → flat_map f (range_with_len 0 (k + 1)) ≡ []
none_more f k none here = sym (joined_more f [] [] (f k) k (sym none) refl) ∙ nothing_first (f k) here

pub none_at_all : {X : Type 0} (f : ℕ → List X) (n k : ℕ) → flat_map f (range_with_len 0 k) ≡ [] → k ≡ n → None ≡ first (flat_map f (range_with_len 0 n))
none_at_all f n k none all = sym (ap first (sym (ap (λ j. flat_map f (range_with_len 0 j)) all) ∙ none))

-- lists of lists of lists
pub flat_map-flat_map : {X Y Z : Type 0} (g : Y → List Z) (f : X → List Y) (xs : List X) → flat_map g (flat_map f xs) ≡ flat_map (λ x. flat_map g (f x)) xs
flat_map-flat_map g f [] = refl
flat_map-flat_map g f (x ∷ xs) = flat_map-append g (f x) (flat_map f xs) ∙ ap (λ rest. flat_map g (f x) ++ rest) (flat_map-flat_map g f xs)

-- a list of one element, or none
pub one_where : {X : Type 0} (b : Bool) (v : X) → b ≡ true → Some v ≡ first (cond b (v ∷ []) [])
one_where true v holds = refl
one_where false v holds = cc

pub none_where : {X : Type 0} (b : Bool) (v : X) → b ≡ false → None ≡ first (cond b (v ∷ []) [])
none_where true v fails = cc
none_where false v fails = refl

-- where the lists of a range are joined to nothing, each has nothing, and the other way round
empty_from : {X : Type 0} (f : ℕ → List X) (a n k : ℕ) → flat_map f (range_with_len a n) ≡ [] → k < n → f (a + k) ≡ []
empty_from f a zero k none below = absurd (omega arith)
empty_from f a (suc n) zero none below =
    let here : a + 0 ≡ a = omega arith in
    ap f here ∙ (both_empty (f a) (flat_map f (range_with_len (a + 1) n)) none).0
empty_from f a (suc n) (suc k) none below =
    let there : a + suc k ≡ a + 1 + k = omega arith in
    ap f there ∙ empty_from f (a + 1) n k (both_empty (f a) (flat_map f (range_with_len (a + 1) n)) none).1 (omega arith)

pub empty_in_range : {X : Type 0} (f : ℕ → List X) (n k : ℕ) → flat_map f (range_with_len 0 n) ≡ [] → k < n → f k ≡ []
empty_in_range f n k none below =
    let here : k ≡ 0 + k = omega arith in
    ap f here ∙ empty_from f 0 n k none below

empty_all_from : {X : Type 0} (f : ℕ → List X) (a n : ℕ) → ((k : ℕ) → a ≤ k → k < a + n → f k ≡ []) → flat_map f (range_with_len a n) ≡ []
empty_all_from f a zero each = refl
empty_all_from f a (suc n) each =
    ap (λ xs. xs ++ flat_map f (range_with_len (a + 1) n)) (each a (omega arith) (omega arith)) ∙ empty_all_from f (a + 1) n (λ k low high. each k (omega arith) (omega arith))

pub empty_range : {X : Type 0} (f : ℕ → List X) (n : ℕ) → ((k : ℕ) → k < n → f k ≡ []) → flat_map f (range_with_len 0 n) ≡ []
empty_range f n each = empty_all_from f 0 n (λ k low high. each k (omega arith))

-- one element or none
pub empty_where : {X : Type 0} (b : Bool) (v : X) → b ≡ false → cond b (v ∷ []) [] ≡ []
empty_where true v fails = cc
empty_where false v fails = refl

pub false_where_empty : {X : Type 0} (b : Bool) (v : X) → cond b (v ∷ []) [] ≡ [] → b ≡ false
false_where_empty true v none = cc
false_where_empty false v none = refl
