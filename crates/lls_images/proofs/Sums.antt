-- Sums over rows and columns, in which rows and columns may change places.
use Rattle.std.proofs.Common.{◌≡◌, ◌<◌, ℕ, zero, suc, ◌+◌, ◌-◌, Bool, false, cond, List, [], ◌∷◌, length, get_or, refl, sym, ap, ◌∙◌, arith}
use Rattle.std.specs.List.{count_by, flat_map}
use Rattle.std.proofs.lemmas.List.Concat.{flat_map-cons}
use Rattle.std.proofs.lemmas.List.Sums.{sum_by-cons, sum_by-append}

-- the values of a function at the first n numbers, summed up
abbrev pub total : (ℕ → ℕ) → ℕ → ℕ
total f zero = 0
total f (suc n) = f 0 + total (λ i. f (suc i)) n

pub total-same : (f g : ℕ → ℕ) (n : ℕ) → ((i : ℕ) → i < n → f i ≡ g i) → total f n ≡ total g n
total-same f g zero same = refl
total-same f g (suc n) same =
    ap (λ m. m + total (λ i. f (suc i)) n) (same 0 (omega arith)) ∙ ap (λ m. g 0 + m) (total-same (λ i. f (suc i)) (λ i. g (suc i)) n (λ i below. same (suc i) (omega arith)))

total-last : (f : ℕ → ℕ) (n : ℕ) → total f (suc n) ≡ total f n + f n
total-last f zero = omega arith
total-last f (suc n) =
    let later = total-last (λ i. f (suc i)) n in
    omega (arith, later)

-- from the last number on
pub total-reversed : (f : ℕ → ℕ) (n : ℕ) → total (λ i. f (n - 1 - i)) n ≡ total f n
total-reversed f zero = refl
total-reversed f (suc n) =
    let first : suc n - 1 - 0 ≡ n = omega arith in
    let rest = total-same (λ i. f (suc n - 1 - suc i)) (λ i. f (n - 1 - i)) n (λ i below. ap f (omega arith)) in
    let last = total-last f n in
    ap (λ m. f m + total (λ i. f (suc n - 1 - suc i)) n) first ∙ ap (λ m. f n + m) (rest ∙ total-reversed f n) ∙ omega (arith, last)

total-zero : (n : ℕ) → total (λ i. 0) n ≡ 0
total-zero zero = refl
total-zero (suc n) = let later = total-zero n in omega (arith, later)

total-add : (f g : ℕ → ℕ) (n : ℕ) → total (λ i. f i + g i) n ≡ total f n + total g n
total-add f g zero = refl
total-add f g (suc n) =
    let later = total-add (λ i. f (suc i)) (λ i. g (suc i)) n in
    omega (arith, later)

-- row by row, or column by column
pub total-exchanged : (f : ℕ → ℕ → ℕ) (m n : ℕ) → total (λ y. total (f y) n) m ≡ total (λ x. total (λ y. f y x) m) n
total-exchanged f zero n = sym (total-zero n)
total-exchanged f (suc m) n =
    ap (λ rest. total (f 0) n + rest) (total-exchanged (λ y. f (suc y)) m n) ∙ sym (total-add (f 0) (λ x. total (λ y. f (suc y) x) m) n)

-- the live cells of a row, and of rows
pub count-total : (row : List Bool) → count_by (λ live. live) row ≡ total (λ x. cond (get_or row x false) 1 0) (length row)
count-total [] = refl
count-total (live ∷ row) = sum_by-cons (λ b. cond b 1 0) live row ∙ ap (λ n. cond live 1 0 + n) (count-total row)

pub count-rows : (rows : List (List Bool)) → count_by (λ live. live) (flat_map (λ row. row) rows) ≡ total (λ y. count_by (λ live. live) (get_or rows y [])) (length rows)
count-rows [] = refl
count-rows (row ∷ rows) =
    ap (count_by (λ live. live)) (flat_map-cons (λ row. row) row rows)
    ∙ sum_by-append (λ b. cond b 1 0) row (flat_map (λ row. row) rows) ∙ ap (λ n. count_by (λ live. live) row + n) (count-rows rows)
