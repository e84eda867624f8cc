-- A loop over numbers that appends the clauses of each: one more step, all steps, and how many clauses there are at most.
use Rattle.std.proofs.Common.{◌≡◌, ◌<◌, ◌≤◌, ℕ, zero, suc, ◌+◌, ◌*◌, List, ◌++◌, length, refl, sym, ap, ◌∙◌, arith, append_assoc, length-append, add-one, add-zero}
use Rattle.std.specs.List.{flat_map, range_with_len}
use Rattle.std.proofs.lemmas.List.{append-nil}
use Rattle.lls_lit.specs.Formula.{Clause, Cnf}
use Rattle.lls_cardinality.specs.Pushed.{with_clauses, HasRoom}

flat_map-range_suc : {A : Type 0} (f : ℕ → List A) (a n : ℕ) → flat_map f (range_with_len a (suc n)) ≡ flat_map f (range_with_len a n) ++ f (a + n)
flat_map-range_suc f a zero = rw (append-nil, add-zero) refl
flat_map-range_suc f a (suc n) =
    let at : a + 1 + n ≡ a + suc n = omega arith in
    ap (λ rest. f a ++ rest) (flat_map-range_suc f (a + 1) n ∙ ap (λ k. flat_map f (range_with_len (a + 1) n) ++ f k) at)
    ∙ sym (append_assoc (f a) (flat_map f (range_with_len (a + 1) n)) (f (a + suc n)))

flat_map-range_more : {A : Type 0} (f : ℕ → List A) (n : ℕ) → flat_map f (range_with_len 0 (n + 1)) ≡ flat_map f (range_with_len 0 n) ++ f n
flat_map-range_more f n = rw add-one (flat_map-range_suc f 0 n ∙ ap (λ k. flat_map f (range_with_len 0 n) ++ f k) (omega arith))

-- one step later
pub pushed_more : (formula now next : Cnf) (f : ℕ → List Clause) (n : ℕ) (clauses : List Clause) → now ≡ with_clauses formula (flat_map f (range_with_len 0 n))
    → next ≡ with_clauses now clauses → clauses ≡ f n → next ≡ with_clauses formula (flat_map f (range_with_len 0 (n + 1)))
pushed_more formula now next f n clauses before step is =
    step ∙ ap (λ g. with_clauses g clauses) before
    ∙ ap (λ all. record formula { clauses = all })
    (append_assoc formula.clauses (flat_map f (range_with_len 0 n)) clauses
    ∙ ap (λ rest. formula.clauses ++ rest) (ap (λ last. flat_map f (range_with_len 0 n) ++ last) is ∙ sym (flat_map-range_more f n)))

-- all steps
pub pushed_all : (formula now : Cnf) (f : ℕ → List Clause) (n m : ℕ) → now ≡ with_clauses formula (flat_map f (range_with_len 0 n)) → n ≡ m
    → now ≡ with_clauses formula (flat_map f (range_with_len 0 m))
pushed_all formula now f n m before all = before ∙ ap (λ k. with_clauses formula (flat_map f (range_with_len 0 k))) all

-- steps of at most m clauses each
pub length-flat_map_most : {A : Type 0} (f : ℕ → List A) (m : ℕ) → ((k : ℕ) → length (f k) ≤ m) → (a n : ℕ) → length (flat_map f (range_with_len a n)) ≤ m * n
length-flat_map_most f m each a zero = omega arith
length-flat_map_most f m each a (suc n) = omega (arith, each a, length-append (f a) (flat_map f (range_with_len (a + 1) n)), length-flat_map_most f m each (a + 1) n)

-- so there is room for one more after n of fewer than `all` steps
pub HasRoom-after : (formula now : Cnf) (f : ℕ → List Clause) (m n all : ℕ) → ((k : ℕ) → length (f k) ≤ m)
    → now ≡ with_clauses formula (flat_map f (range_with_len 0 n)) → n < all → HasRoom formula (m * all) → HasRoom now m
HasRoom-after formula now f m n all each is more has =
    let few : length (flat_map f (range_with_len 0 n)) ≤ m * n = length-flat_map_most f m each 0 n in
    let count : length now.clauses ≡ length formula.clauses + length (flat_map f (range_with_len 0 n)) =
    ap (λ g. length g.clauses) is ∙ length-append formula.clauses (flat_map f (range_with_len 0 n)) in
    let last : m * n + m ≤ m * all = grind arith in
    omega arith
