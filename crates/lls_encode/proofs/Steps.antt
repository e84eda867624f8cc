-- A loop over numbers that appends the clauses of each: one more step, and how many clauses there are at most.
use Rattle.std.proofs.Common.{Bool, true, false, cond, ◌≡◌, ◌<◌, ◌≤◌, ℕ, zero, suc, ◌+◌, ◌*◌, List, [], ◌∷◌, ◌++◌, map, length, refl, sym, ap, ◌∙◌, arith, append_assoc, length-append, add-one, add-zero, Result, Ok, Err, OnOk}
use Rattle.std.specs.List.{flat_map, range_with_len}
use Rattle.std.proofs.lemmas.List.{append-nil}
use Rattle.lls_lit.specs.Formula.{Clause, Cnf}
use Rattle.lls_transition.specs.Clause.{with_clauses}
use Rattle.lls_problem.proofs.FirstOf.{flat_map-flat_map}
use Rattle.lls_encode.specs.Room.{HasRoom}

flat_map-range_suc : {A : Type 0} (f : ℕ → List A) (a n : ℕ) → flat_map f (range_with_len a (suc n)) ≡ flat_map f (range_with_len a n) ++ f (a + n)
flat_map-range_suc f a zero = rw (append-nil, add-zero) refl
flat_map-range_suc f a (suc n) =
    let at : a + 1 + n ≡ a + suc n = omega arith in
    ap (λ rest. f a ++ rest) (flat_map-range_suc f (a + 1) n ∙ ap (λ k. flat_map f (range_with_len (a + 1) n) ++ f k) at)
    ∙ sym (append_assoc (f a) (flat_map f (range_with_len (a + 1) n)) (f (a + suc n)))

pub flat_map-range_more : {A : Type 0} (f : ℕ → List A) (a n : ℕ) → flat_map f (range_with_len a (n + 1)) ≡ flat_map f (range_with_len a n) ++ f (a + n)
flat_map-range_more f a n = rw add-one (flat_map-range_suc f a n)

pub flat_map-map : {A X Y : Type 0} (f : Y → List A) (g : X → Y) (xs : List X) → flat_map f (map g xs) ≡ flat_map (λ x. f (g x)) xs
flat_map-map f g [] = refl
flat_map-map f g (x ∷ xs) = ap (λ rest. f (g x) ++ rest) (flat_map-map f g xs)

-- one step more of a loop
pub with_clauses-more : (formula : Cnf) (f : ℕ → List Clause) (a n : ℕ) (clauses : List Clause) → clauses ≡ f (a + n)
    → with_clauses (with_clauses formula (flat_map f (range_with_len a n))) clauses ≡ with_clauses formula (flat_map f (range_with_len a (n + 1)))
with_clauses-more formula f a n clauses same =
    ap (λ all. record formula { clauses = all })
    (append_assoc formula.clauses (flat_map f (range_with_len a n)) clauses
    ∙ ap (λ rest. formula.clauses ++ rest) (ap (λ last. flat_map f (range_with_len a n) ++ last) same ∙ sym (flat_map-range_more f a n)))

-- no step yet
pub with_clauses-none : (formula : Cnf) → formula ≡ with_clauses formula []
with_clauses-none formula = ap (λ all. record formula { clauses = all }) (sym (append-nil formula.clauses))

-- steps of at most m clauses each
pub length-flat_map_most : {A : Type 0} (f : ℕ → List A) (m : ℕ) → ((k : ℕ) → length (f k) ≤ m) → (a n : ℕ) → length (flat_map f (range_with_len a n)) ≤ m * n
length-flat_map_most f m each a zero = omega arith
length-flat_map_most f m each a (suc n) = omega (arith, each a, length-append (f a) (flat_map f (range_with_len (a + 1) n)), length-flat_map_most f m each (a + 1) n)

-- so there is room for `step` more after n of fewer than `all` steps
pub HasRoom-after : (formula now : Cnf) (f : ℕ → List Clause) (m a n all room : ℕ) → ((k : ℕ) → length (f k) ≤ m)
    → now ≡ with_clauses formula (flat_map f (range_with_len a n)) → n < all → m * all ≤ room → HasRoom formula room → HasRoom now m
HasRoom-after formula now f m a n all room each is more enough has =
    let few : length (flat_map f (range_with_len a n)) ≤ m * n = length-flat_map_most f m each a n in
    let count : length now.clauses ≡ length formula.clauses + length (flat_map f (range_with_len a n)) = ap (λ g. length g.clauses) is ∙ length-append formula.clauses (flat_map f (range_with_len a n)) in
    let last : m * n + m ≤ m * all = grind arith in
    omega arith

-- the room that some clauses leave
pub HasRoom-behind : (formula now : Cnf) (xs : List Clause) (room left : ℕ) → now ≡ with_clauses formula xs → length xs + left ≤ room → HasRoom formula room → HasRoom now left
HasRoom-behind formula now xs room left is few has =
    let count : length now.clauses ≡ length formula.clauses + length xs = ap (λ g. length g.clauses) is ∙ length-append formula.clauses xs in
    omega arith

-- the invariant of such a loop, one step later
pub pushed_more : (formula now next : Cnf) (f : ℕ → List Clause) (a n k : ℕ) → now ≡ with_clauses formula (flat_map f (range_with_len a n))
    → next ≡ with_clauses now (f k) → k ≡ a + n → next ≡ with_clauses formula (flat_map f (range_with_len a (n + 1)))
pushed_more formula now next f a n k before step at =
    step ∙ ap (λ g. with_clauses g (f k)) before ∙ with_clauses-more formula f a n (f k) (ap f at)

-- the end of such a loop
pub pushed_all : (formula now : Cnf) (f : ℕ → List Clause) (a n m : ℕ) → now ≡ with_clauses formula (flat_map f (range_with_len a n)) → n ≡ m
    → now ≡ with_clauses formula (flat_map f (range_with_len a m))
pushed_all formula now f a n m before all = before ∙ ap (λ k. with_clauses formula (flat_map f (range_with_len a k))) all

-- the end of a loop over numbers that goes over a list of each
pub pushed_joined : {X : Type 0} (formula now : Cnf) (g : X → List Clause) (f : ℕ → List X) (n m : ℕ)
    → now ≡ with_clauses formula (flat_map (λ k. flat_map g (f k)) (range_with_len 0 n)) → n ≡ m
    → now ≡ with_clauses formula (flat_map g (flat_map f (range_with_len 0 m)))
pushed_joined formula now g f n m before all =
    pushed_all formula now (λ k. flat_map g (f k)) 0 n m before all ∙ ap (with_clauses formula) (sym (flat_map-flat_map g f (range_with_len 0 m)))

-- or has an element of each
pub pushed_mapped : {X : Type 0} (formula now : Cnf) (g : X → List Clause) (f : ℕ → X) (n m : ℕ)
    → now ≡ with_clauses formula (flat_map (λ k. g (f k)) (range_with_len 0 n)) → n ≡ m
    → now ≡ with_clauses formula (flat_map g (map f (range_with_len 0 m)))
pushed_mapped formula now g f n m before all =
    pushed_all formula now (λ k. g (f k)) 0 n m before all ∙ ap (with_clauses formula) (sym (flat_map-map g f (range_with_len 0 m)))

-- the clauses of one element, or of none
pub with_clauses-one : {X : Type 0} (formula now : Cnf) (g : X → List Clause) (b : Bool) (x : X) → b ≡ false → now ≡ with_clauses formula (g x)
    → now ≡ with_clauses formula (flat_map g (cond b [] (x ∷ [])))
with_clauses-one formula now g true x e is = cc
with_clauses-one formula now g false x e is = is ∙ ap (with_clauses formula) (sym (append-nil (g x)))

pub with_clauses-no_one : {X : Type 0} (formula : Cnf) (g : X → List Clause) (b : Bool) (x : X) → b ≡ true
    → formula ≡ with_clauses formula (flat_map g (cond b [] (x ∷ [])))
with_clauses-no_one formula g true x e = with_clauses-none formula
with_clauses-no_one formula g false x e = cc

-- two lists of clauses, one behind the other
pub with_clauses-append : (formula : Cnf) (xs ys : List Clause) → with_clauses (with_clauses formula xs) ys ≡ with_clauses formula (xs ++ ys)
with_clauses-append formula xs ys = ap (λ all. record formula { clauses = all }) (append_assoc formula.clauses xs ys)

pub with_clauses-three : (formula one two three : Cnf) (xs ys zs : List Clause) → one ≡ with_clauses formula xs → two ≡ with_clauses one ys → three ≡ with_clauses two zs
    → three ≡ with_clauses formula (xs ++ (ys ++ zs))
with_clauses-three formula one two three xs ys zs first second third =
    third ∙ ap (λ g. with_clauses g zs) (second ∙ ap (λ g. with_clauses g ys) first)
    ∙ with_clauses-append (with_clauses formula xs) ys zs ∙ with_clauses-append formula xs (ys ++ zs)

-- a clause on Ok follows from another, or always holds
pub on_ok : {T E : Type 0} (r : Result T E) (P Q : Type 0) → (P → Q) → OnOk r P → OnOk r Q
on_ok (Ok x) P Q f h = f h
on_ok (Err e) P Q f h = h

pub on_ok_always : {T E : Type 0} (r : Result T E) (Q : Type 0) → Q → OnOk r Q
on_ok_always (Ok x) Q q = q
on_ok_always (Err e) Q q = tt

-- a choice of no clauses
pub with_clauses-unless : (formula : Cnf) (b : Bool) (clauses : List Clause) → b ≡ true → formula ≡ with_clauses formula (cond b [] clauses)
with_clauses-unless formula true clauses e = with_clauses-none formula
with_clauses-unless formula false clauses e = cc
