-- The clauses of one variable say that it is true where `more`, or else where `fewer` and the cell.
use Rattle.std.proofs.Common.{◌≡◌, ℕ, zero, suc, ℤ, pos, negsuc, List, Bool, true, false, not, ◌||◌, ◌&&◌, refl, sym, add-one}
use Rattle.std.proofs.Math.Bool.{beq}
use Rattle.lls_lit.specs.Literal.{negation}
use Rattle.lls_lit.specs.Formula.{value_at, is_true, satisfies}
use Rattle.lls_cardinality.specs.Counter.{at_least, corner_clauses, first_cell_clauses, first_count_clauses, inner_clauses, place_clauses}

-- a literal that isn't 0, and its negation
abbrev pub is_literal : ℤ → Bool
is_literal (pos zero) = false
is_literal (pos (suc n)) = true
is_literal (negsuc n) = true

not_not : (b : Bool) → not (not b) ≡ b
not_not true = refl
not_not false = refl

is_true-negation : (values : List Bool) (l : ℤ) → is_literal l ≡ true → is_true values (negation l) ≡ not (is_true values l)
is_true-negation values (pos zero) lit = cc
is_true-negation values (pos (suc n)) lit = refl
is_true-negation values (negsuc n) lit = rw add-one (sym (not_not (value_at values n)))

is_literal-at_least : (base top k j : ℕ) → is_literal (at_least base top k j) ≡ true
is_literal-at_least base top k j = rw add-one refl

-- the value that says that at least j of the first i cells are live, constants included
abbrev pub value_of : List Bool → ℕ → ℕ → ℕ → ℕ → Bool
value_of values base top i zero = true
value_of values base top zero (suc j) = false
value_of values base top (suc k) (suc j) = is_true values (at_least base top k j)

-- the clauses' values, by those of their literals
corner_table : (c t : Bool) → ((not c || (t || false)) && ((not t || (c || false)) && true)) ≡ beq t (c && true)
corner_table true true = refl
corner_table true false = refl
corner_table false true = refl
corner_table false false = refl

first_cell_table : (c t : Bool) → ((not t || (c || false)) && ((not t || false) && true)) ≡ beq t (c && false)
first_cell_table true true = refl
first_cell_table true false = refl
first_cell_table false true = refl
first_cell_table false false = refl

first_count_table : (c t m : Bool) → ((not m || (t || false)) && ((not c || (t || false)) && ((not t || (m || (c || false))) && true))) ≡ beq t (m || (c && true))
first_count_table true true true = refl
first_count_table true true false = refl
first_count_table true false true = refl
first_count_table true false false = refl
first_count_table false true true = refl
first_count_table false true false = refl
first_count_table false false true = refl
first_count_table false false false = refl

inner_table : (c t m f : Bool)
    → ((not m || (t || false)) && ((not c || (not f || (t || false))) && ((not t || (m || (c || false))) && ((not t || (m || (f || false))) && true)))) ≡ beq t (m || (c && f))
inner_table true true true true = refl
inner_table true true true false = refl
inner_table true true false true = refl
inner_table true true false false = refl
inner_table true false true true = refl
inner_table true false true false = refl
inner_table true false false true = refl
inner_table true false false false = refl
inner_table false true true true = refl
inner_table false true true false = refl
inner_table false true false true = refl
inner_table false true false false = refl
inner_table false false true true = refl
inner_table false false true false = refl
inner_table false false false true = refl
inner_table false false false false = refl

satisfies-corner : (values : List Bool) (cell this : ℤ) → is_literal cell ≡ true → is_literal this ≡ true
    → satisfies values (corner_clauses cell this) ≡ beq (is_true values this) (is_true values cell && true)
satisfies-corner values cell this c t =
    rw (is_true-negation values cell c, is_true-negation values this t) (corner_table (is_true values cell) (is_true values this))

satisfies-first_cell : (values : List Bool) (cell this : ℤ) → is_literal cell ≡ true → is_literal this ≡ true
    → satisfies values (first_cell_clauses cell this) ≡ beq (is_true values this) (is_true values cell && false)
satisfies-first_cell values cell this c t =
    rw (is_true-negation values this t) (first_cell_table (is_true values cell) (is_true values this))

satisfies-first_count : (values : List Bool) (cell this more : ℤ) → is_literal cell ≡ true → is_literal this ≡ true → is_literal more ≡ true
    → satisfies values (first_count_clauses cell this more) ≡ beq (is_true values this) (is_true values more || (is_true values cell && true))
satisfies-first_count values cell this more c t m =
    rw (is_true-negation values cell c, is_true-negation values this t, is_true-negation values more m)
    (first_count_table (is_true values cell) (is_true values this) (is_true values more))

satisfies-inner : (values : List Bool) (cell this more fewer : ℤ) → is_literal cell ≡ true → is_literal this ≡ true → is_literal more ≡ true → is_literal fewer ≡ true
    → satisfies values (inner_clauses cell this more fewer) ≡ beq (is_true values this) (is_true values more || (is_true values cell && is_true values fewer))
satisfies-inner values cell this more fewer c t m f =
    rw (is_true-negation values cell c, is_true-negation values this t, is_true-negation values more m, is_true-negation values fewer f)
    (inner_table (is_true values cell) (is_true values this) (is_true values more) (is_true values fewer))

pub satisfies-place_clauses : (values : List Bool) (base top : ℕ) (cell : ℤ) (k j : ℕ) → is_literal cell ≡ true
    → satisfies values (place_clauses base top cell k j) ≡ beq (value_of values base top (suc k) (suc j)) (value_of values base top k (suc j) || (is_true values cell && value_of values base top k j))
satisfies-place_clauses values base top cell zero zero c = satisfies-corner values cell (at_least base top 0 0) c (is_literal-at_least base top 0 0)
satisfies-place_clauses values base top cell zero (suc j) c = satisfies-first_cell values cell (at_least base top 0 (suc j)) c (is_literal-at_least base top 0 (suc j))
satisfies-place_clauses values base top cell (suc k) zero c =
    satisfies-first_count values cell (at_least base top (suc k) 0) (at_least base top k 0) c (is_literal-at_least base top (suc k) 0) (is_literal-at_least base top k 0)
satisfies-place_clauses values base top cell (suc k) (suc j) c =
    satisfies-inner values cell (at_least base top (suc k) (suc j)) (at_least base top k (suc j)) (at_least base top k j) c
    (is_literal-at_least base top (suc k) (suc j)) (is_literal-at_least base top k (suc j)) (is_literal-at_least base top k j)
