-- Literals under an assignment, and clauses of a range of numbers.
use Rattle.std.proofs.Common.{◌≡◌, ◌<◌, ◌≤◌, ℕ, zero, suc, ◌+◌, ℤ, pos, negsuc, Bool, true, false, not, ◌||◌, List, refl, sym, ◌∙◌, arith, add-one}
use Rattle.std.specs.List.{flat_map, range_with_len}
use Rattle.std.proofs.lemmas.Bool.{and_from}
use Rattle.std.proofs.lemmas.List.Folds.{list_all-append}
use Rattle.lls_lit.specs.Literal.{negation}
use Rattle.lls_lit.specs.Formula.{Clause, value_at, is_true, satisfies_clause, satisfies}

-- a literal that isn't 0, and its negation
abbrev pub is_literal : ℤ → Bool
is_literal (pos zero) = false
is_literal (pos (suc n)) = true
is_literal (negsuc n) = true

not_not : (b : Bool) → not (not b) ≡ b
not_not true = refl
not_not false = refl

pub is_true-negation : (values : List Bool) (l : ℤ) → is_literal l ≡ true → is_true values (negation l) ≡ not (is_true values l)
is_true-negation values (pos zero) lit = cc
is_true-negation values (pos (suc n)) lit = refl
is_true-negation values (negsuc n) lit = rw add-one (sym (not_not (value_at values n)))

-- a clause of a row is true where some input differs from its bit
pub or_right : (a b : Bool) → b ≡ true → (a || b) ≡ true
or_right true b e = refl
or_right false b e = e

pub or_left : (a b : Bool) → a ≡ true → (a || b) ≡ true
or_left true b e = refl
or_left false b e = cc

-- each of the clauses of numbers in a range is satisfied
pub satisfies-range : (values : List Bool) (f : ℕ → List Clause) (a n : ℕ) → ((k : ℕ) → a ≤ k → k < a + n → satisfies values (f k) ≡ true) → satisfies values (flat_map f (range_with_len a n)) ≡ true
satisfies-range values f a zero each = refl
satisfies-range values f a (suc n) each =
    list_all-append (satisfies_clause values) (f a) (flat_map f (range_with_len (a + 1) n))
    ∙ and_from _ _ (each a (omega arith) (omega arith)) (satisfies-range values f (a + 1) n (λ k low high. each k (omega arith) (omega arith)))
