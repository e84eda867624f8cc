-- All clauses of a counter are satisfied exactly where those of each of its variables are.
use Rattle.std.proofs.Common.{◌≡◌, ◌<◌, ◌≤◌, ℕ, zero, suc, ◌+◌, ℤ, pos, List, Bool, true, false, ◌&&◌, length, get_or, eqb, refl, sym, ◌∙◌, subst, arith}
use Rattle.std.specs.List.{flat_map, range_with_len}
use Rattle.std.proofs.lemmas.Bool.{and_parts, and_from, eqb-true}
use Rattle.std.proofs.lemmas.Bool.Decides.{nat_tests}
use Rattle.std.proofs.lemmas.List.Folds.{list_all-append}
use Rattle.lls_lit.specs.Formula.{Clause, satisfies_clause, satisfies}
use Rattle.lls_cardinality.specs.Counter.{place_clauses, row_clauses, counter_clauses}

satisfies-range_suc : (values : List Bool) (f : ℕ → List Clause) (a n : ℕ)
    → satisfies values (flat_map f (range_with_len a (suc n))) ≡ (satisfies values (f a) && satisfies values (flat_map f (range_with_len (a + 1) n)))
satisfies-range_suc values f a n = list_all-append (satisfies_clause values) (f a) (flat_map f (range_with_len (a + 1) n))

satisfies-range : (values : List Bool) (f : ℕ → List Clause) (a n : ℕ) → ((k : ℕ) → a ≤ k → k < a + n → satisfies values (f k) ≡ true) → satisfies values (flat_map f (range_with_len a n)) ≡ true
satisfies-range values f a zero each = refl
satisfies-range values f a (suc n) each =
    satisfies-range_suc values f a n
    ∙ and_from _ _ (each a (omega arith) (omega arith)) (satisfies-range values f (a + 1) n (λ k low high. each k (omega arith) (omega arith)))

below : (a k : ℕ) → a ≤ k → eqb a k ≡ false → a + 1 ≤ k
below a k low other = grind (arith, nat_tests)

in_range : (values : List Bool) (f : ℕ → List Clause) (a n k : ℕ) → satisfies values (flat_map f (range_with_len a n)) ≡ true → a ≤ k → k < a + n → satisfies values (f k) ≡ true
in_range values f a zero k all low high = absurd (omega arith)
in_range values f a (suc n) k all low high =
    let parts = and_parts (satisfies values (f a)) (satisfies values (flat_map f (range_with_len (a + 1) n))) (sym (satisfies-range_suc values f a n) ∙ all) in
    elim (eqb a k) as (λ b. eqb a k ≡ b → satisfies values (f k) ≡ true) [
      | true ↦ λ same. subst (λ m. satisfies values (f m) ≡ true) (eqb-true a k same) parts.0
      | false ↦ λ other. in_range values f (a + 1) n k parts.1 (below a k low other) (omega arith)
    ] refl

pub satisfied_place : (values : List Bool) (base top : ℕ) (cells : List ℤ) (k j : ℕ) → satisfies values (counter_clauses base top cells) ≡ true → k < length cells → j < top
    → satisfies values (place_clauses base top (get_or cells k (pos 0)) k j) ≡ true
unfolding counter_clauses
satisfied_place values base top cells k j all k_in j_in =
    in_range values (place_clauses base top (get_or cells k (pos 0)) k) 0 top j
    (in_range values (row_clauses base top cells) 0 (length cells) k all (omega arith) (omega arith)) (omega arith) (omega arith)

pub satisfies-each_place : (values : List Bool) (base top : ℕ) (cells : List ℤ)
    → ((k j : ℕ) → k < length cells → j < top → satisfies values (place_clauses base top (get_or cells k (pos 0)) k j) ≡ true) → satisfies values (counter_clauses base top cells) ≡ true
unfolding counter_clauses
satisfies-each_place values base top cells each =
    satisfies-range values (row_clauses base top cells) 0 (length cells)
    (λ k k_low k_in. satisfies-range values (place_clauses base top (get_or cells k (pos 0)) k) 0 top (λ j j_low j_in. each k j (omega arith) (omega arith)))
