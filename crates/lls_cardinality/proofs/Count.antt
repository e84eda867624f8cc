-- The clauses of a counter are satisfied exactly where its variables count.
use Rattle.std.proofs.Common.{◌↔◌, ◌≡◌, ◌<◌, ◌≤◌, ℕ, zero, suc, ◌+◌, ℤ, pos, negsuc, List, [], ◌∷◌, Bool, true, false, cond, ◌||◌, ◌&&◌, leb, length, get_or, refl, sym, ap, ◌∙◌, arith, add-one}
use Rattle.std.proofs.Math.Bool.{beq}
use Rattle.std.proofs.Math.Dec.{leb-zero, leb-suc-zero}
use Rattle.std.proofs.lemmas.Bool.{and_parts}
use Rattle.std.proofs.lemmas.Bool.Decides.{nat_tests}
use Rattle.std.proofs.lemmas.List.Sums.{count_by_more_yes, count_by_more_no}
use Rattle.lls_lit.specs.Formula.{is_true, is_literal_of, is_within, satisfies}
use Rattle.lls_cardinality.specs.Counter.{counter_clauses, live_among, Counts}
use Rattle.lls_cardinality.proofs.Truth.{is_literal, value_of, satisfies-place_clauses}
use Rattle.lls_cardinality.proofs.Rows.{satisfied_place, satisfies-each_place}

-- one cell more
pub live_among-more : (values : List Bool) (cells : List ℤ) (k : ℕ) → k < length cells
    → live_among values cells (suc k) ≡ cond (is_true values (get_or cells k (pos 0))) (suc (live_among values cells k)) (live_among values cells k)
live_among-more values cells k inside = ap (live_among values cells) (sym (add-one k)) ∙ by_value (is_true values (get_or cells k (pos 0))) refl
  where
    by_value : (b : Bool) → is_true values (get_or cells k (pos 0)) ≡ b → live_among values cells (k + 1) ≡ cond b (suc (live_among values cells k)) (live_among values cells k)
    by_value true e = count_by_more_yes (is_true values) cells k (pos 0) inside e ∙ add-one _
    by_value false e = count_by_more_no (is_true values) cells k (pos 0) inside e

at_least-more : (j n : ℕ) (live : Bool) → leb (suc j) (cond live (suc n) n) ≡ (leb (suc j) n || (live && leb j n))
at_least-more j n true = grind (arith, nat_tests)
at_least-more j n false = grind (arith, nat_tests)

-- literals of the cells
literal_of : (vars : ℕ) (l : ℤ) → is_literal_of vars l ≡ true → is_literal l ≡ true
literal_of vars (pos zero) within = within
literal_of vars (pos (suc n)) within = refl
literal_of vars (negsuc n) within = refl

pub literal_at : (vars : ℕ) (cells : List ℤ) (k : ℕ) → is_within vars cells ≡ true → k < length cells → is_literal_of vars (get_or cells k (pos 0)) ≡ true
literal_at vars [] k within inside = absurd (omega arith)
literal_at vars (cell ∷ cells) zero within inside = (and_parts _ _ within).0
literal_at vars (cell ∷ cells) (suc k) within inside = literal_at vars cells k (and_parts _ _ within).1 (omega arith)

cell_literal : (vars : ℕ) (cells : List ℤ) (k : ℕ) → is_within vars cells ≡ true → k < length cells → is_literal (get_or cells k (pos 0)) ≡ true
cell_literal vars cells k within inside = literal_of vars (get_or cells k (pos 0)) (literal_at vars cells k within inside)

equal : (a b : Bool) → beq a b ≡ true → a ≡ b
equal true true e = refl
equal true false e = cc
equal false true e = cc
equal false false e = refl

at_none : (values : List Bool) (base top i : ℕ) → value_of values base top i 0 ≡ true
at_none values base top zero = refl
at_none values base top (suc k) = refl

beq-same : (a b : Bool) → a ≡ b → beq a b ≡ true
beq-same true true e = refl
beq-same true false e = cc
beq-same false true e = cc
beq-same false false e = refl

-- at least j of the first i cells, by the variables
values_count : (values : List Bool) (base top vars : ℕ) (cells : List ℤ) → is_within vars cells ≡ true → satisfies values (counter_clauses base top cells) ≡ true
    → (i j : ℕ) → i ≤ length cells → j ≤ top → value_of values base top i j ≡ leb j (live_among values cells i)
values_count values base top vars cells within all i zero i_in j_in = at_none values base top i ∙ sym (leb-zero _)
values_count values base top vars cells within all zero (suc j) i_in j_in = sym (leb-suc-zero j)
values_count values base top vars cells within all (suc k) (suc j) i_in j_in =
    let cell : ℤ = get_or cells k (pos 0) in
    let clause = satisfied_place values base top cells k j all (omega arith) (omega arith) in
    let this = equal _ _ (sym (satisfies-place_clauses values base top cell k j (cell_literal vars cells k within (omega arith))) ∙ clause) in
    this
    ∙ ap (λ more. more || (is_true values cell && value_of values base top k j)) (values_count values base top vars cells within all k (suc j) (omega arith) j_in)
    ∙ ap (λ fewer. leb (suc j) (live_among values cells k) || (is_true values cell && fewer)) (values_count values base top vars cells within all k j (omega arith) (omega arith))
    ∙ sym (at_least-more j (live_among values cells k) (is_true values cell))
    ∙ ap (leb (suc j)) (sym (live_among-more values cells k (omega arith)))

counted : (values : List Bool) (base top vars : ℕ) (cells : List ℤ) → is_within vars cells ≡ true → satisfies values (counter_clauses base top cells) ≡ true → Counts values base top cells
counted values base top vars cells within all k j k_in j_in =
    values_count values base top vars cells within all (suc k) (suc j) (omega arith) (omega arith)
    ∙ ap (λ n. leb n (live_among values cells (suc k))) (sym (add-one j)) ∙ ap (λ i. leb (j + 1) (live_among values cells i)) (sym (add-one k))

-- and where they count, the clauses are satisfied
count_values : (values : List Bool) (base top : ℕ) (cells : List ℤ) → Counts values base top cells → (i j : ℕ) → i ≤ length cells → j ≤ top → value_of values base top i j ≡ leb j (live_among values cells i)
count_values values base top cells counts zero zero i_in j_in = sym (leb-zero (live_among values cells 0))
count_values values base top cells counts zero (suc j) i_in j_in = sym (leb-suc-zero j)
count_values values base top cells counts (suc k) zero i_in j_in = sym (leb-zero (live_among values cells (suc k)))
count_values values base top cells counts (suc k) (suc j) i_in j_in =
    counts k j (omega arith) (omega arith) ∙ ap (λ n. leb n (live_among values cells (k + 1))) (add-one j) ∙ ap (λ i. leb (suc j) (live_among values cells i)) (add-one k)

pub satisfies-counts : (values : List Bool) (base top vars : ℕ) (cells : List ℤ) → is_within vars cells ≡ true → Counts values base top cells → satisfies values (counter_clauses base top cells) ≡ true
satisfies-counts values base top vars cells within counts =
    satisfies-each_place values base top cells (λ k j k_in j_in.
    let cell : ℤ = get_or cells k (pos 0) in
    satisfies-place_clauses values base top cell k j (cell_literal vars cells k within k_in)
    ∙ beq-same _ _
    (count_values values base top cells counts (suc k) (suc j) (omega arith) (omega arith)
    ∙ ap (leb (suc j)) (live_among-more values cells k k_in)
    ∙ at_least-more j (live_among values cells k) (is_true values cell)
    ∙ ap (λ more. more || (is_true values cell && leb j (live_among values cells k))) (sym (count_values values base top cells counts k (suc j) (omega arith) (omega arith)))
    ∙ ap (λ fewer. value_of values base top k (suc j) || (is_true values cell && fewer)) (sym (count_values values base top cells counts k j (omega arith) (omega arith)))))

pub satisfies_counts : (values : List Bool) (base top : ℕ) (cells : List ℤ) → is_within base cells ≡ true → (satisfies values (counter_clauses base top cells) ≡ true) ↔ Counts values base top cells
satisfies_counts values base top cells within = (counted values base top base cells within, satisfies-counts values base top base cells within)
