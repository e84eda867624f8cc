-- The clauses of one bound say that the live cells of its generation are within its ends.
use Rattle.std.proofs.Common.{◌≡◌, ◌<◌, ◌≤◌, ℕ, ◌+◌, ◌-◌, ℤ, Bool, true, false, not, ◌&&◌, ◌||◌, List, [], ◌∷◌, ◌++◌, length, take, refl, sym, ap, ◌∙◌, arith, add-one}
use Rattle.std.specs.Prelude.{nat_le, ◌==◌, if◌then◌else◌}
use Rattle.std.specs.List.{count_by}
use Rattle.std.proofs.lemmas.Bool.{and_parts, and_from, eqb-true, eqb-false, leb-true, leb-false, le-leb, lt-leb}
use Rattle.std.proofs.lemmas.List.{take_all}
use Rattle.std.proofs.lemmas.List.Sums.{count_by-le-length}
use Rattle.lls_lit.specs.Literal.{negation}
use Rattle.lls_lit.specs.Formula.{is_true, satisfies}
use Rattle.lls_grid.specs.History.{History}
use Rattle.lls_grid.specs.Changes.{population}
use Rattle.lls_problem.specs.declared.bounds.Bound.{Bound}
use Rattle.lls_problem.specs.Bounds.{Allows, top_end, counter_top}
use Rattle.lls_problem.specs.Problem.{PosedProblem}
use Rattle.lls_cardinality.specs.Counter.{at_least, counter_clauses, Counts}
use Rattle.lls_cardinality.proofs.Count.{satisfies_counts}
use Rattle.lls_encode.specs.Formula.{generation_size, generation_cells, low_clauses, high_clauses, counted_clauses, bound_clauses}
use Rattle.lls_encode.proofs.Satisfied.{is_true-negation}
use Rattle.lls_encode.proofs.Parts.{satisfies-append}
use Rattle.lls_encode.proofs.Values.{HasCells}
use Rattle.lls_encode.proofs.LiveCells.{some_cells, length-generation_cells, count-generation_cells, is_within-generation_cells}
use Rattle.lls_encode.proofs.Ends.{Allows-by_ends, top_end-allowed, low_counted, end_counted, all_allowed}

-- the variables of the last cell say how many cells are live
counted_last : (values : List Bool) (base top size live : ℕ) (cells : List ℤ) → Counts values base top cells → length cells ≡ size → 1 ≤ size → count_by (is_true values) cells ≡ live
    → (j : ℕ) → j < top → is_true values (at_least base top (size - 1) j) ≡ nat_le (j + 1) live
counted_last values base top size live cells counts len some count j j_in =
    let last : size - 1 + 1 ≡ size = omega arith in
    counts (size - 1) j (omega (arith, len)) j_in
    ∙ ap (λ n. nat_le (j + 1) (count_by (is_true values) (take n cells))) last
    ∙ ap (λ xs. nat_le (j + 1) (count_by (is_true values) xs)) (take_all size cells (omega (arith, len)))
    ∙ ap (nat_le (j + 1)) count

-- a clause of one literal
only : (b : Bool) → ((b || false) && true) ≡ true → b ≡ true
only true e = refl
only false e = cc

alone : (b : Bool) → b ≡ true → ((b || false) && true) ≡ true
alone true e = refl
alone false e = cc

-- the variables that say so
abbrev Says : List Bool → ℕ → ℕ → ℕ → ℕ → Type 0
Says values base top size live = (j : ℕ) → j < top → is_true values (at_least base top (size - 1) j) ≡ nat_le (j + 1) live

low_by_clauses : (values : List Bool) (base top size live low : ℕ) → Says values base top size live → low ≤ top → satisfies values (low_clauses base top size low) ≡ true → low ≤ live
low_by_clauses values base top size live low says counted satisfied =
    elim (low == 0) as (λ b. (low == 0) ≡ b → satisfies values (if b then [] else (at_least base top (size - 1) (low - 1) ∷ []) ∷ []) ≡ true → low ≤ live) [
      | true ↦ λ zero_is holds. let none = eqb-true low 0 zero_is in omega (arith, none)
      | false ↦ λ zero_is holds.
          let some = eqb-false low 0 zero_is in
          let one : 1 ≤ low = omega (arith, some) in
          let said : nat_le (low - 1 + 1) live ≡ true = sym (says (low - 1) (omega arith)) ∙ only (is_true values (at_least base top (size - 1) (low - 1))) holds in
          let most = leb-true (low - 1 + 1) live said in
          omega arith
    ] refl satisfied

is_false : (b : Bool) → not b ≡ true → b ≡ false
is_false true e = cc
is_false false e = refl

high_by_clauses : (values : List Bool) (base top size live end : ℕ) → Says values base top size live → (end < size → end < top) → live ≤ size
    → satisfies values (high_clauses base top size end) ≡ true → live ≤ end
high_by_clauses values base top size live end says counted few satisfied =
    elim (nat_le size end) as (λ b. nat_le size end ≡ b → satisfies values (if b then [] else (negation (at_least base top (size - 1) end) ∷ []) ∷ []) ≡ true → live ≤ end) [
      | true ↦ λ all holds. let most = leb-true size end all in omega arith
      | false ↦ λ all holds.
          let more = leb-false size end all in
          let literal : ℤ = at_least base top (size - 1) end in
          let negative : not (is_true values literal) ≡ true = sym (is_true-negation values literal (rw add-one refl)) ∙ only (is_true values (negation literal)) holds in
          let said : nat_le (end + 1) live ≡ false = sym (says end (counted more)) ∙ is_false (is_true values literal) negative in
          let fewer = leb-false (end + 1) live said in
          omega arith
    ] refl satisfied

-- and the other way round
satisfies-low_clauses : (values : List Bool) (base top size live low : ℕ) → Says values base top size live → low ≤ top → low ≤ live → satisfies values (low_clauses base top size low) ≡ true
satisfies-low_clauses values base top size live low says counted enough =
    elim (low == 0) as (λ b. (low == 0) ≡ b → satisfies values (if b then [] else (at_least base top (size - 1) (low - 1) ∷ []) ∷ []) ≡ true) [
      | true ↦ λ zero_is. refl
      | false ↦ λ zero_is.
          let some = eqb-false low 0 zero_is in
          let one : 1 ≤ low = omega (arith, some) in
          alone (is_true values (at_least base top (size - 1) (low - 1))) (says (low - 1) (omega arith) ∙ le-leb (low - 1 + 1) live (omega arith))
    ] refl

satisfies-high_clauses : (values : List Bool) (base top size live end : ℕ) → Says values base top size live → (end < size → end < top) → live ≤ end
    → satisfies values (high_clauses base top size end) ≡ true
satisfies-high_clauses values base top size live end says counted few =
    elim (nat_le size end) as (λ b. nat_le size end ≡ b → satisfies values (if b then [] else (negation (at_least base top (size - 1) end) ∷ []) ∷ []) ≡ true) [
      | true ↦ λ all. refl
      | false ↦ λ all.
          let more = leb-false size end all in
          let literal : ℤ = at_least base top (size - 1) end in
          let said : is_true values literal ≡ false = says end (counted more) ∙ lt-leb (end + 1) live (omega arith) in
          alone (is_true values (negation literal)) (is_true-negation values literal (rw add-one refl) ∙ ap not said)
    ] refl

-- what the counter of a bound says, where the first values are a history's cells
says_live : (p : PosedProblem) (h : History) (values : List Bool) → HasCells p values h → (base : ℕ) (bound : Bound) → bound.generation < p.posed.generations
    → Counts values base (counter_top (generation_size p) bound) (generation_cells p bound.generation)
    → Says values base (counter_top (generation_size p) bound) (generation_size p) (population h bound.generation)
says_live p h values has base bound t_in counts =
    counted_last values base (counter_top (generation_size p) bound) (generation_size p) (population h bound.generation) (generation_cells p bound.generation) counts
    (length-generation_cells p bound.generation) (some_cells p has.kept) (count-generation_cells p h values has bound.generation t_in)

few_live : (p : PosedProblem) (h : History) (values : List Bool) → HasCells p values h → (t : ℕ) → t < p.posed.generations → population h t ≤ generation_size p
few_live p h values has t t_in =
    omega (arith, count-generation_cells p h values has t t_in, length-generation_cells p t, count_by-le-length (is_true values) (generation_cells p t))

-- where its clauses are satisfied, the bound is kept
pub Allows-by_clauses : (p : PosedProblem) (h : History) (values : List Bool) → HasCells p values h → (base : ℕ) (bound : Bound) → length p.posed.cells ≤ base
    → bound.generation < p.posed.generations → bound.low ≤ top_end (generation_size p) bound → satisfies values (bound_clauses p base bound) ≡ true
    → Allows bound (population h bound.generation)
Allows-by_clauses p h values has base bound behind t_in ordered satisfied =
    let size : ℕ = generation_size p in
    let top : ℕ = counter_top size bound in
    let live : ℕ = population h bound.generation in
    let few : live ≤ size = few_live p h values has bound.generation t_in in
    let cells : List ℤ = generation_cells p bound.generation in
    elim (top == 0) as (λ b. (top == 0) ≡ b → satisfies values (if b then [] else counted_clauses p base bound) ≡ true → Allows bound live) [
      | true ↦ λ none holds. all_allowed size live bound ordered (eqb-true top 0 none) few
      | false ↦ λ some holds.
          let parts = and_parts _ _ (sym (satisfies-append values (counter_clauses base top cells) (low_clauses base top size bound.low ++ high_clauses base top size (top_end size bound))) ∙ holds) in
          let ends = and_parts _ _ (sym (satisfies-append values (low_clauses base top size bound.low) (high_clauses base top size (top_end size bound))) ∙ parts.1) in
          let counts = (satisfies_counts values base top cells (is_within-generation_cells p has.kept bound.generation base t_in behind)).0 parts.0 in
          let says = says_live p h values has base bound t_in counts in
          Allows-by_ends size live bound (low_by_clauses values base top size live bound.low says (low_counted size bound ordered) ends.0)
          (high_by_clauses values base top size live (top_end size bound) says (end_counted size bound ordered) few ends.1)
    ] refl satisfied

-- and where it is kept, values that count satisfy them
pub satisfies-bound_clauses : (p : PosedProblem) (h : History) (values : List Bool) → HasCells p values h → (base : ℕ) (bound : Bound) → length p.posed.cells ≤ base
    → bound.generation < p.posed.generations → bound.low ≤ top_end (generation_size p) bound
    → Counts values base (counter_top (generation_size p) bound) (generation_cells p bound.generation) → Allows bound (population h bound.generation)
    → satisfies values (bound_clauses p base bound) ≡ true
satisfies-bound_clauses p h values has base bound behind t_in ordered counts allows =
    let size : ℕ = generation_size p in
    let top : ℕ = counter_top size bound in
    let live : ℕ = population h bound.generation in
    let cells : List ℤ = generation_cells p bound.generation in
    let says = says_live p h values has base bound t_in counts in
    let counter = (satisfies_counts values base top cells (is_within-generation_cells p has.kept bound.generation base t_in behind)).1 counts in
    let low = satisfies-low_clauses values base top size live bound.low says (low_counted size bound ordered) allows.low in
    let high = satisfies-high_clauses values base top size live (top_end size bound) says (end_counted size bound ordered) (top_end-allowed size live bound (few_live p h values has bound.generation t_in) allows) in
    elim (top == 0) as (λ b. satisfies values (if b then [] else counted_clauses p base bound) ≡ true) [
      | true ↦ refl
      | false ↦ satisfies-append values (counter_clauses base top cells) (low_clauses base top size bound.low ++ high_clauses base top size (top_end size bound))
          ∙ and_from _ _ counter (satisfies-append values (low_clauses base top size bound.low) (high_clauses base top size (top_end size bound)) ∙ and_from _ _ low high)
    ]
