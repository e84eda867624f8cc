-- The clauses of bounds, pushed one bound after another: what they make, how many they are, and the room that they leave.
use Rattle.std.proofs.Common.{◌≡◌, ◌<◌, ◌≤◌, ℕ, ◌+◌, ◌*◌, ℤ, Bool, true, false, cond, List, [], ◌∷◌, ◌++◌, length, get_or, take, refl, sym, ap, ◌∙◌, arith, append_assoc, length-append}
use Rattle.std.specs.Prelude.{◌==◌, nat_le, if◌then◌else◌}
use Rattle.std.proofs.Math.Nat.{mul-le-mul_left}
use Rattle.std.proofs.lemmas.Bool.{eqb-true, eqb-false}
use Rattle.std.proofs.lemmas.List.{append-nil, take_more}
use Rattle.std.proofs.lemmas.List.Sums.{sum_by-cons, sum_by_push, sum_by-take-le}
use Rattle.lls_lit.specs.Formula.{Clause, Cnf}
use Rattle.lls_search_file.specs.Posed.{IsPosed}
use Rattle.lls_problem.specs.declared.bounds.Bound.{Bound}
use Rattle.lls_problem.specs.Bounds.{top_end, counter_top, counter_vars, all_counter_vars}
use Rattle.lls_problem.specs.Problem.{PosedProblem}
use Rattle.lls_transition.specs.Clause.{with_clauses}
use Rattle.lls_cardinality.specs.declared.counter.CounterVars.{CounterVars}
use Rattle.lls_cardinality.specs.Counter.{counter_clauses, row_clauses, with_counter}
use Rattle.lls_cardinality.proofs.Bounds.{length-row_clauses}
use Rattle.lls_encode.specs.Formula.{generation_size, generation_cells, low_clauses, high_clauses, counted_clauses, bound_clauses, bounds_clauses}
use Rattle.lls_encode.specs.Room.{HasRoom, with_more}
use Rattle.lls_encode.proofs.Steps.{length-flat_map_most, with_clauses-three}
use Rattle.lls_encode.proofs.LiveCells.{some_cells, length-generation_cells}

-- how many clauses there are
pub length-counter_clauses : (base top : ℕ) (cells : List ℤ) → length (counter_clauses base top cells) ≤ 4 * (length cells * top)
unfolding counter_clauses
length-counter_clauses base top cells =
    let most = length-flat_map_most (row_clauses base top cells) (4 * top) (length-row_clauses base top cells) 0 (length cells) in
    let same : 4 * top * length cells ≡ 4 * (length cells * top) = grind arith in
    omega (arith, most, same)

at_most_one : (b : Bool) (clause : Clause) → length (cond b [] (clause ∷ [])) ≤ 1
at_most_one true clause = omega arith
at_most_one false clause = omega arith

length-low_clauses : (base top size low : ℕ) → length (low_clauses base top size low) ≤ 1
length-low_clauses base top size low = at_most_one (low == 0) _

length-high_clauses : (base top size end : ℕ) → length (high_clauses base top size end) ≤ 1
length-high_clauses base top size end = at_most_one (nat_le size end) _

length-counted : (p : PosedProblem) → IsPosed p.posed → (base : ℕ) (bound : Bound) → 1 ≤ counter_top (generation_size p) bound
    → length (counted_clauses p base bound) ≤ 6 * counter_vars (generation_size p) bound
length-counted p kept base bound some =
    let size : ℕ = generation_size p in
    let top : ℕ = counter_top size bound in
    let cells : List ℤ = generation_cells p bound.generation in
    let low : List Clause = low_clauses base top size bound.low in
    let high : List Clause = high_clauses base top size (top_end size bound) in
    let one : size * 1 ≤ size * top = mul-le-mul_left size some in
    let count : length cells * top ≡ size * top = ap (λ n. n * top) (length-generation_cells p bound.generation) in
    omega (
      arith,
      one,
      count,
      some_cells p kept,
      length-append (counter_clauses base top cells) (low ++ high),
      length-append low high,
      length-counter_clauses base top cells,
      length-low_clauses base top size bound.low,
      length-high_clauses base top size (top_end size bound),
    )

length-bound_clauses : (p : PosedProblem) → IsPosed p.posed → (base : ℕ) (bound : Bound) → length (bound_clauses p base bound) ≤ 6 * counter_vars (generation_size p) bound
length-bound_clauses p kept base bound =
    elim (counter_top (generation_size p) bound == 0) as (λ b. (counter_top (generation_size p) bound == 0) ≡ b
    → length (if b then [] else counted_clauses p base bound) ≤ 6 * counter_vars (generation_size p) bound) [
      | true ↦ λ none. omega arith
      | false ↦ λ some. let other = eqb-false (counter_top (generation_size p) bound) 0 some in length-counted p kept base bound (omega (arith, other))
    ] refl

pub length-bounds_clauses : (p : PosedProblem) → IsPosed p.posed → (base : ℕ) (bounds : List Bound) → length (bounds_clauses p base bounds) ≤ 6 * all_counter_vars (generation_size p) bounds
length-bounds_clauses p kept base [] = omega arith
length-bounds_clauses p kept base (bound ∷ bounds) =
    let rest : List Clause = bounds_clauses p (base + counter_vars (generation_size p) bound) bounds in
    omega (
      arith,
      sum_by-cons (counter_vars (generation_size p)) bound bounds,
      length-append (bound_clauses p base bound) rest,
      length-bound_clauses p kept base bound,
      length-bounds_clauses p kept (base + counter_vars (generation_size p) bound) bounds,
    )

-- bounds behind others
bounds_clauses-append : (p : PosedProblem) (base : ℕ) (xs ys : List Bound) → bounds_clauses p base (xs ++ ys) ≡ bounds_clauses p base xs ++ bounds_clauses p (base + all_counter_vars (generation_size p) xs) ys
bounds_clauses-append p base [] ys = let none : base ≡ base + 0 = omega arith in ap (λ n. bounds_clauses p n ys) none
bounds_clauses-append p base (bound ∷ xs) ys =
    let size : ℕ = generation_size p in
    let next : ℕ = base + counter_vars size bound in
    let all : next + all_counter_vars size xs ≡ base + all_counter_vars size (bound ∷ xs) = omega (arith, sum_by-cons (counter_vars size) bound xs) in
    ap (λ rest. bound_clauses p base bound ++ rest) (bounds_clauses-append p next xs ys)
    ∙ sym (append_assoc (bound_clauses p base bound) (bounds_clauses p next xs) (bounds_clauses p (next + all_counter_vars size xs) ys))
    ∙ ap (λ n. bound_clauses p base bound ++ bounds_clauses p next xs ++ bounds_clauses p n ys) all

abbrev cnf : ℕ → List Clause → Cnf
cnf n clauses = record { vars = n; clauses = clauses }

same_formula : (v w : ℕ) (xs ys : List Clause) → v ≡ w → xs ≡ ys → cnf v xs ≡ cnf w ys
same_formula v w xs ys vars clauses = ap (λ n. cnf n xs) vars ∙ ap (cnf w) clauses

-- a choice between no clauses and some
chosen : (b : Bool) (clauses : List Clause) → b ≡ false → clauses ≡ cond b [] clauses
chosen true clauses e = cc
chosen false clauses e = refl

not_zero : (n : ℕ) → (n ≡ 0 → ⊥) → (n == 0) ≡ false
not_zero n some =
    elim (n == 0) as (λ b. (n == 0) ≡ b → b ≡ false) [ true ↦ λ none. absurd (some (eqb-true n 0 none)) | false ↦ λ none. refl ] refl

-- the formula after one bound more of a list
pub bounds_more : (p : PosedProblem) (formula now next : Cnf) (bounds : List Bound) (k : ℕ) (d : Bound) → k < length bounds
    → now ≡ with_more formula (all_counter_vars (generation_size p) (take k bounds)) (bounds_clauses p formula.vars (take k bounds))
    → next ≡ with_more now (counter_vars (generation_size p) (get_or bounds k d)) (bound_clauses p now.vars (get_or bounds k d))
    → next ≡ with_more formula (all_counter_vars (generation_size p) (take (k + 1) bounds)) (bounds_clauses p formula.vars (take (k + 1) bounds))
bounds_more p formula now next bounds k d inside before step =
    let size : ℕ = generation_size p in
    let bound : Bound = get_or bounds k d in
    let done : List Bound = take k bounds in
    let base : ℕ = formula.vars + all_counter_vars size done in
    let vars : formula.vars + all_counter_vars size done + counter_vars size bound ≡ formula.vars + all_counter_vars size (done ++ bound ∷ []) =
    omega (arith, sum_by_push (counter_vars size) done bound) in
    let clauses : (formula.clauses ++ bounds_clauses p formula.vars done) ++ bound_clauses p base bound ≡ formula.clauses ++ bounds_clauses p formula.vars (done ++ bound ∷ []) =
    append_assoc formula.clauses (bounds_clauses p formula.vars done) (bound_clauses p base bound)
    ∙ ap (λ last. formula.clauses ++ (bounds_clauses p formula.vars done ++ last)) (sym (append-nil (bound_clauses p base bound)))
    ∙ ap (λ all. formula.clauses ++ all) (sym (bounds_clauses-append p formula.vars done (bound ∷ []))) in
    step ∙ ap (λ (f : Cnf). with_more f (counter_vars size bound) (bound_clauses p f.vars bound)) before
    ∙ same_formula _ _ _ _ vars clauses
    ∙ ap (λ bs. with_more formula (all_counter_vars size bs) (bounds_clauses p formula.vars bs)) (sym (take_more bounds k d inside))

-- the variables of some bounds and of the next are among those of all
pub bound_within : (p : PosedProblem) (bounds : List Bound) (k : ℕ) (d : Bound) → k < length bounds
    → all_counter_vars (generation_size p) (take k bounds) + counter_vars (generation_size p) (get_or bounds k d) ≤ all_counter_vars (generation_size p) bounds
bound_within p bounds k d inside =
    let size : ℕ = generation_size p in
    omega (
      arith,
      sum_by_push (counter_vars size) (take k bounds) (get_or bounds k d),
      ap (all_counter_vars size) (take_more bounds k d inside),
      sum_by-take-le (counter_vars size) bounds (k + 1),
    )

-- the room that is left for a bound of a list
pub bound_room : (p : PosedProblem) → IsPosed p.posed → (formula now : Cnf) (bounds : List Bound) (k : ℕ) (d : Bound) → k < length bounds
    → now ≡ with_more formula (all_counter_vars (generation_size p) (take k bounds)) (bounds_clauses p formula.vars (take k bounds))
    → all_counter_vars (generation_size p) bounds ≤ 1000000 → HasRoom formula 6000000 → HasRoom now (6 * counter_vars (generation_size p) (get_or bounds k d))
bound_room p kept formula now bounds k d inside before few has =
    let size : ℕ = generation_size p in
    let clauses : length now.clauses ≡ length formula.clauses + length (bounds_clauses p formula.vars (take k bounds)) =
    ap (λ (f : Cnf). length f.clauses) before ∙ length-append formula.clauses (bounds_clauses p formula.vars (take k bounds)) in
    omega (arith, clauses, has, few, length-bounds_clauses p kept formula.vars (take k bounds), bound_within p bounds k d inside)

-- one bound, by its parts
pub bound_pushed : (p : PosedProblem) (bound : Bound) (top end : ℕ) (cells : List ℤ) (counter : CounterVars) (formula counted lowered all : Cnf)
    → top ≡ counter_top (generation_size p) bound → (top ≡ 0 → ⊥) → end ≡ top_end (generation_size p) bound → cells ≡ generation_cells p bound.generation
    → counter ≡ record { base = formula.vars; cells = length cells; top = top }
    → counted ≡ with_counter formula top cells
    → lowered ≡ with_clauses counted (low_clauses counter.base counter.top counter.cells bound.low)
    → all ≡ with_clauses lowered (high_clauses counter.base counter.top counter.cells end)
    → all ≡ with_more formula (counter_vars (generation_size p) bound) (bound_clauses p formula.vars bound)
bound_pushed p bound top end cells counter formula counted lowered all top_is some end_is cells_is counter_is one two three =
    let size : ℕ = generation_size p in
    let base : ℕ = formula.vars in
    let literals : List ℤ = generation_cells p bound.generation in
    let parts = λ (n : ℕ) (top end : ℕ) (xs : List ℤ).
    with_more formula (n * top) (counter_clauses base top xs ++ (low_clauses base top n bound.low ++ high_clauses base top n end)) in
    let named : (c : CounterVars) → c ≡ record { base = base; cells = length cells; top = top }
    → with_clauses (with_clauses (with_counter formula top cells) (low_clauses c.base c.top c.cells bound.low)) (high_clauses c.base c.top c.cells end)
    ≡ with_clauses (with_clauses (with_counter formula top cells) (low_clauses base top (length cells) bound.low)) (high_clauses base top (length cells) end) =
    λ c is. ap (λ (c : CounterVars). with_clauses (with_clauses (with_counter formula top cells) (low_clauses c.base c.top c.cells bound.low)) (high_clauses c.base c.top c.cells end)) is in
    three ∙ ap (λ f. with_clauses f (high_clauses counter.base counter.top counter.cells end)) (two ∙ ap (λ f. with_clauses f (low_clauses counter.base counter.top counter.cells bound.low)) one)
    ∙ named counter counter_is
    ∙ with_clauses-three (cnf (base + length cells * top) formula.clauses) _ _ _ (counter_clauses base top cells) (low_clauses base top (length cells) bound.low) (high_clauses base top (length cells) end) refl refl refl
    ∙ ap (λ xs. parts (length xs) top end xs) cells_is
    ∙ ap (λ n. parts n top end literals) (length-generation_cells p bound.generation)
    ∙ ap (λ end. parts size top end literals) end_is
    ∙ ap (λ top. parts size top (top_end size bound) literals) top_is
    ∙ ap (with_more formula (counter_vars size bound)) (chosen (counter_top size bound == 0) (counted_clauses p base bound) (not_zero (counter_top size bound) (λ none. some (top_is ∙ none))))

-- the numbers of a bound's counter, by what the code has for them
pub record IsCounterOf (p : PosedProblem) (bound : Bound) (top : ℕ) (cells : List ℤ) : Type 0 where
  pub literals : cells ≡ generation_cells p bound.generation
  pub count : length cells ≡ generation_size p
  pub counts : top ≡ counter_top (generation_size p) bound
  pub vars : length cells * top ≡ counter_vars (generation_size p) bound

pub counter_of : (p : PosedProblem) (bound : Bound) (size top : ℕ) (cells : List ℤ) → size ≡ generation_size p → top ≡ counter_top size bound → cells ≡ generation_cells p bound.generation → IsCounterOf p bound top cells
counter_of p bound size top cells size_is top_is cells_is =
    let count : length cells ≡ generation_size p = ap length cells_is ∙ length-generation_cells p bound.generation in
    let counts : top ≡ counter_top (generation_size p) bound = top_is ∙ ap (λ n. counter_top n bound) size_is in
    record { literals = cells_is; count = count; counts = counts; vars = ap (λ n. n * top) count ∙ ap (λ n. generation_size p * n) counts }

-- the room that is left behind the counter, and behind the low end
pub room_behind_counter : (p : PosedProblem) → IsPosed p.posed → (bound : Bound) (top : ℕ) (cells : List ℤ) (formula counted : Cnf) → IsCounterOf p bound top cells → (top ≡ 0 → ⊥)
    → counted ≡ with_counter formula top cells → HasRoom formula (6 * counter_vars (generation_size p) bound) → HasRoom counted 2
room_behind_counter p kept bound top cells formula counted it some is has =
    let one : length cells * 1 ≤ length cells * top = mul-le-mul_left (length cells) (omega (arith, some)) in
    let count : length counted.clauses ≡ length formula.clauses + length (counter_clauses formula.vars top cells) =
    ap (λ (f : Cnf). length f.clauses) is ∙ length-append formula.clauses (counter_clauses formula.vars top cells) in
    omega (arith, one, count, it.count, it.vars, some_cells p kept, has, length-counter_clauses formula.vars top cells)

pub room_behind_low : (base top size low : ℕ) (counted lowered : Cnf) → lowered ≡ with_clauses counted (low_clauses base top size low) → HasRoom counted 2 → HasRoom lowered 1
room_behind_low base top size low counted lowered is has =
    let count : length lowered.clauses ≡ length counted.clauses + length (low_clauses base top size low) =
    ap (λ (f : Cnf). length f.clauses) is ∙ length-append counted.clauses (low_clauses base top size low) in
    omega (arith, count, has, length-low_clauses base top size low)
