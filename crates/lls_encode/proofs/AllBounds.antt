-- The clauses of all bounds say that each is kept, and a solution has values for their counters.
use Rattle.std.proofs.Common.{◌≡◌, ◌<◌, ◌≤◌, ℕ, zero, suc, ◌+◌, ◌*◌, ℤ, pos, negsuc, Bool, true, false, not, cond, List, [], ◌∷◌, ◌++◌, length, take, refl, sym, ap, ◌∙◌, subst, arith, append_assoc, length-append}
use Rattle.std.specs.List.{All, count_by}
use Rattle.std.specs.Prelude.{nat_le}
use Rattle.std.proofs.lemmas.Nat.{mul-add-lt}
use Rattle.std.proofs.lemmas.Bool.{and_parts, and_from, leb-true, le-leb}
use Rattle.std.proofs.lemmas.List.{get_or_append_left}
use Rattle.std.proofs.lemmas.List.Sums.{sum_by-cons}
use Rattle.lls_lit.specs.Formula.{is_true, is_literal_of, is_within, satisfies}
use Rattle.lls_grid.specs.History.{History}
use Rattle.lls_grid.specs.Changes.{population}
use Rattle.lls_search_file.specs.Posed.{IsPosed}
use Rattle.lls_problem.specs.declared.bounds.Bound.{Bound}
use Rattle.lls_problem.specs.Bounds.{Allows, top_end, counter_top, counter_vars, all_counter_vars}
use Rattle.lls_problem.specs.Problem.{PosedProblem}
use Rattle.lls_cardinality.specs.Counter.{at_least, Counts}
use Rattle.lls_cardinality.proofs.Count.{satisfies_counts}
use Rattle.lls_cardinality.proofs.Extended.{extended}
use Rattle.lls_encode.specs.Formula.{generation_size, generation_cells, bound_clauses, bounds_clauses}
use Rattle.lls_encode.proofs.Parts.{satisfies-append}
use Rattle.lls_encode.proofs.Values.{HasCells}
use Rattle.lls_encode.proofs.LiveCells.{length-generation_cells, is_within-generation_cells}
use Rattle.lls_encode.proofs.OneBound.{Allows-by_clauses, satisfies-bound_clauses}

-- bounds that fit the file
pub record AreBounds (p : PosedProblem) (bounds : List Bound) : Type 0 where
  pub bounded : All (λ bound. bound.generation < p.posed.generations) bounds
  pub ordered : All (λ bound. bound.low ≤ top_end (generation_size p) bound) bounds

AreBounds-rest : (p : PosedProblem) (bound : Bound) (bounds : List Bound) → AreBounds p (bound ∷ bounds) → AreBounds p bounds
AreBounds-rest p bound bounds fit = record {
  bounded = λ k d inside. fit.bounded (suc k) d (omega arith);
  ordered = λ k d inside. fit.ordered (suc k) d (omega arith);
}

-- each is kept where the clauses are satisfied
pub All-by_clauses : (p : PosedProblem) (h : History) (values : List Bool) → HasCells p values h → (base : ℕ) → length p.posed.cells ≤ base → (bounds : List Bound) → AreBounds p bounds
    → satisfies values (bounds_clauses p base bounds) ≡ true → All (λ bound. Allows bound (population h bound.generation)) bounds
All-by_clauses p h values has base behind [] fit satisfied k d inside = absurd (omega arith)
All-by_clauses p h values has base behind (bound ∷ bounds) fit satisfied zero d inside =
    let parts = and_parts _ _ (sym (satisfies-append values (bound_clauses p base bound) (bounds_clauses p (base + counter_vars (generation_size p) bound) bounds)) ∙ satisfied) in
    Allows-by_clauses p h values has base bound behind (fit.bounded 0 d inside) (fit.ordered 0 d inside) parts.0
All-by_clauses p h values has base behind (bound ∷ bounds) fit satisfied (suc k) d inside =
    let further : length p.posed.cells ≤ base + counter_vars (generation_size p) bound = omega (arith, behind) in
    let within : k < length bounds = omega (arith, inside) in
    let rest : satisfies values (bounds_clauses p (base + counter_vars (generation_size p) bound) bounds) ≡ true =
    (and_parts _ _ (sym (satisfies-append values (bound_clauses p base bound) (bounds_clauses p (base + counter_vars (generation_size p) bound) bounds)) ∙ satisfied)).1 in
    All-by_clauses p h values has (base + counter_vars (generation_size p) bound) further bounds (AreBounds-rest p bound bounds fit) rest k d within

-- the values of each counter's variables count
abbrev pub AllCount : PosedProblem → List Bool → ℕ → List Bound → Type 0
AllCount p values base [] = Unit {0}
AllCount p values base (bound ∷ bounds) =
    Counts values base (counter_top (generation_size p) bound) (generation_cells p bound.generation) × AllCount p values (base + counter_vars (generation_size p) bound) bounds

-- such values satisfy the clauses where each bound is kept
pub satisfies-bounds_clauses : (p : PosedProblem) (h : History) (values : List Bool) → HasCells p values h → (base : ℕ) → length p.posed.cells ≤ base → (bounds : List Bound) → AreBounds p bounds
    → AllCount p values base bounds → All (λ bound. Allows bound (population h bound.generation)) bounds → satisfies values (bounds_clauses p base bounds) ≡ true
satisfies-bounds_clauses p h values has base behind [] fit counts allows = refl
satisfies-bounds_clauses p h values has base behind (bound ∷ bounds) fit counts allows =
    satisfies-append values (bound_clauses p base bound) (bounds_clauses p (base + counter_vars (generation_size p) bound) bounds)
    ∙ and_from _ _ (satisfies-bound_clauses p h values has base bound behind (fit.bounded 0 bound (omega arith)) (fit.ordered 0 bound (omega arith)) counts.0 (allows 0 bound (omega arith)))
    (satisfies-bounds_clauses p h values has (base + counter_vars (generation_size p) bound) (omega arith) bounds (AreBounds-rest p bound bounds fit) counts.1
    (λ k d inside. allows (suc k) d (omega arith)))

-- further values change nothing
is_true-append : (values more : List Bool) (l : ℤ) → is_literal_of (length values) l ≡ true → is_true (values ++ more) l ≡ is_true values l
is_true-append values more (pos zero) within = refl
is_true-append values more (pos (suc n)) within = get_or_append_left values more false n (omega (arith, leb-true (suc n) (length values) (and_parts _ _ within).1))
is_true-append values more (negsuc n) within = ap not (get_or_append_left values more false n (omega (arith, leb-true (n + 1) (length values) (and_parts _ _ within).1)))

count-append : (values more : List Bool) (cells : List ℤ) → is_within (length values) cells ≡ true → count_by (is_true (values ++ more)) cells ≡ count_by (is_true values) cells
count-append values more [] within = refl
count-append values more (cell ∷ cells) within =
    let parts = and_parts _ _ within in
    sum_by-cons (λ l. cond (is_true (values ++ more) l) 1 0) cell cells
    ∙ ap (λ b. cond b 1 0 + count_by (is_true (values ++ more)) cells) (is_true-append values more cell parts.0)
    ∙ ap (λ n. cond (is_true values cell) 1 0 + n) (count-append values more cells parts.1)
    ∙ sym (sum_by-cons (λ l. cond (is_true values l) 1 0) cell cells)

is_within-take : (vars : ℕ) (cells : List ℤ) (k : ℕ) → is_within vars cells ≡ true → is_within vars (take k cells) ≡ true
is_within-take vars cells zero within = refl
is_within-take vars [] (suc k) within = refl
is_within-take vars (cell ∷ cells) (suc k) within = let parts = and_parts _ _ within in and_from _ _ parts.0 (is_within-take vars cells k parts.1)

Counts-append : (values more : List Bool) (base top : ℕ) (cells : List ℤ) → is_within (length values) cells ≡ true → base + length cells * top ≤ length values
    → Counts values base top cells → Counts (values ++ more) base top cells
Counts-append values more base top cells within enough counts k j k_in j_in =
    let before : k * top + j < top * length cells = mul-add-lt k top j (length cells) k_in j_in in
    let last : k * top + j < length cells * top = grind arith in
    let literal : is_literal_of (length values) (at_least base top k j) ≡ true =
    and_from _ _ (le-leb 1 (base + k * top + j + 1) (omega arith)) (le-leb (base + k * top + j + 1) (length values) (omega arith)) in
    is_true-append values more (at_least base top k j) literal
    ∙ counts k j k_in j_in
    ∙ ap (nat_le (j + 1)) (sym (count-append values more (take (k + 1) cells) (is_within-take (length values) cells (k + 1) within)))

-- how many variables a counter has, and the counters of all bounds
size_of : (p : PosedProblem) (bound : Bound) → length (generation_cells p bound.generation) * counter_top (generation_size p) bound ≡ counter_vars (generation_size p) bound
size_of p bound = ap (λ n. n * counter_top (generation_size p) bound) (length-generation_cells p bound.generation)

pub AllCount-append : (p : PosedProblem) → IsPosed p.posed → (values more : List Bool) → length p.posed.cells ≤ length values → (base : ℕ) (bounds : List Bound) → AreBounds p bounds
    → base + all_counter_vars (generation_size p) bounds ≤ length values → AllCount p values base bounds → AllCount p (values ++ more) base bounds
AllCount-append p kept values more behind base [] fit enough counts = tt
AllCount-append p kept values more behind base (bound ∷ bounds) fit enough counts =
    let size : ℕ = generation_size p in
    let sum = sum_by-cons (counter_vars size) bound bounds in (
      Counts-append values more base (counter_top size bound) (generation_cells p bound.generation) (is_within-generation_cells p kept bound.generation (length values) (fit.bounded 0 bound (omega arith)) behind)
          (omega (arith, enough, sum, size_of p bound)) counts.0,
      AllCount-append p kept values more behind (base + counter_vars size bound) bounds (AreBounds-rest p bound bounds fit) (omega (arith, enough, sum)) counts.1,
    )

-- values for the counters, behind any others
pub record HasCounters (p : PosedProblem) (before : List Bool) (bounds : List Bound) : Type 0 where
  pub more : List Bool
  pub count : length more ≡ all_counter_vars (generation_size p) bounds
  pub counts : AllCount p (before ++ more) (length before) bounds

AllCount-joined : (p : PosedProblem) (bound : Bound) (bounds : List Bound) (values same : List Bool) (base next : ℕ) → values ≡ same → next ≡ base + counter_vars (generation_size p) bound
    → Counts values base (counter_top (generation_size p) bound) (generation_cells p bound.generation) → AllCount p values next bounds → AllCount p same base (bound ∷ bounds)
AllCount-joined p bound bounds values same base next is place first rest = (
  subst (λ vs. Counts vs base (counter_top (generation_size p) bound) (generation_cells p bound.generation)) is first,
  subst (λ vs. AllCount p vs (base + counter_vars (generation_size p) bound) bounds) is (subst (λ n. AllCount p values n bounds) place rest),
)

pub has_counters : (p : PosedProblem) → IsPosed p.posed → (bounds : List Bound) → AreBounds p bounds → (before : List Bool) → length p.posed.cells ≤ length before → HasCounters p before bounds
has_counters p kept [] fit before behind = record { more = []; count = refl; counts = tt }
has_counters p kept (bound ∷ bounds) fit before behind =
    let size : ℕ = generation_size p in
    let top : ℕ = counter_top size bound in
    let cells : List ℤ = generation_cells p bound.generation in
    let within : is_within (length before) cells ≡ true = is_within-generation_cells p kept bound.generation (length before) (fit.bounded 0 bound (omega arith)) behind in
    let first = extended before (length before) top cells within refl in
    let middle : List Bool = before ++ first.more in
    let counted : Counts middle (length before) top cells = (satisfies_counts middle (length before) top cells within).0 first.satisfied in
    let len : length middle ≡ length before + counter_vars size bound = omega (arith, length-append before first.more, first.count, size_of p bound) in
    let rest = has_counters p kept bounds (AreBounds-rest p bound bounds fit) middle (omega (arith, len)) in
    let within_middle : is_within (length middle) cells ≡ true = is_within-generation_cells p kept bound.generation (length middle) (fit.bounded 0 bound (omega arith)) (omega (arith, len)) in
    record {
      more = first.more ++ rest.more;
      count = omega (arith, length-append first.more rest.more, first.count, rest.count, size_of p bound, sum_by-cons (counter_vars size) bound bounds);
      counts = AllCount-joined p bound bounds (middle ++ rest.more) (before ++ (first.more ++ rest.more)) (length before) (length middle) (append_assoc before first.more rest.more) len
          (Counts-append middle rest.more (length before) top cells within_middle (omega (arith, len, size_of p bound)) counted) rest.counts;
    }
