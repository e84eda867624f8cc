-- The clauses of two generations that are asked to differ say that they do, and a solution's assignment satisfies them.
use Rattle.std.proofs.Common.{◌≡◌, ◌<◌, ◌≤◌, ℕ, zero, suc, ◌+◌, ◌*◌, ◌/◌, ◌%◌, ℤ, pos, Bool, true, false, not, ◌&&◌, ◌||◌, List, [], ◌∷◌, ◌++◌, map, length, get_or, refl, sym, ap, ◌∙◌, arith, Option, None, Some, inl, inr, add-one}
use Rattle.std.specs.List.{list_any, flat_map, range_with_len}
use Rattle.std.specs.Option.{option_map_or}
use Rattle.std.proofs.Math.Nat.{mod-lt, mod-add-div, div-lt_iff_lt-mul, mul-le-mul_left}
use Rattle.std.proofs.lemmas.Bool.{and_parts, and_from, cases_lt}
use Rattle.std.proofs.lemmas.List.{get_or_append_left, get_or-append-add}
use Rattle.std.proofs.lemmas.List.FromFn.{get_or-map-range_with_len, length-map-range_with_len}
use Rattle.lls_lit.specs.Formula.{is_true, satisfies}
use Rattle.lls_grid.specs.declared.sizes.GridPlace.{GridPlace}
use Rattle.lls_grid.specs.Sizes.{IsInside, index_of}
use Rattle.lls_grid.specs.History.{History, HasSizes, at, cells_of}
use Rattle.lls_grid.proofs.InOrder.{length-cells_of}
use Rattle.lls_search_file.specs.Posed.{IsPosed, sizes_of}
use Rattle.lls_problem.specs.Problem.{PosedProblem, AreFitting}
use Rattle.lls_problem.specs.Solution.{IsDifference, Differs}
use Rattle.lls_problem.specs.Unlike.{differ}
use Rattle.lls_problem.proofs.Places.{index_of-lt, at-in_grid}
use Rattle.lls_encode.specs.Formula.{generation_size, cell_of_generation, difference_clauses, difference_variable, cell_difference, differing_clauses, asked_part, asked_vars}
use Rattle.lls_encode.proofs.Differences.{cell_in_order}
use Rattle.lls_encode.proofs.Satisfied.{is_literal, is_true-negation, satisfies-range, or_left, or_right}
use Rattle.lls_encode.proofs.Parts.{satisfies-append, satisfied_in_range}
use Rattle.lls_encode.proofs.Values.{HasCells, is_true-cell}

-- the number of a cell of a generation, and its number among all cells
place_number : (width height t y x : ℕ) → x + width * y + width * height * t ≡ x + width * (y + height * t)
place_number width height t y x = grind arith

-- a cell of a generation has the history's value
is_true-cell_of_generation : (p : PosedProblem) (h : History) (values : List Bool) → HasCells p values h → (t y x : ℕ) → t < p.posed.generations → y < p.posed.height → x < p.posed.width
    → is_true values (cell_of_generation p t (x + p.posed.width * y)) ≡ at p.rule h t (pos y) (pos x)
is_true-cell_of_generation p h values has t y x t_in row column =
    let place : GridPlace = record { t = t; y = y; x = x } in
    let inside : IsInside (sizes_of p.posed) place = record { generation = t_in; row = row; column = column } in
    is_true-cell values (x + p.posed.width * y + generation_size p * t)
    ∙ ap (λ k. get_or values k false) (place_number p.posed.width p.posed.height t y x)
    ∙ has.cells (index_of (sizes_of p.posed) place) (index_of-lt p.posed place has.kept inside)
    ∙ sym (at-in_grid p.posed p.rule h place has.sizes inside)

-- what the two clauses of a cell say
pub literal : (n : ℕ) → is_literal (pos (n + 1)) ≡ true
literal n = rw add-one refl

satisfies-difference_clauses : (values : List Bool) (d a b : ℤ) → is_literal d ≡ true → is_literal a ≡ true → is_literal b ≡ true
    → satisfies values (difference_clauses d a b) ≡ ((not (is_true values d) || (is_true values a || (is_true values b || false)))
    && ((not (is_true values d) || (not (is_true values a) || (not (is_true values b) || false))) && true))
satisfies-difference_clauses values d a b d_lit a_lit b_lit = rw (is_true-negation values d d_lit, is_true-negation values a a_lit, is_true-negation values b b_lit) refl

-- what they say of a cell, by the values of its variables
abbrev says_apart : Bool → Bool → Bool → Bool
says_apart d a b = (not d || (a || (b || false))) && ((not d || (not a || (not b || false))) && true)

satisfies-cell_difference : (p : PosedProblem) (values : List Bool) (base : ℕ) (pair : ℕ × ℕ) (k : ℕ) → satisfies values (cell_difference p base pair k)
    ≡ says_apart (is_true values (difference_variable base k)) (is_true values (cell_of_generation p pair.0 k)) (is_true values (cell_of_generation p pair.1 k))
satisfies-cell_difference p values base pair k =
    satisfies-difference_clauses values (difference_variable base k) (cell_of_generation p pair.0 k) (cell_of_generation p pair.1 k)
    (literal (base + k)) (literal (k + generation_size p * pair.0)) (literal (k + generation_size p * pair.1))

apart : (d a b : Bool) → says_apart d a b ≡ true → d ≡ true → a ≡ b → ⊥
apart true true true said holds same = cc
apart true true false said holds same = cc
apart true false true said holds same = cc
apart true false false said holds same = cc
apart false a b said holds same = cc

told : (d a b : Bool) → d ≡ differ a b → says_apart d a b ≡ true
told true true true is = cc
told true true false is = refl
told true false true is = refl
told true false false is = cc
told false true true is = refl
told false true false is = cc
told false false true is = cc
told false false false is = refl

pub differ-unequal : (a b : Bool) → (a ≡ b → ⊥) → differ a b ≡ true
differ-unequal true true other = absurd (other refl)
differ-unequal true false other = refl
differ-unequal false true other = refl
differ-unequal false false other = absurd (other refl)

-- some of the variables of a range is true
pub record HasTrue (values : List Bool) (base a n : ℕ) : Type 0 where
  pub k : ℕ
  pub low : a ≤ k
  pub high : k < a + n
  pub holds : is_true values (difference_variable base k) ≡ true

pub some_true : (values : List Bool) (base a n : ℕ) → list_any (is_true values) (map (difference_variable base) (range_with_len a n)) ≡ true → HasTrue values base a n
some_true values base a zero any = cc
some_true values base a (suc n) any =
    elim (is_true values (difference_variable base a))
    as (λ b. is_true values (difference_variable base a) ≡ b → (b || list_any (is_true values) (map (difference_variable base) (range_with_len (a + 1) n))) ≡ true → HasTrue values base a (suc n)) [
      | true ↦ λ here rest. record { k = a; low = omega arith; high = omega arith; holds = here }
      | false ↦ λ here rest.
          let later = some_true values base (a + 1) n rest in
          record { k = later.k; low = omega (arith, later.low); high = omega (arith, later.high); holds = later.holds }
    ] refl any

pub any_true : (values : List Bool) (base a n k : ℕ) → a ≤ k → k < a + n → is_true values (difference_variable base k) ≡ true
    → list_any (is_true values) (map (difference_variable base) (range_with_len a n)) ≡ true
any_true values base a zero k low high holds = absurd (omega arith)
any_true values base a (suc n) k low high holds =
    elim (cases_lt a k) [
      | inl less ↦ or_right _ _ (any_true values base (a + 1) n k (omega arith) (omega arith) holds)
      | inr rest ↦ let same : a ≡ k = omega arith in or_left _ _ (ap (λ k. is_true values (difference_variable base k)) same ∙ holds)
    ]

-- where the clauses are satisfied, the generations differ
differ_by_clauses : (p : PosedProblem) (h : History) (values : List Bool) → HasCells p values h → (base : ℕ) (pair : ℕ × ℕ) → pair.0 < p.posed.generations → pair.1 < p.posed.generations
    → satisfies values (differing_clauses p base pair) ≡ true → (y : ℕ) × ((x : ℕ) × IsDifference p h pair.0 pair.1 y x)
differ_by_clauses p h values has base pair first second satisfied =
    let size : ℕ = generation_size p in
    let cells = flat_map (cell_difference p base pair) (range_with_len 0 size) in
    let variables = map (difference_variable base) (range_with_len 0 size) in
    let both : (satisfies values cells && satisfies values (variables ∷ [])) ≡ true = sym (satisfies-append values cells (variables ∷ [])) ∙ satisfied in
    let each : satisfies values cells ≡ true = (and_parts (satisfies values cells) (satisfies values (variables ∷ [])) both).0 in
    let any : list_any (is_true values) variables ≡ true =
    (and_parts (list_any (is_true values) variables) true (and_parts (satisfies values cells) (satisfies values (variables ∷ [])) both).1).0 in
    let some : HasTrue values base 0 size = some_true values base 0 size any in
    let k : ℕ = some.k in
    let k_in : k < size = omega (arith, some.high) in
    let wide : 0 < p.posed.width = omega (arith, has.kept.width) in
    let row : k / p.posed.width < p.posed.height = (div-lt_iff_lt-mul wide).1 (omega (arith, k_in)) in
    let column : k % p.posed.width < p.posed.width = mod-lt k wide in
    let number : k ≡ k % p.posed.width + p.posed.width * (k / p.posed.width) = sym (mod-add-div k p.posed.width) in
    let clauses : satisfies values (cell_difference p base pair k) ≡ true =
    satisfied_in_range values (cell_difference p base pair) 0 size k each (omega arith) (omega (arith, k_in)) in
    let value = λ (t : ℕ) (t_in : t < p.posed.generations).
    ap (λ n. is_true values (cell_of_generation p t n)) number ∙ is_true-cell_of_generation p h values has t (k / p.posed.width) (k % p.posed.width) t_in row column in (
      k / p.posed.width,
      (
        k % p.posed.width,
        record {
          row = row;
          column = column;
          differs = λ same. apart (is_true values (difference_variable base k)) (is_true values (cell_of_generation p pair.0 k)) (is_true values (cell_of_generation p pair.1 k)) (sym (satisfies-cell_difference p values base pair k) ∙ clauses) some.holds
              (value pair.0 first ∙ same ∙ sym (value pair.1 second));
        },
      ),
    )

pub Differs-by_clauses : (p : PosedProblem) (h : History) (values : List Bool) → HasCells p values h → AreFitting p.posed p.demands → (base : ℕ)
    → satisfies values (asked_part p base) ≡ true → Differs p h
Differs-by_clauses p h values has fitting base satisfied = λ pair asked.
    differ_by_clauses p h values has base pair (fitting.named pair asked).0 (fitting.named pair asked).1
    (ap (λ o. satisfies values (option_map_or (differing_clauses p base) o [])) (sym asked) ∙ satisfied)

-- the cells in which two generations differ
abbrev pub marks_of : PosedProblem → List Bool → ℕ × ℕ → List Bool
marks_of p cells pair =
    map (λ k. differ (get_or cells (k + generation_size p * pair.0) false) (get_or cells (k + generation_size p * pair.1) false)) (range_with_len 0 (generation_size p))

abbrev pub marks_where : PosedProblem → List Bool → Option (ℕ × ℕ) → List Bool
marks_where p cells asked = option_map_or (marks_of p cells) asked []

length-marks : (p : PosedProblem) (cells : List Bool) (asked : Option (ℕ × ℕ)) → length (marks_where p cells asked) ≡ option_map_or (λ pair. generation_size p) asked 0
length-marks p cells None = refl
length-marks p cells (Some pair) = length-map-range_with_len _ 0 (generation_size p)

pub length-marks_where : (p : PosedProblem) (cells : List Bool) → length (marks_where p cells p.demands.differ) ≡ asked_vars p
length-marks_where p cells = length-marks p cells p.demands.differ

-- as many cells as the file has
pub count_of : (p : PosedProblem) (h : History) → IsPosed p.posed → HasSizes p.posed.generations p.posed.height p.posed.width h → length (cells_of h) ≡ length p.posed.cells
count_of p h kept sizes = length-cells_of p.posed.generations p.posed.height p.posed.width h sizes ∙ sym kept.count

-- further values change no cell
pub HasCells-append : (p : PosedProblem) (h : History) (before more : List Bool) → HasCells p before h → length p.posed.cells ≤ length before → HasCells p (before ++ more) h
HasCells-append p h before more has enough = record {
  kept = has.kept;
  sizes = has.sizes;
  cells = λ k k_in. get_or_append_left before more false k (omega (arith, k_in, enough)) ∙ has.cells k k_in;
}

-- the value of a variable of the difference, which stand behind others
mark_value : (p : PosedProblem) (h : History) (before more : List Bool) (pair : ℕ × ℕ) → HasCells p before h → length p.posed.cells ≤ length before → pair.0 < p.posed.generations → pair.1 < p.posed.generations
    → (k : ℕ) → k < generation_size p
    → is_true (before ++ (marks_of p before pair ++ more)) (difference_variable (length before) k)
    ≡ differ (is_true (before ++ (marks_of p before pair ++ more)) (cell_of_generation p pair.0 k)) (is_true (before ++ (marks_of p before pair ++ more)) (cell_of_generation p pair.1 k))
mark_value p h before more pair has enough first second k k_in =
    let marks : List Bool = marks_of p before pair in
    let value : (t : ℕ) → t < p.posed.generations → get_or before (k + generation_size p * t) false ≡ is_true (before ++ (marks ++ more)) (cell_of_generation p t k) = λ t t_in.
    sym (is_true-cell (before ++ (marks ++ more)) (k + generation_size p * t)
    ∙ get_or_append_left before (marks ++ more) false (k + generation_size p * t) (omega (arith, enough, cell_in_order p has.kept t k t_in k_in))) in
    is_true-cell (before ++ (marks ++ more)) (length before + k)
    ∙ get_or-append-add before (marks ++ more) k false
    ∙ get_or_append_left marks more false k (omega (arith, k_in, length-map-range_with_len (λ k. differ (get_or before (k + generation_size p * pair.0) false) (get_or before (k + generation_size p * pair.1) false)) 0 (generation_size p)))
    ∙ get_or-map-range_with_len _ 0 (generation_size p) k k false k_in (omega arith)
    ∙ ap (λ a. differ a (get_or before (k + generation_size p * pair.1) false)) (value pair.0 first)
    ∙ ap (differ (is_true (before ++ (marks ++ more)) (cell_of_generation p pair.0 k))) (value pair.1 second)

-- a cell of the grid has a number
number_in : (p : PosedProblem) (y x : ℕ) → y < p.posed.height → x < p.posed.width → x + p.posed.width * y < generation_size p
number_in p y x row column =
    let last : p.posed.width * (y + 1) ≤ p.posed.width * p.posed.height = mul-le-mul_left p.posed.width (omega arith) in
    omega (arith, last)

satisfies-differing_clauses : (p : PosedProblem) (h : History) (before more : List Bool) (pair : ℕ × ℕ) → HasCells p before h → length p.posed.cells ≤ length before
    → pair.0 < p.posed.generations → pair.1 < p.posed.generations → (y : ℕ) × ((x : ℕ) × IsDifference p h pair.0 pair.1 y x)
    → satisfies (before ++ (marks_of p before pair ++ more)) (differing_clauses p (length before) pair) ≡ true
satisfies-differing_clauses p h before more pair before_has enough first second (y, (x, difference)) =
    let size : ℕ = generation_size p in
    let base : ℕ = length before in
    let values : List Bool = before ++ (marks_of p before pair ++ more) in
    let has : HasCells p values h = HasCells-append p h before (marks_of p before pair ++ more) before_has enough in
    let k : ℕ = x + p.posed.width * y in
    let k_in : k < size = number_in p y x difference.row difference.column in
    let each : satisfies values (flat_map (cell_difference p base pair) (range_with_len 0 size)) ≡ true =
    satisfies-range values (cell_difference p base pair) 0 size (λ i low high.
    satisfies-cell_difference p values base pair i
    ∙ told (is_true values (difference_variable base i)) (is_true values (cell_of_generation p pair.0 i)) (is_true values (cell_of_generation p pair.1 i)) (mark_value p h before more pair before_has enough first second i (omega arith))) in
    let unequal : is_true values (cell_of_generation p pair.0 k) ≡ is_true values (cell_of_generation p pair.1 k) → ⊥ = λ same.
    difference.differs (sym (is_true-cell_of_generation p h values has pair.0 y x first difference.row difference.column) ∙ same
    ∙ is_true-cell_of_generation p h values has pair.1 y x second difference.row difference.column) in
    let mark : is_true values (difference_variable base k) ≡ true = mark_value p h before more pair before_has enough first second k k_in ∙ differ-unequal (is_true values (cell_of_generation p pair.0 k)) (is_true values (cell_of_generation p pair.1 k)) unequal in
    satisfies-append values (flat_map (cell_difference p base pair) (range_with_len 0 size)) (map (difference_variable base) (range_with_len 0 size) ∷ [])
    ∙ and_from _ _ each (and_from _ _ (any_true values base 0 size k (omega arith) (omega (arith, k_in)) mark) refl)

where_asked : (p : PosedProblem) (h : History) (before more : List Bool) → HasCells p before h → length p.posed.cells ≤ length before → AreFitting p.posed p.demands → Differs p h
    → (asked : Option (ℕ × ℕ)) → p.demands.differ ≡ asked
    → satisfies (before ++ (marks_where p before asked ++ more)) (option_map_or (differing_clauses p (length before)) asked []) ≡ true
where_asked p h before more has enough fitting differs None is = refl
where_asked p h before more has enough fitting differs (Some pair) is =
    satisfies-differing_clauses p h before more pair has enough (fitting.named pair is).0 (fitting.named pair is).1 (differs pair is)

pub satisfies-asked_part : (p : PosedProblem) (h : History) (before more : List Bool) → HasCells p before h → length p.posed.cells ≤ length before → AreFitting p.posed p.demands → Differs p h
    → satisfies (before ++ (marks_where p before p.demands.differ ++ more)) (asked_part p (length before)) ≡ true
satisfies-asked_part p h before more has enough fitting differs = where_asked p h before more has enough fitting differs p.demands.differ refl
