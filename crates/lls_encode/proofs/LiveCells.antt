-- The live cells of a generation, counted by the variables of its cells.
use Rattle.std.proofs.Common.{◌≡◌, ◌<◌, ◌≤◌, ℕ, zero, suc, ◌+◌, ◌*◌, ℤ, Bool, true, false, cond, List, [], ◌∷◌, map, length, get_or, take, drop, refl, sym, ap, ◌∙◌, arith, length-drop}
use Rattle.std.specs.List.{count_by, range_with_len}
use Rattle.std.proofs.Math.Nat.{mul_assoc, mul-le-mul_left}
use Rattle.std.proofs.lemmas.Bool.{and_from, le-leb}
use Rattle.std.proofs.lemmas.List.{length-take-le, get_or-take, get_or-drop}
use Rattle.std.proofs.lemmas.List.Sums.{sum_by-cons}
use Rattle.std.proofs.lemmas.List.FromFn.{length-map-range_with_len}
use Rattle.lls_lit.specs.Formula.{is_true, is_literal_of, is_within}
use Rattle.lls_grid.specs.History.{History, HasSizes, cells_of, rows_at, cells_of_rows}
use Rattle.lls_grid.specs.Changes.{population}
use Rattle.lls_grid.proofs.Chunks.{cells_of_rows-folded, generation-le}
use Rattle.lls_grid.proofs.InOrder.{length-cells_of}
use Rattle.lls_grid.proofs.Whole.{folded-cells_of}
use Rattle.lls_search_file.specs.Posed.{IsPosed}
use Rattle.lls_problem.specs.Problem.{PosedProblem}
use Rattle.lls_encode.specs.Formula.{generation_size, cell_of_generation, generation_cells}
use Rattle.lls_encode.proofs.Differences.{cell_in_order}
use Rattle.lls_encode.proofs.Values.{HasCells, is_true-cell}

-- literals that have the values of a list
counted : (values : List Bool) (f : ℕ → ℤ) (xs : List Bool) (a : ℕ) → ((k : ℕ) → k < length xs → is_true values (f (a + k)) ≡ get_or xs k false)
    → count_by (is_true values) (map f (range_with_len a (length xs))) ≡ count_by (λ live. live) xs
counted values f [] a each = refl
counted values f (x ∷ xs) a each =
    let first : a ≡ a + 0 = omega arith in
    let here : is_true values (f a) ≡ x = ap (λ k. is_true values (f k)) first ∙ each 0 (omega arith) in
    let later : (k : ℕ) → k < length xs → is_true values (f (a + 1 + k)) ≡ get_or xs k false = λ k k_in.
    let next : a + 1 + k ≡ a + suc k = omega arith in ap (λ i. is_true values (f i)) next ∙ each (suc k) (omega arith) in
    sum_by-cons (λ l. cond (is_true values l) 1 0) (f a) (map f (range_with_len (a + 1) (length xs)))
    ∙ ap (λ b. cond b 1 0 + count_by (is_true values) (map f (range_with_len (a + 1) (length xs)))) here
    ∙ ap (λ n. cond x 1 0 + n) (counted values f xs (a + 1) later)
    ∙ sym (sum_by-cons (λ b. cond b 1 0) x xs)

-- the cells of a generation stand together among all
pub cells_of_generation : (p : PosedProblem) (h : History) → HasSizes p.posed.generations p.posed.height p.posed.width h → (t : ℕ) → t < p.posed.generations
    → cells_of_rows (rows_at h t) ≡ take (generation_size p) (drop (p.posed.width * (p.posed.height * t)) (cells_of h))
cells_of_generation p h sizes t t_in =
    ap (λ h. cells_of_rows (rows_at h t)) (sym (folded-cells_of p.posed.generations p.posed.height p.posed.width h sizes))
    ∙ cells_of_rows-folded p.posed.generations p.posed.height p.posed.width t (cells_of h) (length-cells_of p.posed.generations p.posed.height p.posed.width h sizes) t_in

pub length-generation_cells : (p : PosedProblem) (t : ℕ) → length (generation_cells p t) ≡ generation_size p
length-generation_cells p t = length-map-range_with_len (cell_of_generation p t) 0 (generation_size p)

-- as many of the literals are true as cells are live
pub count-generation_cells : (p : PosedProblem) (h : History) (values : List Bool) → HasCells p values h → (t : ℕ) → t < p.posed.generations
    → count_by (is_true values) (generation_cells p t) ≡ population h t
count-generation_cells p h values has t t_in =
    let size : ℕ = generation_size p in
    let before : ℕ = p.posed.width * (p.posed.height * t) in
    let cells : List Bool = take size (drop before (cells_of h)) in
    let all : length (cells_of h) ≡ p.posed.width * (p.posed.height * p.posed.generations) = length-cells_of p.posed.generations p.posed.height p.posed.width h has.sizes in
    let place : size * t ≡ before = mul_assoc p.posed.width p.posed.height t in
    let enough : size ≤ length (drop before (cells_of h)) =
    omega (arith, length-drop before (cells_of h), all, place, generation-le p.posed.generations p.posed.height p.posed.width t t_in) in
    let count : length cells ≡ size = length-take-le size (drop before (cells_of h)) enough in
    let each : (k : ℕ) → k < length cells → is_true values (cell_of_generation p t (0 + k)) ≡ get_or cells k false = λ k k_in.
    let number : 0 + k + size * t ≡ before + k = omega (arith, place) in
    is_true-cell values (0 + k + size * t)
    ∙ has.cells (0 + k + size * t) (cell_in_order p has.kept t (0 + k) t_in (omega (arith, count)))
    ∙ ap (λ i. get_or (cells_of h) i false) number
    ∙ sym (get_or-take size (drop before (cells_of h)) k false (omega (arith, count)) ∙ get_or-drop before (cells_of h) k false) in
    ap (λ n. count_by (is_true values) (map (cell_of_generation p t) (range_with_len 0 n))) (sym count)
    ∙ counted values (cell_of_generation p t) cells 0 each
    ∙ ap (count_by (λ live. live)) (sym (cells_of_generation p h has.sizes t t_in))

-- their variables are the file's
pub is_literal_of-cell : (p : PosedProblem) → IsPosed p.posed → (t k vars : ℕ) → t < p.posed.generations → k < generation_size p → length p.posed.cells ≤ vars → is_literal_of vars (cell_of_generation p t k) ≡ true
is_literal_of-cell p kept t k vars t_in k_in enough =
    let within = cell_in_order p kept t k t_in k_in in
    and_from _ _ (le-leb 1 (k + generation_size p * t + 1) (omega arith)) (le-leb (k + generation_size p * t + 1) vars (omega (arith, within)))

within_range : (p : PosedProblem) → IsPosed p.posed → (t vars a n : ℕ) → t < p.posed.generations → a + n ≤ generation_size p → length p.posed.cells ≤ vars
    → is_within vars (map (cell_of_generation p t) (range_with_len a n)) ≡ true
within_range p kept t vars a zero t_in inside enough = refl
within_range p kept t vars a (suc n) t_in inside enough =
    and_from _ _ (is_literal_of-cell p kept t a vars t_in (omega arith) enough) (within_range p kept t vars (a + 1) n t_in (omega arith) enough)

pub is_within-generation_cells : (p : PosedProblem) → IsPosed p.posed → (t vars : ℕ) → t < p.posed.generations → length p.posed.cells ≤ vars → is_within vars (generation_cells p t) ≡ true
is_within-generation_cells p kept t vars t_in enough = within_range p kept t vars 0 (generation_size p) t_in (omega arith) enough

-- there are some
pub some_cells : (p : PosedProblem) → IsPosed p.posed → 1 ≤ generation_size p
some_cells p kept =
    let rows : p.posed.width * 1 ≤ p.posed.width * p.posed.height = mul-le-mul_left p.posed.width kept.height.0 in
    omega (arith, kept.width.0, rows)
