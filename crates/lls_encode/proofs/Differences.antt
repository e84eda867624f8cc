-- The variables of a difference, and the cells that they speak of.
use Rattle.std.proofs.Common.{◌≡◌, ◌<◌, ◌≤◌, ℕ, zero, suc, ◌+◌, ◌*◌, ℤ, true, [], map, length, refl, ap, ◌∙◌, arith, length-append}
use Rattle.std.specs.List.{flat_map, range_with_len}
use Rattle.std.proofs.lemmas.Bool.{and_parts, and_from, le-leb, leb-true}
use Rattle.std.proofs.Math.Nat.{mul_assoc, mul-le-mul_left}
use Rattle.std.proofs.lemmas.List.{append-nil}
use Rattle.lls_lit.specs.Literal.{variable_of}
use Rattle.lls_lit.specs.Formula.{Cnf, is_literal_of, is_within}
use Rattle.lls_transition.specs.Clause.{with_clauses}
use Rattle.lls_search_file.specs.Posed.{IsPosed}
use Rattle.lls_problem.specs.Problem.{PosedProblem}
use Rattle.lls_encode.specs.Formula.{generation_size, cell_of_generation, difference_clauses, difference_variable, cell_difference}
use Rattle.lls_encode.specs.Room.{HasRoom, with_more}
use Rattle.lls_encode.proofs.Steps.{length-flat_map_most, pushed_more}

-- a generation has few cells
pub generation_few : (p : PosedProblem) → IsPosed p.posed → generation_size p ≤ 4096
generation_few p kept =
    let high = kept.height.1 in
    let rows : p.posed.width * p.posed.height ≤ p.posed.width * 64 = mul-le-mul_left p.posed.width high in
    omega (arith, rows, kept.width.1)

-- where the kth cell of a generation stands among all cells
pub cell_in_order : (p : PosedProblem) → IsPosed p.posed → (t k : ℕ) → t < p.posed.generations → k < generation_size p → k + generation_size p * t < length p.posed.cells
cell_in_order p kept t k t_in k_in =
    let size : ℕ = generation_size p in
    let last : size * (t + 1) ≤ size * p.posed.generations = mul-le-mul_left size (omega arith) in
    omega (arith, kept.count, mul_assoc p.posed.width p.posed.height p.posed.generations, last)

-- a literal of fewer variables is one of more
pub is_literal_of-more : (few vars : ℕ) (l : ℤ) → few ≤ vars → is_literal_of few l ≡ true → is_literal_of vars l ≡ true
is_literal_of-more few vars l more within =
    let parts = and_parts _ _ within in
    let most : variable_of l ≤ few = leb-true (variable_of l) few parts.1 in
    and_from _ _ parts.0 (le-leb (variable_of l) vars (omega arith))

pub is_literal_of-difference : (base k vars : ℕ) → base + k < vars → is_literal_of vars (difference_variable base k) ≡ true
is_literal_of-difference base k vars within = and_from _ _ (le-leb 1 (base + k + 1) (omega arith)) (le-leb (base + k + 1) vars (omega arith))

pub is_within-differences : (base a n vars : ℕ) → base + a + n ≤ vars → is_within vars (map (difference_variable base) (range_with_len a n)) ≡ true
is_within-differences base a zero vars within = refl
is_within-differences base a (suc n) vars within =
    and_from _ _ (is_literal_of-difference base a vars (omega arith)) (is_within-differences base (a + 1) n vars (omega arith))

-- the clauses of one cell more
pub differences_more : (p : PosedProblem) (base n k : ℕ) (pair : ℕ × ℕ) (formula now next : Cnf) (d a b : ℤ) → now ≡ with_more formula n (flat_map (cell_difference p base pair) (range_with_len 0 k))
    → next ≡ with_clauses now (difference_clauses d a b) → d ≡ difference_variable base k → a ≡ cell_of_generation p pair.0 k → b ≡ cell_of_generation p pair.1 k
    → next ≡ with_more formula n (flat_map (cell_difference p base pair) (range_with_len 0 (k + 1)))
differences_more p base n k pair formula now next d a b so_far step d_is a_is b_is =
    pushed_more (with_more formula n []) now next (cell_difference p base pair) 0 k k
    (so_far ∙ rw append-nil)
    (step ∙ ap (λ d. with_clauses now (difference_clauses d a b)) d_is ∙ ap (λ a. with_clauses now (difference_clauses (difference_variable base k) a b)) a_is
    ∙ ap (λ b. with_clauses now (difference_clauses (difference_variable base k) (cell_of_generation p pair.0 k) b)) b_is)
    (omega arith)
    ∙ rw append-nil

-- the room that is left after the clauses of k cells
pub HasRoom-differences : (p : PosedProblem) (base n k : ℕ) (pair : ℕ × ℕ) (formula now : Cnf) → now ≡ with_more formula n (flat_map (cell_difference p base pair) (range_with_len 0 k))
    → k ≤ 4096 → HasRoom formula 16385 → HasRoom now 3
HasRoom-differences p base n k pair formula now is few has =
    let clauses = flat_map (cell_difference p base pair) (range_with_len 0 k) in
    let count : length now.clauses ≡ length formula.clauses + length clauses = ap (λ (g : Cnf). length g.clauses) is ∙ length-append formula.clauses clauses in
    omega (arith, count, length-flat_map_most (cell_difference p base pair) 2 (λ k. omega arith) 0 k)
