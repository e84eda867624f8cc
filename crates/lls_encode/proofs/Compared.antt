-- The clauses that compare generation 0 with its images: how many they are, and what the pushes of them make.
use Rattle.std.proofs.Common.{◌≡◌, ◌<◌, ◌≤◌, ℕ, zero, suc, ◌+◌, ◌*◌, Bool, true, false, cond, List, [], ◌∷◌, ◌++◌, length, drop, refl, sym, ap, ◌∙◌, arith, length-append, add-zero, add-one}
use Rattle.std.specs.List.{AllByRecursion as Each, All, filter, flat_map, range_with_len}
use Rattle.std.proofs.lemmas.List.{append-nil}
use Rattle.std.proofs.lemmas.List.Elements.{All-from_recursion}
use Rattle.std.proofs.lemmas.List.FromFn.{length-range_with_len}
use Rattle.std.proofs.lemmas.List.Sums.{length-filter, count_by-le-length}
use Rattle.lls_lit.specs.Formula.{Cnf}
use Rattle.lls_symmetry.specs.declared.motion.Motion.{Motion}
use Rattle.lls_search_file.specs.Posed.{IsPosed}
use Rattle.lls_problem.specs.Problem.{PosedProblem}
use Rattle.lls_transition.specs.Clause.{with_clauses}
use Rattle.lls_encode.specs.Formula.{generation_size}
use Rattle.lls_encode.specs.Images.{is_changed, changed_cells, comparison, comparisons, all_comparisons, all_comparison_vars}
use Rattle.lls_encode.specs.Room.{HasRoom, with_more}
use Rattle.lls_encode.proofs.Steps.{length-flat_map_most, HasRoom-after, pushed_more}
use Rattle.lls_encode.proofs.Differences.{generation_few}
use Rattle.lls_encode.proofs.Parted.{with_more-more}

-- the formula with the comparisons of motions behind its own clauses, and their variables
abbrev pub with_motions : PosedProblem → Cnf → List Motion → Cnf
with_motions p formula motions = with_more formula (all_comparison_vars p motions) (all_comparisons p formula.vars motions)

-- one number more that may pass
filter-from_more : (f : ℕ → Bool) (a n : ℕ) → filter f (range_with_len a (suc n)) ≡ filter f (range_with_len a n) ++ cond (f (a + n)) ((a + n) ∷ []) []
filter-from_more f a zero =
    let here : a + 0 ≡ a = omega arith in
    ap (λ (k : ℕ). cond {A = List ℕ} (f k) (k ∷ []) []) (sym here)
filter-from_more f a (suc n) =
    let there : a + 1 + n ≡ a + suc n = omega arith in
    let later = filter-from_more f (a + 1) n ∙ ap (λ k. filter f (range_with_len (a + 1) n) ++ cond (f k) (k ∷ []) []) there in
    elim (f a) as (λ b. cond b (a ∷ filter f (range_with_len (a + 1) (suc n))) (filter f (range_with_len (a + 1) (suc n)))
    ≡ cond b (a ∷ filter f (range_with_len (a + 1) n)) (filter f (range_with_len (a + 1) n)) ++ cond (f (a + suc n)) ((a + suc n) ∷ []) []) [
      | true ↦ ap (λ xs. a ∷ xs) later
      | false ↦ later
    ]

pub filter-range_more : (f : ℕ → Bool) (now next : List ℕ) (n : ℕ) → now ≡ filter f (range_with_len 0 n) → next ≡ now ++ cond (f n) (n ∷ []) [] → next ≡ filter f (range_with_len 0 (n + 1))
filter-range_more f now next n so_far step =
    let at : 0 + n ≡ n = omega arith in
    step ∙ ap (λ xs. xs ++ cond (f n) (n ∷ []) []) so_far ∙ ap (λ k. filter f (range_with_len 0 n) ++ cond (f k) (k ∷ []) []) (sym at) ∙ sym (rw add-one (filter-from_more f 0 n))

-- the numbers of a range that pass are few, and below its end
pub length-filter_range : (f : ℕ → Bool) (n : ℕ) → length (filter f (range_with_len 0 n)) ≤ n
length-filter_range f n =
    let few = count_by-le-length f (range_with_len 0 n) in
    omega (arith, few, length-filter f (range_with_len 0 n), length-range_with_len 0 n)

below_from : (f : ℕ → Bool) (a n most : ℕ) → a + n ≤ most → Each (λ k. k < most) (filter f (range_with_len a n))
below_from f a zero most enough = tt
below_from f a (suc n) most enough =
    let later = below_from f (a + 1) n most (omega arith) in
    elim (f a) as (λ b. Each (λ k. k < most) (cond b (a ∷ filter f (range_with_len (a + 1) n)) (filter f (range_with_len (a + 1) n)))) [
      | true ↦ (omega arith, later)
      | false ↦ later
    ]

pub filter_range-below : (f : ℕ → Bool) (n : ℕ) → All (λ k. k < n) (filter f (range_with_len 0 n))
filter_range-below f n = All-from_recursion (λ k. k < n) (filter f (range_with_len 0 n)) (below_from f 0 n n (omega arith))

-- how many clauses and variables there are
length-comparisons : (p : PosedProblem) (motion : Motion) (base : ℕ) (cells : List ℕ) → length (comparisons p motion base cells) ≤ 3 * length cells
length-comparisons p motion base cells = length-flat_map_most (comparison p motion base cells) 3 (λ i. omega arith) 0 (length cells)

pub few_changed : (p : PosedProblem) (motion : Motion) → IsPosed p.posed → length (changed_cells p motion) ≤ 4096
few_changed p motion kept = let few = length-filter_range (is_changed p motion) (generation_size p) in omega (arith, few, generation_few p kept)

pub few_comparison_vars : (p : PosedProblem) → IsPosed p.posed → (motions : List Motion) → all_comparison_vars p motions ≤ 4096 * length motions
few_comparison_vars p kept [] = omega arith
few_comparison_vars p kept (motion ∷ motions) = omega (arith, few_changed p motion kept, few_comparison_vars p kept motions)

pub length-all_comparisons : (p : PosedProblem) → IsPosed p.posed → (base : ℕ) (motions : List Motion) → length (all_comparisons p base motions) ≤ 12288 * length motions
length-all_comparisons p kept base [] = omega arith
length-all_comparisons p kept base (motion ∷ motions) =
    let few = length-comparisons p motion base (changed_cells p motion) in
    omega (
      arith,
      few,
      few_changed p motion kept,
      length-append (comparisons p motion base (changed_cells p motion)) (all_comparisons p (base + length (changed_cells p motion)) motions),
      length-all_comparisons p kept (base + length (changed_cells p motion)) motions,
    )

-- a comparison more of a motion's
pub comparisons_more : (p : PosedProblem) (motion : Motion) (base n i : ℕ) (cells : List ℕ) (formula now next : Cnf) → now ≡ with_more formula n (flat_map (comparison p motion base cells) (range_with_len 0 i))
    → next ≡ with_clauses now (comparison p motion base cells i) → next ≡ with_more formula n (flat_map (comparison p motion base cells) (range_with_len 0 (i + 1)))
comparisons_more p motion base n i cells formula now next so_far step =
    pushed_more (record { vars = formula.vars + n; clauses = formula.clauses }) now next (comparison p motion base cells) 0 i i so_far step (omega arith)

-- and the room for it
pub HasRoom-comparison : (p : PosedProblem) (motion : Motion) (base n i : ℕ) (cells : List ℕ) (formula now : Cnf) → now ≡ with_more formula n (flat_map (comparison p motion base cells) (range_with_len 0 i))
    → i < 4096 → HasRoom formula 12288 → HasRoom now 3
HasRoom-comparison p motion base n i cells formula now so_far few has =
    HasRoom-after (record { vars = formula.vars + n; clauses = formula.clauses }) now (comparison p motion base cells) 3 0 i 4096 12288 (λ k. omega arith) so_far few (omega arith) has

-- a motion more, and those that are left
pub with_motion : (p : PosedProblem) (formula next : Cnf) (motion : Motion) (motions : List Motion)
    → next ≡ with_more formula (length (changed_cells p motion)) (comparisons p motion formula.vars (changed_cells p motion))
    → with_motions p next motions ≡ with_motions p formula (motion ∷ motions)
with_motion p formula next motion motions is =
    ap (λ (f : Cnf). with_motions p f motions) is
    ∙ with_more-more formula (length (changed_cells p motion)) (all_comparison_vars p motions) (comparisons p motion formula.vars (changed_cells p motion))
    (all_comparisons p (formula.vars + length (changed_cells p motion)) motions)

pub with_no_motions : (p : PosedProblem) (formula : Cnf) → with_motions p formula [] ≡ formula
with_no_motions p formula = rw (append-nil, add-zero) refl

-- the variables and the clauses of those that are left
pub motions_vars : (p : PosedProblem) (formula now : Cnf) (motions left : List Motion) → with_motions p now left ≡ with_motions p formula motions
    → now.vars + all_comparison_vars p left ≡ formula.vars + all_comparison_vars p motions
motions_vars p formula now motions left is = ap (λ (f : Cnf). f.vars) is

pub motions_clauses : (p : PosedProblem) (formula now : Cnf) (motions left : List Motion) → with_motions p now left ≡ with_motions p formula motions
    → length now.clauses + length (all_comparisons p now.vars left) ≡ length formula.clauses + length (all_comparisons p formula.vars motions)
motions_clauses p formula now motions left is =
    sym (length-append now.clauses (all_comparisons p now.vars left)) ∙ ap (λ (f : Cnf). length f.clauses) is ∙ length-append formula.clauses (all_comparisons p formula.vars motions)

pub fewer_vars : (p : PosedProblem) (motions : List Motion) (n : ℕ) → all_comparison_vars p (drop n motions) ≤ all_comparison_vars p motions
fewer_vars p [] zero = omega arith
fewer_vars p [] (suc n) = omega arith
fewer_vars p (motion ∷ motions) zero = omega arith
fewer_vars p (motion ∷ motions) (suc n) = let later = fewer_vars p motions n in omega (arith, later)
