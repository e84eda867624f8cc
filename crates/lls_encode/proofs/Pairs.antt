-- The pairs of a shorter period: their generations, and how many there are.
use Rattle.std.proofs.Common.{◌≡◌, ◌<◌, ◌≤◌, ℕ, ◌+◌, ◌-◌, ℤ, pos, ◌-ℤ◌, Bool, true, false, cond, List, [], ◌∷◌, length, sym, ap, ◌∙◌, subst, arith, length-append}
use Rattle.std.specs.List.{AllByRecursion as Each, All, flat_map, range_with_len}
use Rattle.std.proofs.lemmas.List.{append-nil}
use Rattle.std.proofs.lemmas.List.Elements.{All-from_recursion}
use Rattle.std.proofs.lemmas.List.FromFn.{length-map-range_with_len}
use Rattle.lls_search_file.specs.Posed.{IsPosed}
use Rattle.lls_symmetry.specs.declared.moved.Course.{Course}
use Rattle.lls_symmetry.specs.declared.moved.Moved.{Moved}
use Rattle.lls_symmetry.specs.Moved.{leaving, coming, is_on_grid, entering, row_leaving, row_entering, all_leaving, all_entering, course_at, generation_moved, moved_pairs_of}
use Rattle.lls_symmetry.proofs.Everywhere.{Each-append, Each-range, Each-mapped}
use Rattle.lls_problem.specs.declared.demands.Period.{Period}
use Rattle.lls_problem.specs.Problem.{PosedProblem}
use Rattle.lls_problem.specs.Losses.{course_of}
use Rattle.lls_encode.specs.Formula.{pairs_of}
use Rattle.lls_encode.proofs.Steps.{length-flat_map_most}

-- both places of a pair are of generations of the file
pub record IsInFile (p : PosedProblem) (pair : Moved) : Type 0 where
  pub early : pair.early.t < p.posed.generations
  pub late : pair.late.t < p.posed.generations

one_or_none : (p : PosedProblem) (pair : Moved) (b : Bool) → IsInFile p pair → Each (IsInFile p) (cond b [] (pair ∷ []))
one_or_none p pair true is = tt
one_or_none p pair false is = (is, tt)

pub pairs_in : (p : PosedProblem) (part : Period) → part.length < p.posed.generations → Each (IsInFile p) (pairs_of p part)
pairs_in p part shorter =
    let course : Course = course_of part 0 in
    let height : ℕ = p.posed.height in
    let width : ℕ = p.posed.width in
    let first : 0 < p.posed.generations = omega (arith, shorter) in
    let later : 0 + part.length < p.posed.generations = omega (arith, shorter) in
    Each-append (IsInFile p) (all_leaving course height width) (all_entering course height width)
    (Each-range (IsInFile p) (row_leaving course width) height (λ y row.
    Each-mapped (IsInFile p) (leaving course y) width (λ x column. record { early = first; late = later })))
    (Each-range (IsInFile p) (row_entering course height width) height (λ y row.
    Each-range (IsInFile p) (entering course height width y) width (λ x column.
    one_or_none p (coming course y x) (is_on_grid height width (pos y -ℤ course.dy) (pos x -ℤ course.dx)) (record { early = first; late = later }))))

pub early_in : (p : PosedProblem) (part : Period) (pairs : List Moved) → part.length < p.posed.generations → pairs ≡ pairs_of p part → All (λ pair. pair.early.t < p.posed.generations) pairs
early_in p part pairs shorter are =
    subst (All (λ pair. pair.early.t < p.posed.generations)) (sym are) (λ k d within. (All-from_recursion (IsInFile p) (pairs_of p part) (pairs_in p part shorter) k d within).early)

pub late_in : (p : PosedProblem) (part : Period) (pairs : List Moved) → part.length < p.posed.generations → pairs ≡ pairs_of p part → All (λ pair. pair.late.t < p.posed.generations) pairs
late_in p part pairs shorter are =
    subst (All (λ pair. pair.late.t < p.posed.generations)) (sym are) (λ k d within. (All-from_recursion (IsInFile p) (pairs_of p part) (pairs_in p part shorter) k d within).late)

-- the pairs that the code makes: of a file that ends with the later generation, there are those of generation 0 alone
pub pairs_made : (height width length : ℕ) (dx dy : ℤ) → moved_pairs_of (length + 1) height width length dx dy ≡ generation_moved height width (course_at length dx dy 0)
unfolding moved_pairs_of
pairs_made height width length dx dy =
    let one : length + 1 - length ≡ 1 = omega arith in
    ap (λ n. flat_map (λ t. generation_moved height width (course_at length dx dy t)) (range_with_len 0 n)) one
    ∙ append-nil (generation_moved height width (course_at length dx dy 0))

-- there are at most two for each cell of a grid of the greatest size
length-rows : {X : Type 0} (f : ℕ → List X) (n : ℕ) → ((y : ℕ) → length (f y) ≤ 64) → n ≤ 64 → length (flat_map f (range_with_len 0 n)) ≤ 4096
length-rows f n each few = omega (arith, few, length-flat_map_most f 64 each 0 n)

length-one_or_none : (pair : Moved) (b : Bool) → length (cond b [] (pair ∷ [])) ≤ 1
length-one_or_none pair true = omega arith
length-one_or_none pair false = omega arith

pub pairs_few : (p : PosedProblem) (part : Period) → IsPosed p.posed → length (pairs_of p part) ≤ 8192
pairs_few p part kept =
    let course : Course = course_of part 0 in
    let height : ℕ = p.posed.height in
    let width : ℕ = p.posed.width in
    omega (
      arith,
      length-append (all_leaving course height width) (all_entering course height width),
      length-rows (row_leaving course width) height (λ y. omega (arith, kept.width.1, length-map-range_with_len (leaving course y) 0 width)) kept.height.1,
      length-rows (row_entering course height width) height (λ y. omega (
        arith,
        kept.width.1,
        length-flat_map_most (entering course height width y) 1 (λ x. length-one_or_none (coming course y x) (is_on_grid height width (pos y -ℤ course.dy) (pos x -ℤ course.dx))) 0 width,
      )) kept.height.1,
    )
