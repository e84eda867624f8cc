-- How many clauses each part has at most.
use Rattle.std.proofs.Common.{◌≤◌, ℕ, ◌+◌, ◌-◌, ◌*◌, ℤ, pos, ◌-ℤ◌, Bool, true, false, List, [], ◌∷◌, map, length, refl, arith, cond, Option, None, Some, length-append}
use Rattle.std.specs.Option.{option_to_list}
use Rattle.std.specs.List.{flat_map, range_with_len}
use Rattle.std.proofs.lemmas.List.{append-nil}
use Rattle.std.proofs.lemmas.Grind.{flat_map-append}
use Rattle.lls_lit.specs.Formula.{Clause}
use Rattle.lls_search_file.specs.declared.cell.Kind.{Kind}
use Rattle.lls_search_file.specs.declared.cell.Kind.TheVariants.{Dead, Live, Free, Named, Negated}
use Rattle.lls_rule.specs.Rule.{background}
use Rattle.lls_search_file.specs.Posed.{IsPosed}
use Rattle.lls_symmetry.specs.declared.motion.Motion.{Motion}
use Rattle.lls_symmetry.specs.declared.symmetry.Symmetry.{Symmetry}
use Rattle.lls_symmetry.specs.declared.symmetry.Symmetry.TheVariants.{C1, C2, C4, D2Row, D2Col, D2Down, D2Up, D4Plus, D4Cross, D8}
use Rattle.lls_symmetry.specs.declared.moved.Course.{Course}
use Rattle.lls_symmetry.specs.Symmetry.{generators_of}
use Rattle.lls_symmetry.specs.Pairs.{pair_at, row_pairs}
use Rattle.lls_symmetry.specs.Moved.{leaving, coming, is_on_grid, entering, row_leaving, row_entering, all_leaving, all_entering, generation_moved}
use Rattle.lls_problem.specs.declared.demands.Edge.{Edge}
use Rattle.lls_problem.specs.declared.demands.Edge.TheVariants.{Framed, Bare}
use Rattle.lls_problem.specs.declared.demands.Period.{Period}
use Rattle.lls_problem.specs.declared.form.Form.{Form}
use Rattle.lls_problem.specs.declared.form.Form.TheVariants.{Rows, Cover}
use Rattle.lls_problem.specs.Problem.{PosedProblem, IsPeriod}
use Rattle.lls_problem.specs.Solution.{is_marked}
use Rattle.lls_problem.specs.Unlike.{differ}
use Rattle.lls_problem.specs.Losses.{course_of}
use Rattle.lls_problem.proofs.FirstOf.{flat_map-flat_map}
use Rattle.lls_transition.specs.declared.place.Place.{Place}
use Rattle.lls_cube.specs.declared.cube.Cube.{Cube}
use Rattle.lls_cube.specs.Table.{forbidden_rows}
use Rattle.lls_cube.specs.Cube.{row_cube}
use Rattle.lls_transition.specs.Transition.{table_of}
use Rattle.lls_transition.proofs.Pushed.{length-cube_clauses}
use Rattle.lls_transition.proofs.Distinct.{length-distinct}
use Rattle.lls_transition.proofs.Obeyed.{length-cubes, length-covering_cubes}
use Rattle.lls_encode.specs.Place.{inputs_at}
use Rattle.lls_transition.specs.Clause.{differing, clause_of, cube_clauses}
use Rattle.lls_encode.specs.Formula.{fixed_clauses, cubes_of, clauses_at, place_clauses, line_clauses, generation_clauses, framed, framed_count, first_framed, either, same_places, pair_clauses, symmetric_clauses, motion_clauses, symmetry_part, moved_clauses, background_clauses, return_clauses, period_clauses}
use Rattle.lls_encode.proofs.Steps.{length-flat_map_most, flat_map-map}

pub length-fixed_clauses : (k : ℕ) (kind : Kind) → length (fixed_clauses k kind) ≤ 1
length-fixed_clauses k Dead = omega arith
length-fixed_clauses k Live = omega arith
length-fixed_clauses k Free = omega arith
length-fixed_clauses k (Named n) = omega arith
length-fixed_clauses k (Negated n) = omega arith

length_if : {A : Type 0} (b : Bool) (xs ys : List A) (m : ℕ) → length xs ≤ m → length ys ≤ m → length (cond b xs ys) ≤ m
length_if true xs ys m left right = left
length_if false xs ys m left right = right

pub length-clauses_at : (form : Form) (cubes : List Cube) (inputs : List Place) → length (clauses_at form cubes inputs) ≤ length cubes
length-clauses_at Rows cubes inputs = omega (arith, length-cube_clauses inputs cubes)
length-clauses_at Cover cubes inputs = omega (arith, length-cube_clauses inputs cubes, length-distinct (cube_clauses inputs cubes))

pub length-cubes_of : (form : Form) (rule : List Bool) → length (cubes_of form rule) ≤ 512
length-cubes_of Rows rule = omega (arith, length-cubes rule (map (row_cube 10) (forbidden_rows (table_of rule))) refl)
length-cubes_of Cover rule = length-covering_cubes rule

pub length-place_clauses : (p : PosedProblem) (form : Form) (cubes : List Cube) → length cubes ≤ 512 → (t : ℕ) (y x : ℤ) → length (place_clauses p form cubes t y x) ≤ 512
length-place_clauses p form cubes each t y x =
    length_if (is_marked p.posed (t + 1) y x) [] _ 512 (omega arith) (omega (arith, each, length-clauses_at form cubes (inputs_at p t y x)))

framed_few : (edge : Edge) (size : ℕ) → size ≤ 64 → framed_count edge size ≤ 66
framed_few Framed size few = omega arith
framed_few Bare size few = omega arith

length-flat_map-framed : (f : ℤ → List Clause) (m : ℕ) (edge : Edge) (size : ℕ) → ((x : ℤ) → length (f x) ≤ m) → size ≤ 64
    → length (flat_map f (framed edge size)) ≤ m * 66
length-flat_map-framed f m edge size each few =
    let all = length-flat_map_most (λ (k : ℕ). f (pos k -ℤ pos 1)) m (λ k. each (pos k -ℤ pos 1)) (first_framed edge) (framed_count edge size) in
    let count : framed_count edge size ≤ 66 = framed_few edge size few in
    let enough : m * framed_count edge size ≤ m * 66 = grind arith in
    rw flat_map-map (omega arith)

pub length-line_clauses : (p : PosedProblem) (form : Form) (cubes : List Cube) → length cubes ≤ 512 → (t : ℕ) (y : ℤ) → p.posed.width ≤ 64 → length (line_clauses p form cubes t y) ≤ 33792
length-line_clauses p form cubes each t y few = length-flat_map-framed (place_clauses p form cubes t y) 512 p.demands.edge p.posed.width (length-place_clauses p form cubes each t y) few

pub length-generation_clauses : (p : PosedProblem) (form : Form) (cubes : List Cube) → length cubes ≤ 512 → (t : ℕ) → p.posed.width ≤ 64 → p.posed.height ≤ 64
    → length (generation_clauses p form cubes t) ≤ 2230272
length-generation_clauses p form cubes each t few few' =
    length-flat_map-framed (line_clauses p form cubes t) 33792 p.demands.edge p.posed.height (λ y. length-line_clauses p form cubes each t y few) few'

-- of two places that are equal
one_at_most : (o : Option Clause) → length (option_to_list o) ≤ 1
one_at_most None = omega arith
one_at_most (Some clause) = omega arith

pub length-same_places : (a b : Place) → length (same_places a b) ≤ 2
length-same_places a b =
    omega (
      arith,
      length-append (either (differing a true) b) (either a (differing b true)),
      one_at_most (clause_of (differing a true ∷ b ∷ [])),
      one_at_most (clause_of (a ∷ differing b true ∷ [])),
    )

-- of a list of at most one element, of a list of each number of a range, and of a list
length-flat_map_unless : {X : Type 0} (g : X → List Clause) (b : Bool) (x : X) (m : ℕ) → length (g x) ≤ m → length (flat_map g (cond b [] (x ∷ []))) ≤ m
length-flat_map_unless g true x m few = omega arith
length-flat_map_unless g false x m few = rw append-nil few

length-flat_map_joined : {X : Type 0} (g : X → List Clause) (f : ℕ → List X) (m n most : ℕ) → ((k : ℕ) → length (flat_map g (f k)) ≤ m) → n ≤ most
    → length (flat_map g (flat_map f (range_with_len 0 n))) ≤ m * most
length-flat_map_joined g f m n most each few =
    let all = length-flat_map_most (λ k. flat_map g (f k)) m each 0 n in
    let enough : m * n ≤ m * most = grind arith in
    rw flat_map-flat_map (omega arith)

length-flat_map_list : {X : Type 0} (f : X → List Clause) (m : ℕ) → ((x : X) → length (f x) ≤ m) → (xs : List X) → length (flat_map f xs) ≤ m * length xs
length-flat_map_list f m each [] = omega arith
length-flat_map_list f m each (x ∷ xs) = omega (arith, each x, length-append (f x) (flat_map f xs), length-flat_map_list f m each xs)

-- of symmetry
pub length-cell_pairs : (p : PosedProblem) (t : ℕ) (motion : Motion) (height width y x : ℕ) → length (flat_map (pair_clauses p t) (pair_at motion height width y x)) ≤ 2
length-cell_pairs p t motion height width y x = length-flat_map_unless (pair_clauses p t) _ _ 2 (length-same_places _ _)

pub length-row_pairs : (p : PosedProblem) (t : ℕ) (motion : Motion) (height width y : ℕ) → width ≤ 64 → length (flat_map (pair_clauses p t) (row_pairs motion height width y)) ≤ 128
length-row_pairs p t motion height width y few =
    length-flat_map_joined (pair_clauses p t) (pair_at motion height width y) 2 width 64 (length-cell_pairs p t motion height width y) few

pub length-symmetric_clauses : (p : PosedProblem) → IsPosed p.posed → (motion : Motion) (t : ℕ) → length (symmetric_clauses p motion t) ≤ 8192
length-symmetric_clauses p kept motion t =
    length-flat_map_joined (pair_clauses p t) (row_pairs motion p.posed.height p.posed.width) 128 p.posed.height 64
    (λ y. length-row_pairs p t motion p.posed.height p.posed.width y kept.width.1) kept.height.1

pub length-motion_clauses : (p : PosedProblem) → IsPosed p.posed → (motion : Motion) → length (motion_clauses p motion) ≤ 524288
length-motion_clauses p kept motion =
    omega (arith, kept.generations.1, length-flat_map_most (symmetric_clauses p motion) 8192 (length-symmetric_clauses p kept motion) 0 p.posed.generations)

pub few_generators : (symmetry : Symmetry) → length (generators_of symmetry) ≤ 2
few_generators C1 = omega arith
few_generators C2 = omega arith
few_generators C4 = omega arith
few_generators D2Row = omega arith
few_generators D2Col = omega arith
few_generators D2Down = omega arith
few_generators D2Up = omega arith
few_generators D4Plus = omega arith
few_generators D4Cross = omega arith
few_generators D8 = omega arith

pub length-symmetry_part : (p : PosedProblem) → IsPosed p.posed → length (symmetry_part p) ≤ 1048576
length-symmetry_part p kept =
    omega (arith, few_generators p.demands.symmetry, length-flat_map_list (motion_clauses p) 524288 (length-motion_clauses p kept) (generators_of p.demands.symmetry))

-- of a period
pub length-row_leaving : (p : PosedProblem) (course : Course) (width y : ℕ) → width ≤ 64 → length (flat_map (moved_clauses p) (row_leaving course width y)) ≤ 128
length-row_leaving p course width y few =
    let all = length-flat_map_most (λ x. moved_clauses p (leaving course y x)) 2 (λ x. length-same_places _ _) 0 width in
    rw flat_map-map (omega arith)

pub length-all_leaving : (p : PosedProblem) (course : Course) (height width : ℕ) → height ≤ 64 → width ≤ 64 → length (flat_map (moved_clauses p) (all_leaving course height width)) ≤ 8192
length-all_leaving p course height width few few' =
    length-flat_map_joined (moved_clauses p) (row_leaving course width) 128 height 64 (λ y. length-row_leaving p course width y few') few

pub length-entering : (p : PosedProblem) (course : Course) (height width y x : ℕ) → length (flat_map (moved_clauses p) (entering course height width y x)) ≤ 2
length-entering p course height width y x =
    length-flat_map_unless (moved_clauses p) (is_on_grid height width (pos y -ℤ course.dy) (pos x -ℤ course.dx)) (coming course y x) 2 (length-same_places _ _)

pub length-row_entering : (p : PosedProblem) (course : Course) (height width y : ℕ) → width ≤ 64 → length (flat_map (moved_clauses p) (row_entering course height width y)) ≤ 128
length-row_entering p course height width y few =
    length-flat_map_joined (moved_clauses p) (entering course height width y) 2 width 64 (length-entering p course height width y) few

pub length-all_entering : (p : PosedProblem) (course : Course) (height width : ℕ) → height ≤ 64 → width ≤ 64 → length (flat_map (moved_clauses p) (all_entering course height width)) ≤ 8192
length-all_entering p course height width few few' =
    length-flat_map_joined (moved_clauses p) (row_entering course height width) 128 height 64 (λ y. length-row_entering p course height width y few') few

one_where : (b : Bool) (clause : Clause) → length (cond b (clause ∷ []) []) ≤ 1
one_where true clause = omega arith
one_where false clause = omega arith

pub length-background_clauses : (p : PosedProblem) (period : Period) (t : ℕ) → length (background_clauses p period t) ≤ 1
length-background_clauses p period t = one_where (differ (background p.rule t) (background p.rule (t + period.length))) []

pub length-return_clauses : (p : PosedProblem) → IsPosed p.posed → (period : Period) (t : ℕ) → length (return_clauses p period t) ≤ 16385
length-return_clauses p kept period t =
    let course = course_of period t in
    let leave = all_leaving course p.posed.height p.posed.width in
    let enter = all_entering course p.posed.height p.posed.width in
    let moved = generation_moved p.posed.height p.posed.width course in
    let both : length (flat_map (moved_clauses p) moved) ≤ 16384 =
    rw flat_map-append (omega (
      arith,
      length-append (flat_map (moved_clauses p) leave) (flat_map (moved_clauses p) enter),
      length-all_leaving p course p.posed.height p.posed.width kept.height.1 kept.width.1,
      length-all_entering p course p.posed.height p.posed.width kept.height.1 kept.width.1,
    )) in
    omega (arith, both, length-append (background_clauses p period t) (flat_map (moved_clauses p) moved), length-background_clauses p period t)

pub length-period_clauses : (p : PosedProblem) → IsPosed p.posed → (period : Period) → IsPeriod period → length (period_clauses p period) ≤ 1032255
length-period_clauses p kept period limits =
    omega (
      arith,
      kept.generations.1,
      limits.length.0,
      length-flat_map_most (return_clauses p period) 16385 (length-return_clauses p kept period) 0 (p.posed.generations - period.length),
    )
