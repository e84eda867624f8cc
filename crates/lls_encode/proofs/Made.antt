-- The formula from its parts: what the pushes make of a new formula, the room that each leaves, and how many clauses there are.
use Rattle.std.proofs.Common.{◌≡◌, ◌<◌, ◌≤◌, ℕ, ◌+◌, ◌-◌, List, [], ◌∷◌, ◌++◌, map, length, refl, ap, ◌∙◌, arith, length-append, Option, None, Some}
use Rattle.std.specs.Option.{option_map_or}
use Rattle.std.specs.List.{flat_map, range_with_len}
use Rattle.std.proofs.lemmas.List.{length-map}
use Rattle.lls_lit.specs.Formula.{Clause, Cnf}
use Rattle.lls_search_file.specs.Posed.{IsPosed}
use Rattle.lls_problem.specs.declared.demands.Period.{Period}
use Rattle.lls_problem.specs.declared.form.Form.{Form}
use Rattle.lls_problem.specs.Problem.{PosedProblem, AreFitting}
use Rattle.lls_problem.specs.Solution.{cell_number}
use Rattle.lls_transition.specs.Clause.{with_clauses}
use Rattle.lls_encode.specs.Formula.{fixed_clauses, name_clauses, cubes_of, generation_clauses, generation_size, period_clauses, difference_variable, cell_difference, differing_clauses, asked_part, asked_vars, exact_part, unlike, listed_part, fixed_part, name_part, symmetry_part, period_part, front_part, transition_part, bounds_part, bounds_vars, difference_base, difference_part, difference_vars, formula_of}
use Rattle.lls_encode.specs.Parts.{after_part, after_vars}
use Rattle.lls_encode.specs.Room.{HasRoom, with_more}
use Rattle.lls_encode.proofs.Steps.{length-flat_map_most, HasRoom-behind, with_clauses-append}
use Rattle.lls_encode.proofs.Bounds.{length-fixed_clauses, length-cubes_of, length-generation_clauses, length-symmetry_part, length-period_clauses}
use Rattle.lls_encode.proofs.Firsts.{length-name_clauses}
use Rattle.lls_encode.proofs.Differences.{generation_few}
use Rattle.lls_encode.proofs.Counters.{length-bounds_clauses}
use Rattle.lls_encode.proofs.Parted.{length-exact_part, few_exact_vars}

-- how many clauses each part has
length-fixed_part : (p : PosedProblem) → IsPosed p.posed → length (fixed_part p) ≤ 8192
length-fixed_part p kept =
    omega (arith, kept.most, length-flat_map_most (λ k. fixed_clauses k (cell_number p.posed.cells k).kind) 1 (λ k. length-fixed_clauses k _) 0 (length p.posed.cells))

length-name_part : (p : PosedProblem) → IsPosed p.posed → length (name_part p) ≤ 16384
length-name_part p kept = omega (arith, kept.most, length-flat_map_most (name_clauses p.posed.cells) 2 (length-name_clauses p.posed.cells) 0 (length p.posed.cells))

length-period : (p : PosedProblem) → IsPosed p.posed → AreFitting p.posed p.demands → (asked : Option Period) → p.demands.period ≡ asked → length (option_map_or (period_clauses p) asked []) ≤ 1032255
length-period p kept fitting None is = omega arith
length-period p kept fitting (Some period) is = length-period_clauses p kept period (fitting.period period is)

length-period_part : (p : PosedProblem) → IsPosed p.posed → AreFitting p.posed p.demands → length (period_part p) ≤ 1032255
length-period_part p kept fitting = length-period p kept fitting p.demands.period refl

pub length-front_part : (p : PosedProblem) → IsPosed p.posed → AreFitting p.posed p.demands → length (front_part p) ≤ 2105407
length-front_part p kept fitting =
    omega (
      arith,
      length-append (fixed_part p ++ name_part p ++ symmetry_part p) (period_part p),
      length-append (fixed_part p ++ name_part p) (symmetry_part p),
      length-append (fixed_part p) (name_part p),
      length-fixed_part p kept,
      length-name_part p kept,
      length-symmetry_part p kept,
      length-period_part p kept fitting,
    )

length-transition_part : (p : PosedProblem) (form : Form) → IsPosed p.posed → length (transition_part p form) ≤ 140507136
length-transition_part p form kept =
    omega (
      arith,
      kept.generations.1,
      length-flat_map_most (generation_clauses p form (cubes_of form p.rule)) 2230272
          (λ t. length-generation_clauses p form (cubes_of form p.rule) (length-cubes_of form p.rule) t kept.width.1 kept.height.1) 0 (p.posed.generations - 1),
    )

length-asked : (p : PosedProblem) → IsPosed p.posed → (base : ℕ) (asked : Option (ℕ × ℕ)) → length (option_map_or (differing_clauses p base) asked []) ≤ 8193
length-asked p kept base None = omega arith
length-asked p kept base (Some pair) =
    let cells = flat_map (cell_difference p base pair) (range_with_len 0 (generation_size p)) in
    let some : List Clause = map (difference_variable base) (range_with_len 0 (generation_size p)) ∷ [] in
    omega (arith, generation_few p kept, length-append cells some, length-flat_map_most (cell_difference p base pair) 2 (λ k. omega arith) 0 (generation_size p))

pub length-asked_part : (p : PosedProblem) → IsPosed p.posed → (base : ℕ) → length (asked_part p base) ≤ 8193
length-asked_part p kept base = length-asked p kept base p.demands.differ

pub length-listed_part : (p : PosedProblem) → AreFitting p.posed p.demands → length (listed_part p) ≤ 1000000
length-listed_part p fitting = omega (arith, length-map p.demands.listed (unlike p), fitting.listed.few)

length-difference_part : (p : PosedProblem) → IsPosed p.posed → AreFitting p.posed p.demands → (base : ℕ) → length (difference_part p base) ≤ 2056833
length-difference_part p kept fitting base =
    omega (
      arith,
      length-append (asked_part p base ++ exact_part p (base + asked_vars p)) (listed_part p),
      length-append (asked_part p base) (exact_part p (base + asked_vars p)),
      length-asked_part p kept base,
      length-exact_part p kept fitting (base + asked_vars p),
      length-listed_part p fitting,
    )

length-bounds_part : (p : PosedProblem) → IsPosed p.posed → AreFitting p.posed p.demands → (base : ℕ) → length (bounds_part p base) ≤ 6000000
length-bounds_part p kept fitting base = omega (arith, length-bounds_clauses p kept base p.demands.bounds, fitting.counters)

pub length-after_part : (p : PosedProblem) → IsPosed p.posed → AreFitting p.posed p.demands → (base : ℕ) → length (after_part p base) ≤ 8056833
length-after_part p kept fitting base =
    omega (
      arith,
      length-append (bounds_part p base) (difference_part p (base + bounds_vars p)),
      length-bounds_part p kept fitting base,
      length-difference_part p kept fitting (base + bounds_vars p),
    )

-- and the variables behind those of the cells
few_where : (p : PosedProblem) → IsPosed p.posed → (asked : Option (ℕ × ℕ)) → option_map_or (λ pair. generation_size p) asked 0 ≤ 4096
few_where p kept None = omega arith
few_where p kept (Some pair) = generation_few p kept

pub few_after_vars : (p : PosedProblem) → IsPosed p.posed → AreFitting p.posed p.demands → after_vars p ≤ 1528384
few_after_vars p kept fitting = omega (arith, fitting.counters, few_where p kept p.demands.differ, few_exact_vars p kept fitting)

-- all clauses together are few
pub few_clauses : (p : PosedProblem) (form : Form) → IsPosed p.posed → AreFitting p.posed p.demands → length (formula_of p form).clauses < 199000000
unfolding formula_of
few_clauses p form kept fitting =
    omega (
      arith,
      length-append (front_part p ++ transition_part p form ++ bounds_part p (length p.posed.cells)) (difference_part p (difference_base p)),
      length-append (front_part p ++ transition_part p form) (bounds_part p (length p.posed.cells)),
      length-append (front_part p) (transition_part p form),
      length-front_part p kept fitting,
      length-transition_part p form kept,
      length-bounds_part p kept fitting (length p.posed.cells),
      length-difference_part p kept fitting (difference_base p),
    )

-- the front from its four parts
pub made_front : (p : PosedProblem) (formula fixed names symmetric all : Cnf) → fixed ≡ with_clauses formula (fixed_part p) → names ≡ with_clauses fixed (name_part p)
    → symmetric ≡ with_clauses names (symmetry_part p) → all ≡ with_clauses symmetric (period_part p) → all ≡ with_clauses formula (front_part p)
made_front p formula fixed names symmetric all one two three four =
    four
    ∙ ap (λ f. with_clauses f (period_part p))
    (three ∙ ap (λ f. with_clauses f (symmetry_part p)) (two ∙ ap (λ f. with_clauses f (name_part p)) one ∙ with_clauses-append formula (fixed_part p) (name_part p))
    ∙ with_clauses-append formula (fixed_part p ++ name_part p) (symmetry_part p))
    ∙ with_clauses-append formula (fixed_part p ++ name_part p ++ symmetry_part p) (period_part p)

-- the room that is left for each of them
pub room_for_names : (p : PosedProblem) (formula fixed : Cnf) → IsPosed p.posed → HasRoom formula 2105407 → fixed ≡ with_clauses formula (fixed_part p) → HasRoom fixed 2097215
room_for_names p formula fixed kept has is = HasRoom-behind formula fixed (fixed_part p) 2105407 2097215 is (omega (arith, length-fixed_part p kept)) has

pub room_for_symmetry : (p : PosedProblem) (fixed names : Cnf) → IsPosed p.posed → HasRoom fixed 2097215 → names ≡ with_clauses fixed (name_part p) → HasRoom names 2080831
room_for_symmetry p fixed names kept has is = HasRoom-behind fixed names (name_part p) 2097215 2080831 is (omega (arith, length-name_part p kept)) has

pub room_for_period : (p : PosedProblem) (names symmetric : Cnf) → IsPosed p.posed → HasRoom names 2080831 → symmetric ≡ with_clauses names (symmetry_part p) → HasRoom symmetric 1032255
room_for_period p names symmetric kept has is = HasRoom-behind names symmetric (symmetry_part p) 2080831 1032255 is (omega (arith, length-symmetry_part p kept)) has

-- the formula from the front, the transitions, the bounds and the difference
abbrev pub empty_of : PosedProblem → Cnf
empty_of p = record { vars = length p.posed.cells; clauses = [] }

pub made : (p : PosedProblem) (form : Form) (empty front transitions bounded all : Cnf) → empty ≡ empty_of p → front ≡ with_clauses empty (front_part p) → transitions ≡ with_clauses front (transition_part p form)
    → bounded ≡ with_more transitions (bounds_vars p) (bounds_part p transitions.vars) → all ≡ with_more bounded (difference_vars p) (difference_part p bounded.vars) → all ≡ formula_of p form
unfolding formula_of
made p form empty front transitions bounded all none one two three four =
    four ∙ ap (λ (f : Cnf). with_more f (difference_vars p) (difference_part p f.vars))
    (three ∙ ap (λ (f : Cnf). with_more f (bounds_vars p) (bounds_part p f.vars))
    (two ∙ ap (λ f. with_clauses f (transition_part p form)) (one ∙ ap (λ f. with_clauses f (front_part p)) none)))

-- the room that is left for the transitions, for the bounds and for the difference
pub room_for_transitions : (p : PosedProblem) (empty front : Cnf) → IsPosed p.posed → AreFitting p.posed p.demands → empty ≡ empty_of p → front ≡ with_clauses empty (front_part p) → HasRoom front 900000000
room_for_transitions p empty front kept fitting is made =
    let none : length empty.clauses ≡ 0 = ap (λ (f : Cnf). length f.clauses) is in
    HasRoom-behind empty front (front_part p) 1000000000 900000000 made (omega (arith, length-front_part p kept fitting)) (omega (arith, none))

pub room_for_bounds : (p : PosedProblem) (form : Form) (front transitions : Cnf) → IsPosed p.posed → HasRoom front 900000000 → transitions ≡ with_clauses front (transition_part p form) → HasRoom transitions 700000000
room_for_bounds p form front transitions kept has is = HasRoom-behind front transitions (transition_part p form) 900000000 700000000 is (omega (arith, length-transition_part p form kept)) has

pub room_for_difference : (p : PosedProblem) (transitions bounded : Cnf) → IsPosed p.posed → AreFitting p.posed p.demands → HasRoom transitions 700000000
    → bounded ≡ with_more transitions (bounds_vars p) (bounds_part p transitions.vars) → HasRoom bounded 2081410
room_for_difference p transitions bounded kept fitting has is =
    let count : length bounded.clauses ≡ length transitions.clauses + length (bounds_part p transitions.vars) =
    ap (λ (f : Cnf). length f.clauses) is ∙ length-append transitions.clauses (bounds_part p transitions.vars) in
    omega (arith, count, has, length-bounds_part p kept fitting transitions.vars)

-- and so are the variables, those of the cells among them
pub few_vars : (p : PosedProblem) (form : Form) → IsPosed p.posed → AreFitting p.posed p.demands → (formula_of p form).vars ≤ 1536576
unfolding formula_of
few_vars p form kept fitting = omega (arith, kept.most, few_after_vars p kept fitting)

pub cells_among : (p : PosedProblem) (form : Form) → length p.posed.cells ≤ (formula_of p form).vars
unfolding formula_of
cells_among p form = omega arith
