-- The clauses of a period say that each generation is there again.
use Rattle.std.proofs.Common.{◌≡◌, ◌<◌, ℕ, ◌+◌, ◌-◌, ℤ, ◌+ℤ◌, Bool, true, false, cond, List, [], ◌∷◌, refl, sym, ap, ◌∙◌, arith, Option, None, Some}
use Rattle.std.specs.List.{AllByRecursion as Each, flat_map}
use Rattle.std.specs.Option.{option_map_or}
use Rattle.std.proofs.lemmas.Bool.{and_parts, and_from}
use Rattle.lls_lit.specs.Formula.{satisfies}
use Rattle.lls_rule.specs.Rule.{background}
use Rattle.lls_grid.specs.History.{History, at}
use Rattle.lls_symmetry.specs.declared.moved.Moved.{Moved}
use Rattle.lls_symmetry.specs.Moved.{generation_moved, IsMoved, IsMovedPair}
use Rattle.lls_symmetry.proofs.Shifted.{IsMoved-by_generations, back_by_moved, pairs_moved}
use Rattle.lls_problem.specs.declared.demands.Period.{Period}
use Rattle.lls_problem.specs.Problem.{PosedProblem, AreFitting}
use Rattle.lls_problem.specs.Solution.{Returns}
use Rattle.lls_problem.specs.Unlike.{differ}
use Rattle.lls_problem.specs.Losses.{course_of}
use Rattle.lls_problem.proofs.Outside.{at_outside}
use Rattle.lls_problem.proofs.Symmetric.{same_by_differ, differ-same}
use Rattle.lls_transition.specs.Place.{value_of}
use Rattle.lls_encode.specs.Place.{place_at}
use Rattle.lls_encode.specs.Formula.{moved_clauses, background_clauses, return_clauses, period_clauses, period_part}
use Rattle.lls_encode.proofs.Satisfied.{satisfies-range}
use Rattle.lls_encode.proofs.Parts.{satisfies-append, satisfied_in_range}
use Rattle.lls_encode.proofs.Values.{HasCells, value_of-place_at}
use Rattle.lls_encode.proofs.Alike.{equal_at, satisfies-same_at}
use Rattle.lls_encode.proofs.Each.{Each-satisfied, satisfies-each}

-- what an assignment says at a place, of any generation
abbrev pub said : PosedProblem → List Bool → ℕ → ℤ → ℤ → Bool
said p values t y x = value_of values (place_at p t y x)

pair_equal : (p : PosedProblem) (values : List Bool) (pair : Moved) → satisfies values (moved_clauses p pair) ≡ true → IsMovedPair (said p values) pair
pair_equal p values pair satisfied =
    equal_at p values pair.early.t pair.early.y pair.early.x pair.late.t pair.late.y pair.late.x satisfied

satisfies-pair : (p : PosedProblem) (values : List Bool) (pair : Moved) → IsMovedPair (said p values) pair → satisfies values (moved_clauses p pair) ≡ true
satisfies-pair p values pair equal =
    satisfies-same_at p values pair.early.t pair.early.y pair.early.x pair.late.t pair.late.y pair.late.x equal

-- the clause without literals is never satisfied
no_clause : (values : List Bool) (b : Bool) → satisfies values (cond b ([] ∷ []) []) ≡ true → b ≡ false
no_clause values true satisfied = cc
no_clause values false satisfied = refl

no_difference : (values : List Bool) (b : Bool) → b ≡ false → satisfies values (cond b ([] ∷ []) []) ≡ true
no_difference values true same = cc
no_difference values false same = refl

-- what the clauses of generation t say
record IsBack (p : PosedProblem) (values : List Bool) (period : Period) (t : ℕ) : Type 0 where
  background : background p.rule t ≡ background p.rule (t + period.length)
  places : Each (IsMovedPair (said p values)) (generation_moved p.posed.height p.posed.width (course_of period t))

IsBack-by_clauses : (p : PosedProblem) (values : List Bool) (period : Period) (t : ℕ) → satisfies values (return_clauses p period t) ≡ true → IsBack p values period t
IsBack-by_clauses p values period t satisfied =
    let moved = generation_moved p.posed.height p.posed.width (course_of period t) in
    let parts = and_parts _ _ (sym (satisfies-append values (background_clauses p period t) (flat_map (moved_clauses p) moved)) ∙ satisfied) in
    record {
      background = same_by_differ _ _ (no_clause values (differ (background p.rule t) (background p.rule (t + period.length))) parts.0);
      places = Each-satisfied values (moved_clauses p) (IsMovedPair (said p values)) (pair_equal p values) moved parts.1;
    }

satisfies-return_clauses : (p : PosedProblem) (values : List Bool) (period : Period) (t : ℕ) → IsBack p values period t → satisfies values (return_clauses p period t) ≡ true
satisfies-return_clauses p values period t back =
    let moved = generation_moved p.posed.height p.posed.width (course_of period t) in
    satisfies-append values (background_clauses p period t) (flat_map (moved_clauses p) moved)
    ∙ and_from _ _ (no_difference values (differ (background p.rule t) (background p.rule (t + period.length))) (differ-same _ _ back.background))
    (satisfies-each values (moved_clauses p) (IsMovedPair (said p values)) (satisfies-pair p values) moved back.places)

-- of the period that is asked
IsMoved-by_clauses : (p : PosedProblem) (h : History) (values : List Bool) → HasCells p values h → (period : Period) → satisfies values (period_clauses p period) ≡ true
    → IsMoved p.posed.generations period.length period.dx period.dy (at p.rule h)
IsMoved-by_clauses p h values has period satisfied =
    let back : (t : ℕ) → t + period.length < p.posed.generations → IsBack p values period t = λ t later.
    IsBack-by_clauses p values period t (satisfied_in_range values (return_clauses p period) 0 (p.posed.generations - period.length) t satisfied (omega arith) (omega arith)) in
    let moved = IsMoved-by_generations p.posed.generations p.posed.height p.posed.width period.length period.dx period.dy (said p values) (background p.rule)
    (λ t t_in place off. value_of-place_at p h values has t place.y place.x t_in ∙ at_outside p h has.sizes t t_in place off)
    (λ t later. (back t later).background) (λ t later. (back t later).places) in
    λ t y x later.
    sym (value_of-place_at p h values has (t + period.length) (y +ℤ period.dy) (x +ℤ period.dx) later) ∙ moved t y x later
    ∙ value_of-place_at p h values has t y x (omega arith)

satisfies-period_clauses : (p : PosedProblem) (h : History) (values : List Bool) → HasCells p values h → AreFitting p.posed p.demands → (period : Period) → p.demands.period ≡ Some period
    → IsMoved p.posed.generations period.length period.dx period.dy (at p.rule h) → satisfies values (period_clauses p period) ≡ true
satisfies-period_clauses p h values has fitting period asked moved =
    let moved' : IsMoved p.posed.generations period.length period.dx period.dy (said p values) = λ t y x later.
    value_of-place_at p h values has (t + period.length) (y +ℤ period.dy) (x +ℤ period.dx) later ∙ moved t y x later
    ∙ sym (value_of-place_at p h values has t y x (omega arith)) in
    satisfies-range values (return_clauses p period) 0 (p.posed.generations - period.length) (λ t low high.
    let later : t + period.length < p.posed.generations = omega arith in
    satisfies-return_clauses p values period t (record {
      background = back_by_moved p.posed.generations p.posed.height p.posed.width period.length period.dx period.dy (at p.rule h) (background p.rule)
          (fitting.period period asked).rows (at_outside p h has.sizes) moved t later;
      places = pairs_moved p.posed.generations p.posed.height p.posed.width period.length t period.dx period.dy (said p values) moved' later;
    }))

pub Returns-by_clauses : (p : PosedProblem) (h : History) (values : List Bool) → HasCells p values h → satisfies values (period_part p) ≡ true → Returns p h
Returns-by_clauses p h values has satisfied = λ period asked.
    IsMoved-by_clauses p h values has period (ap (λ o. satisfies values (option_map_or (period_clauses p) o [])) (sym asked) ∙ satisfied)

where_asked : (p : PosedProblem) (h : History) (values : List Bool) → HasCells p values h → AreFitting p.posed p.demands → Returns p h
    → (asked : Option Period) → p.demands.period ≡ asked → satisfies values (option_map_or (period_clauses p) asked []) ≡ true
where_asked p h values has fitting returns None is = refl
where_asked p h values has fitting returns (Some period) is = satisfies-period_clauses p h values has fitting period is (returns period is)

pub satisfies-period_part : (p : PosedProblem) (h : History) (values : List Bool) → HasCells p values h → AreFitting p.posed p.demands → Returns p h
    → satisfies values (period_part p) ≡ true
satisfies-period_part p h values has fitting returns = where_asked p h values has fitting returns p.demands.period refl
