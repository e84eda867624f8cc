-- The history of every assignment that satisfies the formula is a solution.
use Rattle.std.proofs.Common.{◌≡◌, ◌<◌, ◌≤◌, take, ℕ, ◌+◌, ◌-◌, ◌*◌, Bool, true, false, cond, List, [], ◌∷◌, ◌++◌, length, get_or, refl, sym, ap, ◌∙◌, arith}
use Rattle.std.specs.List.{flat_map}
use Rattle.std.proofs.lemmas.Bool.{and_parts, and_from, false_from_ne_true}
use Rattle.std.proofs.lemmas.List.{take_all, length-take-le, get_or-take}
use Rattle.std.proofs.lemmas.Grind.{flat_map-append}
use Rattle.lls_lit.specs.Formula.{Clause, satisfies, IsUnsatisfiable}
use Rattle.lls_grid.specs.Chunks.{chunked}
use Rattle.lls_grid.specs.History.{History, HasSizes, folded, cells_of, cells_of_rows}
use Rattle.lls_grid.proofs.Folded.{length-folded, height_of-folded, width_of-folded, HasSizes-folded}
use Rattle.lls_grid.proofs.Chunks.{folded-chunked, joined-chunked, length-chunked}
use Rattle.lls_search_file.specs.Posed.{IsPosed}
use Rattle.lls_problem.specs.declared.form.Form.{Form}
use Rattle.lls_problem.specs.Problem.{PosedProblem, AreFitting}
use Rattle.lls_problem.specs.Solution.{is_marked, Obeys, IsSolution, IsAbsent}
use Rattle.lls_cube.specs.declared.cube.Cube.{Cube}
use Rattle.lls_transition.specs.Transition.{ContainForbidden}
use Rattle.lls_encode.specs.Formula.{cubes_of, transitions_by, place_clauses, line_clauses, generation_clauses, fixed_part, name_part, symmetry_part, period_part, front_part, transition_part, bounds_part, bounds_vars, difference_base, difference_part, asked_part, asked_vars, exact_part, listed_part, formula_of}
use Rattle.lls_encode.specs.History.{history_of}
use Rattle.lls_encode.specs.Parts.{MeetsBefore, MeetsAfter, after_part}
use Rattle.lls_encode.proofs.Framed.{framed_row, framed_column}
use Rattle.lls_encode.proofs.Values.{HasCells}
use Rattle.lls_encode.proofs.Complete.{MeetsCells-same, AreBounds-fitting}
use Rattle.lls_encode.proofs.Parts.{satisfies-append, satisfied_in_range, satisfied_framed}
use Rattle.lls_encode.proofs.Obeyed.{cubes_contain, successor-by_clauses}
use Rattle.lls_encode.proofs.Agree.{MeetsCells-by_clauses}
use Rattle.lls_encode.proofs.Mirrored.{AreSymmetric-by_clauses}
use Rattle.lls_encode.proofs.Returned.{Returns-by_clauses}
use Rattle.lls_encode.proofs.Differing.{Differs-by_clauses}
use Rattle.lls_encode.proofs.Unlisted.{IsUnlisted-by_clauses}
use Rattle.lls_encode.proofs.Unseen.{IsExact-by_clauses}
use Rattle.lls_encode.proofs.AllBounds.{All-by_clauses}

-- the cells of a history that is folded from its cells
joined_twice : (history : History) → cells_of history ≡ flat_map (λ row. row) (flat_map (λ rows. rows) history)
joined_twice [] = refl
joined_twice (rows ∷ history) =
    ap (λ cells. cells_of_rows rows ++ cells) (joined_twice history) ∙ sym (flat_map-append (λ row. row) rows (flat_map (λ rows. rows) history))

cells_of-folded : (generations height width : ℕ) (cells : List Bool) → length cells ≡ width * (height * generations) → cells_of (folded generations height width cells) ≡ cells
cells_of-folded generations height width cells count =
    let rows = chunked width (height * generations) cells in
    joined_twice (folded generations height width cells)
    ∙ ap (λ h. flat_map (λ row. row) (flat_map (λ rows. rows) h)) (folded-chunked generations height width cells count)
    ∙ ap (flat_map (λ row. row)) (joined-chunked height generations rows ∙ take_all (height * generations) rows (omega (arith, length-chunked width (height * generations) cells)))
    ∙ joined-chunked width (height * generations) cells
    ∙ take_all (width * (height * generations)) cells (omega (arith, count))

pub cells_of-history_of : (p : PosedProblem) (values : List Bool) → IsPosed p.posed → length p.posed.cells ≤ length values
    → cells_of (history_of p values) ≡ take (length p.posed.cells) values
cells_of-history_of p values kept enough =
    let count : length (take (length p.posed.cells) values) ≡ p.posed.width * (p.posed.height * p.posed.generations) =
    length-take-le (length p.posed.cells) values enough ∙ kept.count in
    cells_of-folded p.posed.generations p.posed.height p.posed.width (take (length p.posed.cells) values) count

pub HasSizes-history_of : (p : PosedProblem) (values : List Bool) → IsPosed p.posed → HasSizes p.posed.generations p.posed.height p.posed.width (history_of p values)
HasSizes-history_of p values kept =
    let some : 0 < p.posed.generations = omega (arith, kept.generations.0) in
    let rows : 0 < p.posed.height = omega (arith, kept.height.0) in
    let cells = take (length p.posed.cells) values in
    let sizes = HasSizes-folded p.posed.generations p.posed.height p.posed.width cells some rows in (
      length-folded p.posed.generations p.posed.height p.posed.width cells,
      rw (height_of-folded p.posed.generations p.posed.height p.posed.width cells some, width_of-folded p.posed.generations p.posed.height p.posed.width cells some rows) at sizes.1,
    )

-- the first values are the history's cells
pub HasCells-history_of : (p : PosedProblem) (values : List Bool) → IsPosed p.posed → length p.posed.cells ≤ length values → HasCells p values (history_of p values)
HasCells-history_of p values kept enough = record {
  kept = kept;
  sizes = HasSizes-history_of p values kept;
  cells = λ k k_in. sym (ap (λ cells. get_or cells k false) (cells_of-history_of p values kept enough) ∙ get_or-take (length p.posed.cells) values k false k_in);
}

-- the clauses of a place that no mark frees
unmarked : (values : List Bool) (mark : Bool) (clauses : List Clause) → mark ≡ false → satisfies values (cond mark [] clauses) ≡ true → satisfies values clauses ≡ true
unmarked values true clauses free satisfied = cc
unmarked values false clauses free satisfied = satisfied

Obeys-by_clauses : (p : PosedProblem) (form : Form) (cubes : List Cube) → ContainForbidden p.rule cubes → (h : History) (values : List Bool) → HasCells p values h
    → satisfies values (transitions_by p form cubes) ≡ true → Obeys p h
Obeys-by_clauses p form cubes just h values has satisfied = λ t y x next_in framed free.
    let edge = p.demands.edge in
    let generation = satisfied_in_range values (generation_clauses p form cubes) 0 (p.posed.generations - 1) t satisfied (omega arith) (omega arith) in
    let line = satisfied_framed values (line_clauses p form cubes t) edge p.posed.height y generation (framed_row edge p.posed.height p.posed.width y x framed) in
    let place = satisfied_framed values (place_clauses p form cubes t y) edge p.posed.width x line (framed_column edge p.posed.height p.posed.width y x framed) in
    successor-by_clauses p form cubes just h values has t y x next_in (unmarked values (is_marked p.posed (t + 1) y x) _ free place)

-- what the clauses before the transitions say of the history that values write
pub MeetsBefore-by_clauses : (p : PosedProblem) (values : List Bool) → IsPosed p.posed → AreFitting p.posed p.demands → length p.posed.cells ≤ length values → satisfies values (front_part p) ≡ true
    → MeetsBefore p (history_of p values)
MeetsBefore-by_clauses p values kept fitting enough satisfied =
    let h : History = history_of p values in
    let has : HasCells p values h = HasCells-history_of p values kept enough in
    let front = and_parts _ _ (sym (satisfies-append values (fixed_part p ++ name_part p ++ symmetry_part p) (period_part p)) ∙ satisfied) in
    let still = and_parts _ _ (sym (satisfies-append values (fixed_part p ++ name_part p) (symmetry_part p)) ∙ front.0) in
    let cells = and_parts _ _ (sym (satisfies-append values (fixed_part p) (name_part p)) ∙ still.0) in
    record {
      cells = MeetsCells-same p.posed.cells values (cells_of h) has.cells (MeetsCells-by_clauses values p.posed.cells cells.0 cells.1);
      symmetric = AreSymmetric-by_clauses p h values has fitting still.1;
      moved = Returns-by_clauses p h values has front.1;
    }

-- and those behind them
pub MeetsAfter-by_clauses : (p : PosedProblem) (values : List Bool) (base : ℕ) → IsPosed p.posed → AreFitting p.posed p.demands → length p.posed.cells ≤ length values → length p.posed.cells ≤ base
    → satisfies values (after_part p base) ≡ true → MeetsAfter p (history_of p values)
MeetsAfter-by_clauses p values base kept fitting enough behind satisfied =
    let h : History = history_of p values in
    let has : HasCells p values h = HasCells-history_of p values kept enough in
    let parts = and_parts _ _ (sym (satisfies-append values (bounds_part p base) (difference_part p (base + bounds_vars p))) ∙ satisfied) in
    let asked = asked_part p (base + bounds_vars p) in
    let exact = exact_part p (base + bounds_vars p + asked_vars p) in
    let behind_them = and_parts _ _ (sym (satisfies-append values (asked ++ exact) (listed_part p)) ∙ parts.1) in
    let apart = and_parts _ _ (sym (satisfies-append values asked exact) ∙ behind_them.0) in
    record {
      populated = All-by_clauses p h values has base behind p.demands.bounds (AreBounds-fitting p fitting) parts.0;
      differ = Differs-by_clauses p h values has fitting (base + bounds_vars p) apart.0;
      exact = IsExact-by_clauses p h values has fitting (base + bounds_vars p + asked_vars p) apart.1;
      unlisted = IsUnlisted-by_clauses p h values has behind_them.1;
    }

-- each part of the formula is satisfied
record SatisfiesParts (p : PosedProblem) (form : Form) (values : List Bool) : Type 0 where
  front : satisfies values (front_part p) ≡ true
  transitions : satisfies values (transition_part p form) ≡ true
  after : satisfies values (after_part p (length p.posed.cells)) ≡ true

parts_of : (p : PosedProblem) (form : Form) (values : List Bool) → satisfies values (formula_of p form).clauses ≡ true → SatisfiesParts p form values
unfolding formula_of
parts_of p form values satisfied =
    let bounds = bounds_part p (length p.posed.cells) in
    let difference = difference_part p (difference_base p) in
    let all = and_parts _ _ (sym (satisfies-append values (front_part p ++ transition_part p form ++ bounds) difference) ∙ satisfied) in
    let most = and_parts _ _ (sym (satisfies-append values (front_part p ++ transition_part p form) bounds) ∙ all.0) in
    let body = and_parts _ _ (sym (satisfies-append values (front_part p) (transition_part p form)) ∙ most.0) in
    record { front = body.0; transitions = body.1; after = satisfies-append values bounds difference ∙ and_from _ _ most.1 all.1 }

-- a value for each variable is one for each cell at least
enough_values : (p : PosedProblem) (form : Form) (values : List Bool) → length values ≡ (formula_of p form).vars → length p.posed.cells ≤ length values
unfolding formula_of
enough_values p form values len = omega (arith, len)

-- the theorem
pub IsSolution-history_of : (p : PosedProblem) (form : Form) → IsPosed p.posed → AreFitting p.posed p.demands → (values : List Bool) → length p.posed.cells ≤ length values
    → satisfies values (formula_of p form).clauses ≡ true → IsSolution p (history_of p values)
IsSolution-history_of p form kept fitting values enough satisfied =
    let parts = parts_of p form values satisfied in
    let h : History = history_of p values in
    let has : HasCells p values h = HasCells-history_of p values kept enough in
    let before = MeetsBefore-by_clauses p values kept fitting enough parts.front in
    let after = MeetsAfter-by_clauses p values (length p.posed.cells) kept fitting enough (omega arith) parts.after in
    record {
      sizes = has.sizes;
      cells = before.cells;
      symmetric = before.symmetric;
      moved = before.moved;
      rule = Obeys-by_clauses p form (cubes_of form p.rule) (cubes_contain form p.rule) h values has parts.transitions;
      populated = after.populated;
      differ = after.differ;
      exact = after.exact;
      unlisted = after.unlisted;
    }

-- so where there is no solution nothing satisfies the formula
pub unsatisfiable_from : (p : PosedProblem) (form : Form) → IsPosed p.posed → AreFitting p.posed p.demands → IsAbsent p → IsUnsatisfiable (formula_of p form)
unsatisfiable_from p form kept fitting absent values len =
    false_from_ne_true (satisfies values (formula_of p form).clauses) (λ satisfied. absent (history_of p values) (IsSolution-history_of p form kept fitting values (enough_values p form values len) satisfied))
