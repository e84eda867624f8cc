-- A generation and what the rule makes of it are a solution under an open edge.
use Rattle.std.proofs.Common.{◌≡◌, ◌<◌, ℕ, zero, suc, ◌+◌, ◌*◌, ℤ, pos, negsuc, Bool, false, List, [], ◌∷◌, ◌++◌, length, map, get_or, slice_get, take, drop, sym, ap, subst, ◌∙◌, arith, Some, Ok, take_all, append-nil}
use Rattle.std.proofs.lemmas.List.{length-map}
use Rattle.std.proofs.lemmas.List.FromFn.{length-map-range_with_len, get_or-map-range_with_len}
use Rattle.std.proofs.lemmas.Option.{slice_get-get_or}
use Rattle.std.proofs.lemmas.Int.{ints}
use Rattle.std.specs.Option.{unwrap_or}
use Rattle.lls_rule.specs.Rule.{successor, background}
use Rattle.lls_grid.specs.History.{History, HasSizes, at, nine, cells_of, cells_of_rows, rows_at, folded, height_of, width_of}
use Rattle.lls_grid.specs.Changes.{successor_row, successors}
use Rattle.lls_grid.proofs.Chunks.{cells_of_rows-folded}
use Rattle.lls_search_file.specs.Posed.{PosedFile}
use Rattle.lls_problem.specs.declared.demands.Demands.{Demands}
use Rattle.lls_problem.specs.declared.demands.Edge.TheVariants.{Bare}
use Rattle.lls_problem.specs.Problem.{PosedProblem, edge_alone, problem_made}
use Rattle.lls_problem.specs.Solution.{IsSolution, IsFramed, MeetsCells}
use Rattle.lls_gen.specs.Drawing.{is_live, cells_of_both}
use Rattle.lls_gen.specs.Made.{posed_of}
use Rattle.lls_gen.proofs.Cells.{MeetsCells-drawn}

-- the cells of two generations
cells_of-two : (history : History) → length history ≡ 2 → cells_of history ≡ cells_of_rows (rows_at history 0) ++ cells_of_rows (rows_at history 1)
cells_of-two [] two = absurd (omega (arith, two))
cells_of-two (first ∷ []) two = absurd (omega (arith, two))
cells_of-two (first ∷ second ∷ []) two = ap (λ cells. cells_of_rows first ++ cells) (append-nil (cells_of_rows second))
cells_of-two (first ∷ second ∷ third ∷ history) two = absurd (omega (arith, two))

-- the cells of one generation
cells_of_rows-one : (size : ℕ) (cells : List Bool) → length cells ≡ size * size → cells_of_rows (rows_at (folded 1 size size cells) 0) ≡ cells
cells_of_rows-one size cells count =
    let start : size * (size * 0) ≡ 0 = omega arith in
    cells_of_rows-folded 1 size size 0 cells (omega (arith, count)) (omega arith)
    ∙ (ap (λ n. take (size * size) (drop n cells)) start ∙ take_all (size * size) cells (omega (arith, count)))

-- a cell of a generation that follows
at-successors : (table : List Bool) (history : History) (y x : ℕ) → rows_at history 1 ≡ successors table history 0 → y < height_of history → x < width_of history
    → at table history 1 (pos y) (pos x) ≡ successor table (nine table history 0 (pos y) (pos x))
at-successors table history y x goes_on y_in x_in =
    let row : get_or (rows_at history 1) y [] ≡ successor_row table history 0 y =
    ap (λ rows. get_or rows y []) goes_on ∙ get_or-map-range_with_len (successor_row table history 0) 0 (height_of history) y y [] y_in (omega arith) in
    let cell : slice_get (successor_row table history 0 y) x ≡ Some (successor table (nine table history 0 (pos y) (pos x))) =
    slice_get-get_or (successor_row table history 0 y) x false (rw length-map-range_with_len x_in)
    ∙ ap Some (get_or-map-range_with_len _ 0 (width_of history) x x false x_in (omega arith)) in
    ap (λ cells. unwrap_or (slice_get cells x) (background table 1)) row ∙ ap (λ found. unwrap_or found (background table 1)) cell

obeys : (table : List Bool) (history : History) (size : ℕ) → height_of history ≡ size → width_of history ≡ size → rows_at history 1 ≡ successors table history 0
    → (t : ℕ) (y x : ℤ) → t + 1 < 2 → IsFramed Bare size size y x → at table history (t + 1) y x ≡ successor table (nine table history t y x)
obeys table history size high wide goes_on zero (pos y) (pos x) within framed =
    at-successors table history y x goes_on (omega (arith, ints, high, framed.1)) (omega (arith, ints, wide, framed.3))
obeys table history size high wide goes_on zero (pos y) (negsuc x) within framed = absurd (omega (arith, ints, framed.2))
obeys table history size high wide goes_on zero (negsuc y) x within framed = absurd (omega (arith, ints, framed.0))
obeys table history size high wide goes_on (suc t) y x within framed = absurd (omega (arith, within))

pub IsSolution-made : (table : List Bool) (size : ℕ) (numbers : List ℕ) (history : History) → length numbers ≡ size * size → HasSizes 2 size size history
    → height_of history ≡ size → width_of history ≡ size
    → rows_at history 0 ≡ rows_at (folded 1 size size (map is_live numbers)) 0 → rows_at history 1 ≡ successors table history 0
    → IsSolution (record { posed = posed_of size (cells_of_both numbers (cells_of_rows (rows_at history 1))); rule = table; demands = edge_alone Bare }) history
IsSolution-made table size numbers history count sizes high wide begins goes_on =
    let values : cells_of history ≡ map is_live numbers ++ cells_of_rows (rows_at history 1) =
    cells_of-two history sizes.0 ∙ ap (λ cells. cells ++ cells_of_rows (rows_at history 1)) (ap cells_of_rows begins ∙ cells_of_rows-one size (map is_live numbers) (length-map numbers is_live ∙ count)) in
    record {
      sizes = sizes;
      cells = subst (MeetsCells (cells_of_both numbers (cells_of_rows (rows_at history 1)))) (sym values) (MeetsCells-drawn numbers (cells_of_rows (rows_at history 1)));
      symmetric = λ t within k place none. absurd (omega (arith, none));
      moved = λ period none. cc;
      rule = λ t y x within framed unmarked. obeys table history size high wide goes_on t y x within framed;
      populated = λ k bound none. absurd (omega (arith, none));
      differ = λ pair none. cc;
      exact = λ on period none. cc;
      unlisted = λ k pattern none. absurd (omega (arith, none));
    }

-- nothing of an open edge alone can fail to fit a file
pub problem-bare : (posed : PosedFile) (rule : List Bool) (demands : Demands) (problem : PosedProblem) → demands ≡ edge_alone Bare → Ok problem ≡ problem_made posed rule demands
    → problem ≡ record { posed = posed; rule = rule; demands = edge_alone Bare }
problem-bare posed rule demands problem bare is =
    let made : Ok problem ≡ problem_made posed rule (edge_alone Bare) = is ∙ ap (problem_made posed rule) bare in
    cc
