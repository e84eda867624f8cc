-- The places outside the grid have the background.
use Rattle.std.proofs.Common.{◌≡◌, ◌<◌, ℕ, ℤ, Option, None, Some, refl, ap, arith}
use Rattle.std.specs.Prelude.{unwrap_or}
use Rattle.std.proofs.lemmas.Int.{ints}
use Rattle.lls_rule.specs.Rule.{background}
use Rattle.lls_grid.specs.Place.{inside}
use Rattle.lls_grid.specs.History.{History, at}
use Rattle.lls_grid.proofs.InOrder.{place_cell-above, place_cell-beside}
use Rattle.lls_grid.proofs.Folded.{some_row}
use Rattle.lls_symmetry.specs.Motion.{IsOnGrid}
use Rattle.lls_symmetry.specs.Moved.{HaveBackgrounds}
use Rattle.lls_problem.specs.Problem.{PosedProblem}
use Rattle.lls_problem.specs.Judgement.{HasItsSizes}

at_by_sides : (p : PosedProblem) (h : History) (t : ℕ) (y x : ℤ) → HasItsSizes p h → t < p.posed.generations
    → (IsOnGrid p.posed.height p.posed.width (record { y = y; x = x }) → ⊥) → (row column : Option ℕ) → inside y p.posed.height ≡ row → inside x p.posed.width ≡ column
    → at p.rule h t y x ≡ background p.rule t
at_by_sides p h t y x sizes t_in off None column at_row at_column =
    ap (λ cell. unwrap_or cell (background p.rule t)) (place_cell-above p.posed.generations p.posed.height p.posed.width h sizes t y x t_in at_row)
at_by_sides p h t y x sizes t_in off (Some row) None at_row at_column =
    ap (λ cell. unwrap_or cell (background p.rule t)) (place_cell-beside p.posed.generations p.posed.height p.posed.width h sizes t row y x t_in at_row at_column)
at_by_sides p h t y x sizes t_in off (Some row) (Some column) at_row at_column =
    let r = some_row y p.posed.height row at_row in
    let c = some_row x p.posed.width column at_column in
    let row_in = r.1 in
    let column_in = c.1 in
    let row_is = r.0 in
    let column_is = c.0 in
    absurd (off (record { top = omega (arith, ints); bottom = omega (arith, ints); left = omega (arith, ints); right = omega (arith, ints) }))

pub at_outside : (p : PosedProblem) (h : History) → HasItsSizes p h → HaveBackgrounds p.posed.generations p.posed.height p.posed.width (at p.rule h) (background p.rule)
at_outside p h sizes = λ t t_in place off. at_by_sides p h t place.y place.x sizes t_in off _ _ refl refl
