-- Places of the grid, and where their cells stand in the order generation, row, column.
use Rattle.std.proofs.Common.{◌≡◌, ◌<◌, ◌≤◌, ℕ, ◌+◌, ◌*◌, pos, List, length, ap, subst, arith, inl, inr, Bool, false, get_or, unwrap_or}
use Rattle.std.proofs.lemmas.Int.{ints}
use Rattle.std.proofs.Math.Nat.{mul-le-mul_left}
use Rattle.lls_rule.specs.Rule.{background}
use Rattle.lls_grid.specs.declared.sizes.Sizes.{Sizes}
use Rattle.lls_grid.specs.declared.sizes.GridPlace.{GridPlace}
use Rattle.lls_grid.specs.Sizes.{IsInside, index_of}
use Rattle.lls_grid.specs.History.{History, HasSizes, at, cells_of}
use Rattle.lls_grid.proofs.InOrder.{cell_at-in_order}
use Rattle.lls_search_file.specs.Posed.{PosedFile, IsPosed, sizes_of}
use Rattle.lls_problem.specs.Firsts.{of_cell, IsBefore}
use Rattle.lls_problem.specs.Judgement.{IsFirstCell}

-- a column of an earlier row stands before each column of a later one
earlier_row : (width a b x : ℕ) → a < b → x < width → x + width * a < width * b
earlier_row width a b x rows column =
    let last : width * (a + 1) ≤ width * b = mul-le-mul_left width (omega arith) in
    omega (arith, last)

-- places stand in the order of their cells
index_of-increases : (s : Sizes) (a b : GridPlace) → IsInside s a → IsBefore (of_cell a) (of_cell b) → index_of s a < index_of s b
index_of-increases s a b inside (inl generations) =
    let rows : a.y + s.height * a.t < s.height * b.t = earlier_row s.height a.t b.t a.y generations inside.row in
    let cells = earlier_row s.width (a.y + s.height * a.t) (b.y + s.height * b.t) a.x (omega arith) inside.column in
    omega (arith, cells)
index_of-increases s a b inside (inr (same, inl rows)) =
    let less : a.y < b.y = omega (arith, ints) in
    let there : a.y + s.height * a.t < b.y + s.height * b.t = rw same (omega arith) in
    let cells = earlier_row s.width (a.y + s.height * a.t) (b.y + s.height * b.t) a.x there inside.column in
    omega (arith, cells)
index_of-increases s a b inside (inr (same, inr (row, columns))) =
    let less : a.x < b.x = omega (arith, ints) in
    let one : a.y ≡ b.y = cc in
    rw (same, one) (omega arith)

-- a place of the grid has a cell
pub index_of-lt : (file : PosedFile) (place : GridPlace) → IsPosed file → IsInside (sizes_of file) place → index_of (sizes_of file) place < length file.cells
index_of-lt file place posed inside =
    let rows : place.y + file.height * place.t < file.height * file.generations = earlier_row file.height place.t file.generations place.y inside.generation inside.row in
    omega (arith, posed.count, earlier_row file.width (place.y + file.height * place.t) (file.height * file.generations) place.x rows inside.column)

-- the value of a place of the grid is that of its cell
pub at-in_grid : (file : PosedFile) (rule : List Bool) (history : History) (place : GridPlace) → HasSizes file.generations file.height file.width history → IsInside (sizes_of file) place
    → at rule history place.t (pos place.y) (pos place.x) ≡ get_or (cells_of history) (index_of (sizes_of file) place) false
at-in_grid file rule history place sizes inside =
    ap (λ cell. unwrap_or cell (background rule place.t)) (cell_at-in_order _ _ _ history sizes place.t place.y place.x inside.generation inside.row inside.column)

-- the first cell by its number is the first by its place
pub IsFirstCell-by_number : (file : PosedFile) (Keeps : ℕ → Type 0) (k : ℕ) (place : GridPlace) → index_of (sizes_of file) place ≡ k → IsInside (sizes_of file) place
    → (Keeps k → ⊥) → ((j : ℕ) → j < k → Keeps j) → IsFirstCell file Keeps place
IsFirstCell-by_number file Keeps k place number inside broken before = record {
  inside = inside;
  broken = λ keeps. broken (subst Keeps number keeps);
  before = λ other within earlier. before (index_of (sizes_of file) other) (let less = index_of-increases (sizes_of file) other place within earlier in omega (arith, less, number));
}
