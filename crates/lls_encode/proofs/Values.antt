-- What an assignment says at places, where its first values are a history's cells.
use Rattle.std.proofs.Common.{◌≡◌, ◌<◌, ℕ, ◌+◌, ℤ, pos, ◌+ℤ◌, ◌-ℤ◌, Bool, false, List, [], ◌∷◌, map, length, refl, sym, ap, ◌∙◌, arith, Option, None, Some, get_or, add-one}
use Rattle.std.specs.Prelude.{unwrap_or}
use Rattle.lls_lit.specs.Formula.{is_true}
use Rattle.lls_rule.specs.Rule.{background}
use Rattle.lls_grid.specs.Place.{inside}
use Rattle.lls_grid.specs.History.{History, HasSizes, at, three, cells_of}
use Rattle.lls_grid.proofs.InOrder.{place_cell-in_order, place_cell-above, place_cell-beside}
use Rattle.lls_grid.proofs.Folded.{some_row}
use Rattle.lls_search_file.specs.Posed.{IsPosed}
use Rattle.lls_problem.proofs.Places.{index_of-lt}
use Rattle.lls_problem.specs.Problem.{PosedProblem}
use Rattle.lls_problem.specs.Solution.{place_of}
use Rattle.lls_transition.specs.Place.{value_of}
use Rattle.lls_encode.specs.Place.{place_at, place_in, inputs_at}

-- the value of a cell's variable
pub is_true-cell : (values : List Bool) (k : ℕ) → is_true values (pos (k + 1)) ≡ get_or values k false
is_true-cell values k = rw add-one refl

-- the first values are the history's cells in their order
pub record HasCells (p : PosedProblem) (values : List Bool) (h : History) : Type 0 where
  pub kept : IsPosed p.posed
  pub sizes : HasSizes p.posed.generations p.posed.height p.posed.width h
  pub cells : (k : ℕ) → k < length p.posed.cells → get_or values k false ≡ get_or (cells_of h) k false

-- a place's value is then the history's value there
value_in : (p : PosedProblem) (h : History) (values : List Bool) → HasCells p values h → (t : ℕ) (y x : ℤ) → t < p.posed.generations
    → (row column : Option ℕ) → inside y p.posed.height ≡ row → inside x p.posed.width ≡ column
    → value_of values (place_in p t row column) ≡ at p.rule h t y x
value_in p h values has t y x t_in (Some row) (Some column) at_row at_column =
    let row_in = some_row y p.posed.height row at_row in
    let column_in = some_row x p.posed.width column at_column in
    is_true-cell values (place_of p.posed t row column)
    ∙ has.cells (place_of p.posed t row column)
    (index_of-lt p.posed (record { t = t; y = row; x = column }) has.kept (record { generation = t_in; row = row_in.1; column = column_in.1 }))
    ∙ sym (ap (λ cell. unwrap_or cell (background p.rule t)) (place_cell-in_order p.posed.generations p.posed.height p.posed.width h has.sizes t row column y x t_in at_row at_column))
value_in p h values has t y x t_in (Some row) None at_row at_column =
    sym (ap (λ cell. unwrap_or cell (background p.rule t)) (place_cell-beside p.posed.generations p.posed.height p.posed.width h has.sizes t row y x t_in at_row at_column))
value_in p h values has t y x t_in None column at_row at_column =
    sym (ap (λ cell. unwrap_or cell (background p.rule t)) (place_cell-above p.posed.generations p.posed.height p.posed.width h has.sizes t y x t_in at_row))

pub value_of-place_at : (p : PosedProblem) (h : History) (values : List Bool) → HasCells p values h → (t : ℕ) (y x : ℤ) → t < p.posed.generations
    → value_of values (place_at p t y x) ≡ at p.rule h t y x
value_of-place_at p h values has t y x t_in = value_in p h values has t y x t_in _ _ refl refl

-- the values of a transition's inputs are the neighbourhood and the place in the next generation
pub values-inputs_at : (p : PosedProblem) (h : History) (values : List Bool) → HasCells p values h → (t : ℕ) (y x : ℤ) → t + 1 < p.posed.generations
    → map (value_of values) (inputs_at p t y x)
    ≡ three p.rule h t (y -ℤ pos 1) x (three p.rule h t y x (three p.rule h t (y +ℤ pos 1) x (at p.rule h (t + 1) y x ∷ [])))
values-inputs_at p h values has t y x next_in =
    let t_in : t < p.posed.generations = omega arith in
    let v : (yy xx : ℤ) → value_of values (place_at p t yy xx) ≡ at p.rule h t yy xx = λ yy xx. value_of-place_at p h values has t yy xx t_in in
    rw (
      v (y -ℤ pos 1) (x -ℤ pos 1),
      v (y -ℤ pos 1) x,
      v (y -ℤ pos 1) (x +ℤ pos 1),
      v y (x -ℤ pos 1),
      v y x,
      v y (x +ℤ pos 1),
      v (y +ℤ pos 1) (x -ℤ pos 1),
      v (y +ℤ pos 1) x,
      v (y +ℤ pos 1) (x +ℤ pos 1),
      value_of-place_at p h values has (t + 1) y x next_in,
    )
