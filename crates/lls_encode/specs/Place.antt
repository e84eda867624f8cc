-- What stands at a place, a cell's variable or a known value, and the places that a transition reads.
use Rattle.std.specs.Prelude.{ℕ, ◌+◌, ℤ, pos, ◌+ℤ◌, ◌-ℤ◌, List, [], ◌∷◌, Option, None, Some}
use Rattle.lls_rule.specs.Rule.{background}
use Rattle.lls_grid.specs.Place.{inside}
use Rattle.lls_problem.specs.Problem.{PosedProblem}
use Rattle.lls_problem.specs.Solution.{place_of}
use Rattle.lls_transition.specs.declared.place.Place.{Place}
use Rattle.lls_transition.specs.declared.place.Place.TheVariants.{Known, Of}

-- A cell inside the grid has a variable, in the order generation, row, column, from 1 on. A place outside has the background.
abbrev pub place_in : PosedProblem → ℕ → Option ℕ → Option ℕ → Place
place_in p t (Some row) (Some column) = Of (pos (place_of p.posed t row column + 1))
place_in p t (Some row) None = Known (background p.rule t)
place_in p t None column = Known (background p.rule t)

abbrev pub place_at : PosedProblem → ℕ → ℤ → ℤ → Place
place_at p t y x = place_in p t (inside y p.posed.height) (inside x p.posed.width)

-- three places in a row
abbrev pub three_places : PosedProblem → ℕ → ℤ → ℤ → List Place → List Place
three_places p t y x rest = place_at p t y (x -ℤ pos 1) ∷ place_at p t y x ∷ place_at p t y (x +ℤ pos 1) ∷ rest

-- the ten inputs of a transition: the neighbourhood in generation t, and the place in the next
abbrev pub inputs_at : PosedProblem → ℕ → ℤ → ℤ → List Place
inputs_at p t y x =
    three_places p t (y -ℤ pos 1) x (three_places p t y x (three_places p t (y +ℤ pos 1) x (place_at p (t + 1) y x ∷ [])))
