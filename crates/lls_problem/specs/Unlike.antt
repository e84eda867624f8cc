-- The cells of a history that differ from their images, in the order of judging.
use Rattle.std.specs.Prelude.{ℕ, pos, Bool, true, false, not, List, [], ◌∷◌, length, if◌then◌else◌}
use Rattle.std.specs.List.{flat_map, range_with_len}
use Rattle.lls_grid.specs.declared.sizes.GridPlace.{GridPlace}
use Rattle.lls_grid.specs.History.{History, at}
use Rattle.lls_symmetry.specs.Motion.{image_of, cell_place}
use Rattle.lls_symmetry.specs.Symmetry.{generators_of, generator_at}
use Rattle.lls_problem.specs.Problem.{PosedProblem}

-- whether two values differ
abbrev pub differ : Bool → Bool → Bool
differ true b = not b
differ false b = b

-- whether a cell differs from its image under the kth generator
abbrev pub is_unlike : PosedProblem → History → ℕ → ℕ → ℕ → ℕ → Bool
is_unlike p h k t y x =
    let to = image_of (generator_at p.demands.symmetry k) p.posed.height p.posed.width (cell_place y x) in
    differ (at p.rule h t to.y to.x) (at p.rule h t (pos y) (pos x))

abbrev pub unlike_at : PosedProblem → History → ℕ → ℕ → ℕ → ℕ → List GridPlace
unlike_at p h k t y x = if is_unlike p h k t y x then record { t = t; y = y; x = x } ∷ [] else []

-- generators come first, then generations, rows and columns
abbrev pub unlike_in_row : PosedProblem → History → ℕ → ℕ → ℕ → List GridPlace
unlike_in_row p h k t y = flat_map (unlike_at p h k t y) (range_with_len 0 p.posed.width)

abbrev pub unlike_in_generation : PosedProblem → History → ℕ → ℕ → List GridPlace
unlike_in_generation p h k t = flat_map (unlike_in_row p h k t) (range_with_len 0 p.posed.height)

abbrev pub unlike_under : PosedProblem → History → ℕ → List GridPlace
unlike_under p h k = flat_map (unlike_in_generation p h k) (range_with_len 0 p.posed.generations)

abbrev pub unlike_cells : PosedProblem → History → List GridPlace
unlike_cells p h = flat_map (unlike_under p h) (range_with_len 0 (length (generators_of p.demands.symmetry)))
