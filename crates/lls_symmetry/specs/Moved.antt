-- A move by a shift from each generation to the one a period later, and the pairs of places that it makes equal.
use Rattle.std.specs.Prelude.{◌≡◌, ◌<◌, ◌≤◌, ℕ, ◌+◌, ◌-◌, ℤ, pos, ◌+ℤ◌, ◌-ℤ◌, Bool, ◌&&◌, is_some, List, [], ◌∷◌, ◌++◌, map, All, if◌then◌else◌}
use Rattle.std.specs.List.{flat_map, range_with_len}
use Rattle.lls_grid.specs.declared.history.TheConstants.History.{MOST_GENERATIONS}
use Rattle.lls_grid.specs.Place.{inside, IsWithin}
use Rattle.lls_symmetry.specs.declared.moved.TheConstants.{MOST_SHIFT, MOST_PERIOD}
use Rattle.lls_symmetry.specs.declared.moved.Course.{Course}
use Rattle.lls_symmetry.specs.declared.moved.Spot.{Spot}
use Rattle.lls_symmetry.specs.declared.moved.Moved.{Moved}
use Rattle.lls_symmetry.specs.Pairs.{HasBackground}

-- within the limits
pub record IsCourse (course : Course) : Type 0 where
  pub start : course.t < MOST_GENERATIONS
  pub period : course.period ≤ MOST_PERIOD
  pub columns : IsWithin MOST_SHIFT course.dx
  pub rows : IsWithin MOST_SHIFT course.dy

abbrev pub spot : ℕ → ℤ → ℤ → Spot
spot t y x = record { t = t; y = y; x = x }

-- the cell of a row and a column of generation t, and the place to which it goes
abbrev pub leaving : Course → ℕ → ℕ → Moved
leaving course y x = record {
  early = spot course.t (pos y) (pos x);
  late = spot (course.t + course.period) (pos y +ℤ course.dy) (pos x +ℤ course.dx);
}

-- the place from which a cell of the later generation comes, and the cell
abbrev pub coming : Course → ℕ → ℕ → Moved
coming course y x = record {
  early = spot course.t (pos y -ℤ course.dy) (pos x -ℤ course.dx);
  late = spot (course.t + course.period) (pos y) (pos x);
}

abbrev pub is_on_grid : ℕ → ℕ → ℤ → ℤ → Bool
is_on_grid height width y x = is_some (inside y height) && is_some (inside x width)

-- that pair, where it comes from outside the grid
abbrev pub entering : Course → ℕ → ℕ → ℕ → ℕ → List Moved
entering course height width y x =
    if is_on_grid height width (pos y -ℤ course.dy) (pos x -ℤ course.dx) then [] else coming course y x ∷ []

-- by row, then by column: each cell and where it goes; each cell that comes from outside the grid, and where it was
abbrev pub row_leaving : Course → ℕ → ℕ → List Moved
row_leaving course width y = map (leaving course y) (range_with_len 0 width)

abbrev pub row_entering : Course → ℕ → ℕ → ℕ → List Moved
row_entering course height width y = flat_map (entering course height width y) (range_with_len 0 width)

abbrev pub all_leaving : Course → ℕ → ℕ → List Moved
all_leaving course height width = flat_map (row_leaving course width) (range_with_len 0 height)

abbrev pub all_entering : Course → ℕ → ℕ → List Moved
all_entering course height width = flat_map (row_entering course height width) (range_with_len 0 height)

-- the move from generation t on
abbrev pub course_at : ℕ → ℤ → ℤ → ℕ → Course
course_at period dx dy t = record { t = t; period = period; dx = dx; dy = dy }

abbrev pub generation_moved : ℕ → ℕ → Course → List Moved
generation_moved height width course = all_leaving course height width ++ all_entering course height width

-- for each generation that has one a period later
unfoldable pub moved_pairs_of : ℕ → ℕ → ℕ → ℕ → ℤ → ℤ → List Moved
moved_pairs_of generations height width period dx dy =
    flat_map (λ t. generation_moved height width (course_at period dx dy t)) (range_with_len 0 (generations - period))

-- each place, in the grid or outside it, has the value that the place a shift further has a period later
abbrev pub IsMoved : ℕ → ℕ → ℤ → ℤ → (ℕ → ℤ → ℤ → Bool) → Type 0
IsMoved generations period dx dy value = (t : ℕ) (y x : ℤ) → t + period < generations → value (t + period) (y +ℤ dy) (x +ℤ dx) ≡ value t y x

-- every place outside the grid has the background of its generation
abbrev pub HaveBackgrounds : ℕ → ℕ → ℕ → (ℕ → ℤ → ℤ → Bool) → (ℕ → Bool) → Type 0
HaveBackgrounds generations height width value backgrounds = (t : ℕ) → t < generations → HasBackground height width (value t) (backgrounds t)

-- the backgrounds are the same a period later
abbrev pub BackgroundsReturn : ℕ → ℕ → (ℕ → Bool) → Type 0
BackgroundsReturn generations period backgrounds = (t : ℕ) → t + period < generations → backgrounds t ≡ backgrounds (t + period)

-- the places of a pair, and of each pair, have equal values
abbrev pub IsMovedPair : (ℕ → ℤ → ℤ → Bool) → Moved → Type 0
IsMovedPair value pair = value pair.early.t pair.early.y pair.early.x ≡ value pair.late.t pair.late.y pair.late.x

abbrev pub AreMoved : (ℕ → ℤ → ℤ → Bool) → List Moved → Type 0
AreMoved value moved = All (IsMovedPair value) moved
