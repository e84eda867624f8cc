-- When a problem looks the same under a motion, and the motions under which it does.
use Rattle.std.specs.Prelude.{ℕ, ◌+◌, ◌*◌, ◌/◌, ◌%◌, ◌==◌, Bool, true, false, not, ◌&&◌, ◌||◌, List, [], ◌∷◌, length, map, filter, slice_index_or, unsigned_abs, is_some, Option, None, Some, if◌then◌else◌}
use Rattle.std.specs.List.{list_all, list_any, range_with_len}
use Rattle.std.specs.Option.{option_map_or, option_eq}
use Rattle.std.proofs.Math.Bool.{beq}
use Rattle.std.specs.Ordering.{int_eq}
use Rattle.lls_rule.specs.declared.rule.TheConstants.Rule.{NEIGHBOURHOODS, NEIGHBOURS}
use Rattle.lls_rule.specs.Rule.{answer, successor, has_bit}
use Rattle.lls_grid.specs.declared.sizes.Sizes.{Sizes}
use Rattle.lls_search_file.specs.declared.cell.Kind.{Kind}
use Rattle.lls_search_file.specs.declared.cell.Kind.TheVariants.{Dead, Live, Free, Named, Negated}
use Rattle.lls_search_file.specs.Posed.{PosedFile, sizes_of, name_of}
use Rattle.lls_symmetry.specs.declared.motion.Motion.{Motion}
use Rattle.lls_symmetry.specs.declared.motion.Motion.TheVariants.{HalfTurn, QuarterTurn, BackTurn, RowMirror, ColumnMirror, DownMirror, UpMirror}
use Rattle.lls_symmetry.specs.declared.symmetry.Symmetry.{Symmetry}
use Rattle.lls_symmetry.specs.declared.symmetry.Symmetry.TheVariants.{C1, C2, C4, D2Row, D2Col, D2Down, D2Up, D4Plus, D4Cross, D8}
use Rattle.lls_symmetry.specs.Motion.{image_of, cell_place, exchanges}
use Rattle.lls_problem.specs.declared.demands.Period.{Period}
use Rattle.lls_problem.specs.Problem.{PosedProblem, Pattern}
use Rattle.lls_problem.specs.Bounds.{grid_size}
use Rattle.lls_problem.specs.Solution.{cell_number}
use Rattle.lls_images.specs.Image.{image_index}

-- two cells are fixed to one value, or both unknown, or both of a name
abbrev pub is_alike : Kind → Kind → Bool
is_alike Dead Dead = true
is_alike Live Live = true
is_alike Free Free = true
is_alike (Named m) (Named n) = true
is_alike (Named m) (Negated n) = true
is_alike (Negated m) (Named n) = true
is_alike (Negated m) (Negated n) = true
is_alike kind other = false

-- each cell and its image are so, and both are marked or both aren't
abbrev pub is_kept : Motion → PosedFile → ℕ → Bool
is_kept motion file k =
    let cell = cell_number file.cells k in
    let to = cell_number file.cells (image_index motion (sizes_of file) k) in
    beq cell.mark to.mark && is_alike cell.kind to.kind

abbrev pub keeps_cells : Motion → PosedFile → Bool
keeps_cells motion file = list_all (is_kept motion file) (range_with_len 0 (length file.cells))

-- whether the values of two cells of one name differ; cells without one name aren't tied
abbrev pub tie : Kind → Kind → Option Bool
tie (Named m) (Named n) = if m == n then Some false else None
tie (Named m) (Negated n) = if m == n then Some true else None
tie (Negated m) (Named n) = if m == n then Some true else None
tie (Negated m) (Negated n) = if m == n then Some false else None
tie kind other = None

abbrev pub kind_at : PosedFile → ℕ → Kind
kind_at file k = (cell_number file.cells k).kind

-- two cells are tied just as their images are
abbrev pub is_tie_kept : Motion → PosedFile → ℕ → ℕ → Bool
is_tie_kept motion file j k =
    option_eq beq (tie (kind_at file j) (kind_at file k)) (tie (kind_at file (image_index motion (sizes_of file) j)) (kind_at file (image_index motion (sizes_of file) k)))

-- so is each cell of a name with every cell
abbrev pub are_ties_kept : Motion → PosedFile → ℕ → Bool
are_ties_kept motion file j =
    if is_some (name_of (kind_at file j)) then list_all (is_tie_kept motion file j) (range_with_len 0 (length file.cells)) else true

abbrev pub keeps_ties : Motion → PosedFile → Bool
keeps_ties motion file = list_all (are_ties_kept motion file) (range_with_len 0 (length file.cells))

-- the nine cells of a neighbourhood by its number, from top left to bottom right
abbrev pub nine_of : ℕ → List Bool
nine_of n = map (has_bit n) (8 ∷ 7 ∷ 6 ∷ 5 ∷ 4 ∷ 3 ∷ 2 ∷ 1 ∷ 0 ∷ [])

-- where in it the image of its kth cell stands: it is a grid of three rows and columns
abbrev pub ninth : Motion → ℕ → ℕ
ninth motion k = let to = image_of motion 3 3 (cell_place (k / 3) (k % 3)) in unsigned_abs to.x + 3 * unsigned_abs to.y

abbrev pub turned : Motion → List Bool → List Bool
turned motion nine = map (λ k. slice_index_or nine (ninth motion k) false) (range_with_len 0 (NEIGHBOURS + 1))

-- the rule gives each neighbourhood and its image one answer
abbrev pub is_answer_kept : Motion → List Bool → ℕ → Bool
is_answer_kept motion table n = beq (successor table (turned motion (nine_of n))) (answer table n)

unfoldable pub keeps_rule : Motion → List Bool → Bool
keeps_rule motion table = list_all (is_answer_kept motion table) (range_with_len 0 NEIGHBOURHOODS)

-- the motion takes the shift to itself: as a place beside the cell of a grid of one cell
abbrev pub keeps_shift : Motion → Period → Bool
keeps_shift motion period =
    let to = image_of motion 1 1 (record { y = period.dy; x = period.dx }) in
    int_eq to.y period.dy && int_eq to.x period.dx

-- whether it takes the mirrors on the diagonals to one another
abbrev pub swaps_diagonals : Motion → Bool
swaps_diagonals HalfTurn = false
swaps_diagonals QuarterTurn = true
swaps_diagonals BackTurn = true
swaps_diagonals RowMirror = true
swaps_diagonals ColumnMirror = true
swaps_diagonals DownMirror = false
swaps_diagonals UpMirror = false

-- the motion takes the symmetry's axes to axes of it
abbrev pub keeps_symmetry : Motion → Symmetry → Bool
keeps_symmetry motion C1 = true
keeps_symmetry motion C2 = true
keeps_symmetry motion C4 = true
keeps_symmetry motion D2Row = not (exchanges motion)
keeps_symmetry motion D2Col = not (exchanges motion)
keeps_symmetry motion D2Down = not (swaps_diagonals motion)
keeps_symmetry motion D2Up = not (swaps_diagonals motion)
keeps_symmetry motion D4Plus = true
keeps_symmetry motion D4Cross = true
keeps_symmetry motion D8 = true

-- whether it is one of the turns and mirrors that a symmetry demands
abbrev pub is_demanded : Symmetry → Motion → Bool
is_demanded C1 motion = false
is_demanded C2 HalfTurn = true
is_demanded C2 motion = false
is_demanded C4 HalfTurn = true
is_demanded C4 QuarterTurn = true
is_demanded C4 BackTurn = true
is_demanded C4 motion = false
is_demanded D2Row RowMirror = true
is_demanded D2Row motion = false
is_demanded D2Col ColumnMirror = true
is_demanded D2Col motion = false
is_demanded D2Down DownMirror = true
is_demanded D2Down motion = false
is_demanded D2Up UpMirror = true
is_demanded D2Up motion = false
is_demanded D4Plus HalfTurn = true
is_demanded D4Plus RowMirror = true
is_demanded D4Plus ColumnMirror = true
is_demanded D4Plus motion = false
is_demanded D4Cross HalfTurn = true
is_demanded D4Cross DownMirror = true
is_demanded D4Cross UpMirror = true
is_demanded D4Cross motion = false
is_demanded D8 motion = true

-- a pattern is the image of another one
abbrev pub is_image_at : Motion → Sizes → Pattern → Pattern → ℕ → Bool
is_image_at motion sizes pattern other k = beq (slice_index_or pattern k false) (slice_index_or other (image_index motion sizes k) false)

abbrev pub is_image : Motion → Sizes → ℕ → Pattern → Pattern → Bool
is_image motion sizes size pattern other = list_all (is_image_at motion sizes pattern other) (range_with_len 0 size)

-- each pattern is the image of one of them
abbrev pub keeps_listed : Motion → PosedFile → List Pattern → Bool
keeps_listed motion file patterns =
    list_all (λ pattern. list_any (is_image motion (sizes_of file) (grid_size file) pattern) patterns) patterns

abbrev pub keeps_demands : Motion → PosedProblem → Bool
keeps_demands motion problem =
    option_map_or (keeps_shift motion) problem.demands.period true
    && (keeps_symmetry motion problem.demands.symmetry && keeps_listed motion problem.posed problem.demands.listed)

-- whether the grid is one that the motion takes to itself
abbrev pub keeps_grid : Motion → ℕ → ℕ → Bool
keeps_grid motion height width = not (exchanges motion) || (height == width)

-- the problem looks the same under the motion
abbrev pub looks_the_same : PosedProblem → Motion → Bool
looks_the_same problem motion =
    keeps_grid motion problem.posed.height problem.posed.width
    && (keeps_rule motion problem.rule
    && (keeps_demands motion problem
    && (keeps_cells motion problem.posed && keeps_ties motion problem.posed)))

-- Under a demanded motion each solution is its own image, so none of those comes before another.
abbrev pub tells_apart : PosedProblem → Motion → Bool
tells_apart problem motion = not (is_demanded problem.demands.symmetry motion) && looks_the_same problem motion

abbrev pub motions : List Motion
motions = HalfTurn ∷ QuarterTurn ∷ BackTurn ∷ RowMirror ∷ ColumnMirror ∷ DownMirror ∷ UpMirror ∷ []

-- the motions under which a problem looks the same, but those that it demands
unfoldable pub same_motions : PosedProblem → List Motion
same_motions problem = filter (tells_apart problem) motions
