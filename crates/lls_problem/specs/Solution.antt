-- What a solution of a problem is. It is said of whole histories, by reading cells and comparing them.
use Rattle.std.specs.Prelude.{◌≡◌, ◌≢◌, ◌<◌, ◌≤◌, ℕ, ◌+◌, ◌%◌, ℤ, pos, ◌+ℤ◌, unsigned_abs, negsuc, ◌≤ℤ◌, ◌<ℤ◌, Bool, true, false, not, List, Option, None, Some, length, slice_index_or, All}
use Rattle.std.specs.Option.{ForSome}
use Rattle.lls_rule.specs.Rule.{successor}
use Rattle.lls_grid.specs.Sizes.{index_of}
use Rattle.lls_grid.specs.Place.{inside}
use Rattle.lls_grid.specs.History.{History, HasSizes, at, nine, cells_of, cells_of_rows, rows_at}
use Rattle.lls_grid.specs.Changes.{population}
use Rattle.lls_search_file.specs.declared.cell.Cell.{Cell}
use Rattle.lls_search_file.specs.declared.cell.Kind.{Kind}
use Rattle.lls_search_file.specs.declared.cell.Kind.TheVariants.{Dead, Live, Free, Named, Negated}
use Rattle.lls_search_file.specs.Posed.{PosedFile, sizes_of}
use Rattle.lls_symmetry.specs.Symmetry.{IsSymmetric}
use Rattle.lls_symmetry.specs.Moved.{IsMoved}
use Rattle.lls_problem.specs.declared.demands.Edge.{Edge}
use Rattle.lls_problem.specs.declared.demands.Edge.TheVariants.{Framed, Bare}
use Rattle.lls_problem.specs.Bounds.{Allows}
use Rattle.lls_problem.specs.declared.demands.Period.{Period}
use Rattle.lls_problem.specs.Problem.{PosedProblem, part_of}

-- the cell at a place of the order generation, row, column; past the end a dead one
abbrev pub cell_number : List Cell → ℕ → Cell
cell_number cells k = slice_index_or cells k (record { mark = false; kind = Dead })

-- where the cell of generation t, row y and column x stands in that order
abbrev pub place_of : PosedFile → ℕ → ℕ → ℕ → ℕ
place_of file t y x = index_of (sizes_of file) (record { t = t; y = y; x = x })

-- a fixed cell has its bit
abbrev pub HasItsBit : Kind → Bool → Type 0
HasItsBit Dead value = value ≡ false
HasItsBit Live value = value ≡ true
HasItsBit Free value = Unit {0}
HasItsBit (Named n) value = Unit {0}
HasItsBit (Negated n) value = Unit {0}

-- two cells of one name are equal where both stand with or both without `-`, and different otherwise
abbrev pub AreTied : Kind → Kind → Bool → Bool → Type 0
AreTied (Named m) (Named n) a b = m ≡ n → a ≡ b
AreTied (Named m) (Negated n) a b = m ≡ n → a ≡ not b
AreTied (Negated m) (Named n) a b = m ≡ n → a ≡ not b
AreTied (Negated m) (Negated n) a b = m ≡ n → a ≡ b
AreTied kind other a b = Unit {0}

-- the values, in the order of the cells, are as the cells say
pub record MeetsCells (cells : List Cell) (values : List Bool) : Type 0 where
  pub fixed : (k : ℕ) → k < length cells → HasItsBit (cell_number cells k).kind (slice_index_or values k false)
  pub tied : (j k : ℕ) → j < length cells → k < length cells → AreTied (cell_number cells j).kind (cell_number cells k).kind (slice_index_or values j false) (slice_index_or values k false)

-- a place into which a transition has to obey the rule: in the grid, or under a closed edge in the ring round it too
abbrev pub IsFramed : Edge → ℕ → ℕ → ℤ → ℤ → Type 0
IsFramed Framed height width y x = (negsuc 0 ≤ℤ y) × (y ≤ℤ pos height) × (negsuc 0 ≤ℤ x) × (x ≤ℤ pos width)
IsFramed Bare height width y x = (pos 0 ≤ℤ y) × (y <ℤ pos height) × (pos 0 ≤ℤ x) × (x <ℤ pos width)

-- the cell of a row and a column inside the grid is marked
abbrev pub is_marked_at : PosedFile → ℕ → Option ℕ → Option ℕ → Bool
is_marked_at file t (Some row) (Some column) = (cell_number file.cells (place_of file t row column)).mark
is_marked_at file t (Some row) None = false
is_marked_at file t None column = false

-- the place is a marked cell of generation t; no place of the ring is
abbrev pub is_marked : PosedFile → ℕ → ℤ → ℤ → Bool
is_marked file t y x = is_marked_at file t (inside y file.height) (inside x file.width)

-- from each generation to the next, each framed place that no mark frees has the rule's successor
abbrev pub Obeys : PosedProblem → History → Type 0
Obeys problem history = (t : ℕ) (y x : ℤ) → t + 1 < problem.posed.generations
    → IsFramed problem.demands.edge problem.posed.height problem.posed.width y x
    → is_marked problem.posed (t + 1) y x ≡ false
    → at problem.rule history (t + 1) y x ≡ successor problem.rule (nine problem.rule history t y x)

-- each generation is symmetric: every place, in the grid or outside it, has the value of its image
abbrev pub AreSymmetric : PosedProblem → History → Type 0
AreSymmetric problem history = (t : ℕ) → t < problem.posed.generations
    → IsSymmetric problem.demands.symmetry problem.posed.height problem.posed.width (at problem.rule history t)

-- where a period is asked, each generation is there again a period later, moved by the shift, with its background
abbrev pub Returns : PosedProblem → History → Type 0
Returns problem history = ForSome problem.demands.period (λ period.
    IsMoved problem.posed.generations period.length period.dx period.dy (at problem.rule history))

-- a cell of the grid that isn't the same in generations s and t
pub record IsDifference (problem : PosedProblem) (history : History) (s t y x : ℕ) : Type 0 where
  pub row : y < problem.posed.height
  pub column : x < problem.posed.width
  pub differs : at problem.rule history s (pos y) (pos x) ≢ at problem.rule history t (pos y) (pos x)

-- where two generations are asked to differ, they do in some cell
abbrev pub Differs : PosedProblem → History → Type 0
Differs problem history = ForSome problem.demands.differ (λ pair. (y : ℕ) × ((x : ℕ) × IsDifference problem history pair.0 pair.1 y x))

-- 2 or more, and no number between divides it
pub record IsPrime (q : ℕ) : Type 0 where
  pub more : 2 ≤ q
  pub undivided : (k : ℕ) → 2 ≤ k → k < q → q % k ≢ 0

-- a number divides a period and both parts of its shift
pub record Divides (q : ℕ) (period : Period) : Type 0 where
  pub length : period.length % q ≡ 0
  pub columns : unsigned_abs period.dx % q ≡ 0
  pub rows : unsigned_abs period.dy % q ≡ 0

-- a period later, generation 0 is there again, moved by the shift
abbrev pub IsThere : PosedProblem → History → Period → Type 0
IsThere problem history period = (y x : ℤ) → at problem.rule history period.length (y +ℤ period.dy) (x +ℤ period.dx) ≡ at problem.rule history 0 y x

-- where the period is to be exact: by no prime that divides it is there a shorter one along the same line
abbrev pub IsExact : PosedProblem → History → Type 0
IsExact problem history = problem.demands.exact ≡ true → ForSome problem.demands.period (λ period.
    (q : ℕ) → IsPrime q → Divides q period → IsThere problem history (part_of period q) → ⊥)

-- the live cells of the generation of each bound are within its ends
abbrev pub IsPopulated : PosedProblem → History → Type 0
IsPopulated problem history = All (λ bound. Allows bound (population history bound.generation)) problem.demands.bounds

-- generation 0 is none of the listed patterns
abbrev pub IsUnlisted : PosedProblem → History → Type 0
IsUnlisted problem history = All (λ pattern. cells_of_rows (rows_at history 0) ≢ pattern) problem.demands.listed

-- the history meets the file and every demand
pub record IsSolution (problem : PosedProblem) (history : History) : Type 0 where
  pub sizes : HasSizes problem.posed.generations problem.posed.height problem.posed.width history
  pub cells : MeetsCells problem.posed.cells (cells_of history)
  pub symmetric : AreSymmetric problem history
  pub moved : Returns problem history
  pub rule : Obeys problem history
  pub populated : IsPopulated problem history
  pub differ : Differs problem history
  pub exact : IsExact problem history
  pub unlisted : IsUnlisted problem history

-- no history is a solution
abbrev pub IsAbsent : PosedProblem → Type 0
IsAbsent problem = (history : History) → IsSolution problem history → ⊥
