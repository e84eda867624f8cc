-- What each answer of judging says: which demand is the first that is broken, and at which place.
use Rattle.std.specs.Prelude.{◌≡◌, ◌≢◌, ◌<◌, ℕ, [], ◌-◌, Bool, false, List, Some, length, slice_index_or}
use Rattle.lls_rule.specs.Rule.{successor}
use Rattle.lls_grid.specs.declared.sizes.GridPlace.{GridPlace}
use Rattle.lls_grid.specs.Sizes.{IsInside, index_of}
use Rattle.lls_grid.specs.History.{History, HasSizes, at, nine, cells_of, cells_of_rows, rows_at}
use Rattle.lls_search_file.specs.declared.cell.Cell.{Cell}
use Rattle.lls_search_file.specs.Posed.{PosedFile, sizes_of, name_of}
use Rattle.lls_problem.specs.declared.judgement.Judgement.{Judgement}
use Rattle.lls_problem.specs.declared.judgement.Judgement.TheVariants as judgement
use Rattle.lls_problem.specs.Problem.{Pattern, PosedProblem}
use Rattle.lls_problem.specs.Solution.{cell_number, HasItsBit, AreTied, IsFramed, is_marked, AreSymmetric, Returns, Obeys, IsPopulated, Differs, IsExact, IsUnlisted, IsSolution}
use Rattle.lls_symmetry.specs.Moved.{spot}
use Rattle.lls_problem.specs.declared.losses.Loss.{Loss}
use Rattle.lls_problem.specs.declared.losses.Loss.TheVariants.{OfBackground, OfPlace}
use Rattle.lls_problem.specs.Firsts.{Place, of_cell, IsBefore, IsFirstBroken, first}
use Rattle.lls_problem.specs.Unlike.{unlike_cells}
use Rattle.lls_problem.specs.Losses.{losses}
use Rattle.lls_problem.specs.Outside.{first_outside}
use Rattle.lls_problem.specs.Exact.{shorter_lengths}

-- the sizes are the file's
abbrev pub HasItsSizes : PosedProblem → History → Type 0
HasItsSizes problem history = HasSizes problem.posed.generations problem.posed.height problem.posed.width history

-- the kth cell has its bit, where it is fixed
abbrev pub KeepsBit : List Cell → List Bool → ℕ → Type 0
KeepsBit cells values k = HasItsBit (cell_number cells k).kind (slice_index_or values k false)

-- the first cell of a name
pub record IsFirstOfName (cells : List Cell) (name first : ℕ) : Type 0 where
  pub within : first < length cells
  pub named : name_of (cell_number cells first).kind ≡ Some name
  pub before : (k : ℕ) → k < first → name_of (cell_number cells k).kind ≡ Some name → ⊥

-- the kth cell agrees with the first cell of its name, where it has a name
abbrev pub KeepsName : List Cell → List Bool → ℕ → Type 0
KeepsName cells values k = (name first : ℕ) → name_of (cell_number cells k).kind ≡ Some name → IsFirstOfName cells name first
    → AreTied (cell_number cells first).kind (cell_number cells k).kind (slice_index_or values first false) (slice_index_or values k false)

-- each fixed cell of the file has its bit
abbrev pub AllFixed : PosedProblem → History → Type 0
AllFixed problem history = (k : ℕ) → k < length problem.posed.cells → KeepsBit problem.posed.cells (cells_of history) k

-- each cell agrees with the first cell of its name
abbrev pub AllAgree : PosedProblem → History → Type 0
AllAgree problem history = (k : ℕ) → k < length problem.posed.cells → KeepsName problem.posed.cells (cells_of history) k

-- of the cells of a file, the first that doesn't keep what each has to keep
pub record IsFirstCell (file : PosedFile) (Keeps : ℕ → Type 0) (cell : GridPlace) : Type 0 where
  pub inside : IsInside (sizes_of file) cell
  pub broken : Keeps (index_of (sizes_of file) cell) → ⊥
  pub before : (other : GridPlace) → IsInside (sizes_of file) other → IsBefore (of_cell other) (of_cell cell) → Keeps (index_of (sizes_of file) other)

-- the transition into a place has to obey the rule: the place is framed, and no mark frees it
pub record IsBound (problem : PosedProblem) (place : Place) : Type 0 where
  pub later : 0 < place.t
  pub generation : place.t < problem.posed.generations
  pub framed : IsFramed problem.demands.edge problem.posed.height problem.posed.width place.y place.x
  pub free : is_marked problem.posed place.t place.y place.x ≡ false

-- the cell of a place is the rule's successor of its neighbourhood a generation before
abbrev pub Succeeds : PosedProblem → History → Place → Type 0
Succeeds problem history place =
    at problem.rule history place.t place.y place.x ≡ successor problem.rule (nine problem.rule history (place.t - 1) place.y place.x)

-- of the transitions that have to obey the rule, the first that doesn't
abbrev pub IsFirstTransition : PosedProblem → History → Place → Type 0
IsFirstTransition problem history place = IsFirstBroken (IsBound problem) (Succeeds problem history) place

-- what is demanded of a history, and the place of each demand in the order of judging
pub data Demand : Type 0 where
  size : Demand
  cell : Demand
  name : Demand
  symmetry : Demand
  period : Demand
  rule : Demand
  population : Demand
  same : Demand
  exact : Demand
  unlisted : Demand

abbrev pub rank : Demand → ℕ
rank size = 0
rank cell = 1
rank name = 2
rank symmetry = 3
rank period = 4
rank rule = 5
rank population = 6
rank same = 7
rank exact = 8
rank unlisted = 9

abbrev pub Keeps : PosedProblem → History → Demand → Type 0
Keeps problem history size = HasItsSizes problem history
Keeps problem history cell = AllFixed problem history
Keeps problem history name = AllAgree problem history
Keeps problem history symmetry = AreSymmetric problem history
Keeps problem history period = Returns problem history
Keeps problem history rule = Obeys problem history
Keeps problem history population = IsPopulated problem history
Keeps problem history same = Differs problem history
Keeps problem history exact = IsExact problem history
Keeps problem history unlisted = IsUnlisted problem history

-- every demand before that one is kept
abbrev pub KeepsBefore : PosedProblem → History → Demand → Type 0
KeepsBefore problem history demand = (earlier : Demand) → rank earlier < rank demand → Keeps problem history earlier

-- every demand before that one is kept, and it is broken first as said
pub record IsFault (problem : PosedProblem) (history : History) (demand : Demand) (First : Type 0) : Type 0 where
  pub kept : KeepsBefore problem history demand
  pub first : First

-- the answer that says what isn't there again
abbrev pub judgement_of : Loss → Judgement
judgement_of (OfBackground t) = judgement.Background t
judgement_of (OfPlace spot) = judgement.Moved spot.t spot.y spot.x

-- of patterns, the first that has those cells
pub record IsFirstListed (patterns : List Pattern) (cells : List Bool) (n : ℕ) : Type 0 where
  pub within : n < length patterns
  pub same : slice_index_or patterns n [] ≡ cells
  pub before : (m : ℕ) → m < n → slice_index_or patterns m [] ≢ cells

-- the history is a solution, or this is its first fault
abbrev pub IsJudgement : PosedProblem → History → Judgement → Type 0
IsJudgement p h judgement.Meets = IsSolution p h
IsJudgement p h judgement.Size = IsFault p h size (HasItsSizes p h → ⊥)
IsJudgement p h (judgement.Cell t y x) = IsFault p h cell (IsFirstCell p.posed (KeepsBit p.posed.cells (cells_of h)) (record { t = t; y = y; x = x }))
IsJudgement p h (judgement.Name t y x) = IsFault p h name (IsFirstCell p.posed (KeepsName p.posed.cells (cells_of h)) (record { t = t; y = y; x = x }))
IsJudgement p h (judgement.Symmetry t y x) = IsFault p h symmetry (first (unlike_cells p h) ≡ Some (record { t = t; y = y; x = x }))
IsJudgement p h (judgement.Background t) = IsFault p h period (first (losses p h) ≡ Some (OfBackground t))
IsJudgement p h (judgement.Moved t y x) = IsFault p h period (first (losses p h) ≡ Some (OfPlace (spot t y x)))
IsJudgement p h (judgement.Rule t y x) = IsFault p h rule (IsFirstTransition p h (record { t = t; y = y; x = x }))
IsJudgement p h (judgement.Population t n) = IsFault p h population (first_outside p h ≡ Some (record { t = t; live = n }))
IsJudgement p h judgement.Same = IsFault p h same (Differs p h → ⊥)
IsJudgement p h (judgement.Shorter d) = IsFault p h exact (first (shorter_lengths p h) ≡ Some d)
IsJudgement p h (judgement.Listed n) = IsFault p h unlisted (IsFirstListed p.demands.listed (cells_of_rows (rows_at h 0)) n)
