-- A problem: a posed file, a rule and demands that fit the file.
use Rattle.std.specs.Prelude.{◌≡◌, ◌<◌, ◌≤◌, ℕ, length, ◌/◌, pos, int_div, true, false, nat_lt, nat_le, Bool, List, [], ◌∷◌, ◌++◌, map, find, All, Option, None, Some, option_map, Result, Ok, Err, if◌then◌else◌}
use Rattle.std.specs.Option.{ForSome, option_map_or}
use Rattle.lls_grid.specs.Place.{IsWithin}
use Rattle.lls_grid.specs.declared.patterns.TheConstants.Patterns.{MOST}
use Rattle.lls_search_file.specs.Posed.{PosedFile}
use Rattle.lls_symmetry.specs.declared.moved.TheConstants.{MOST_SHIFT, MOST_PERIOD}
use Rattle.lls_symmetry.specs.declared.symmetry.Symmetry.TheVariants.{C1}
use Rattle.lls_symmetry.specs.Symmetry.{fits}
use Rattle.lls_problem.specs.declared.demands.Edge.{Edge}
use Rattle.lls_problem.specs.declared.demands.Period.{Period}
use Rattle.lls_problem.specs.declared.demands.Demands.{Demands}
use Rattle.lls_problem.specs.declared.demands.DemandError.{DemandError}
use Rattle.lls_problem.specs.declared.demands.DemandError.TheVariants.{NotSquare, NoGeneration, BoundsCross, PeriodTooLong, Counters}
use Rattle.lls_problem.specs.Bounds.{HasEnds, most_counters, grid_size, top_end, crosses, all_counter_vars}

-- a pattern is its cells in the order row, column
abbrev pub Pattern : Type 0
Pattern = List Bool

-- the rule is its table of 512 answers
pub record PosedProblem : Type 0 where
  pub posed : PosedFile
  pub rule : List Bool
  pub demands : Demands

-- an edge, and nothing else
abbrev pub edge_alone : Edge → Demands
edge_alone edge = record { edge = edge; symmetry = C1; period = None; exact = false; bounds = []; differ = None; listed = [] }

-- a period within the limits
pub record IsPeriod (period : Period) : Type 0 where
  pub length : (1 ≤ period.length) × (period.length ≤ MOST_PERIOD)
  pub columns : IsWithin MOST_SHIFT period.dx
  pub rows : IsWithin MOST_SHIFT period.dy

-- patterns of a file's sizes, and not too many
pub record AreOfSize (posed : PosedFile) (patterns : List Pattern) : Type 0 where
  pub sized : All (λ pattern. length pattern ≡ grid_size posed) patterns
  pub few : length patterns ≤ MOST

-- the demands with these patterns in place of those that generation 0 mustn't be
abbrev pub with_listed : Demands → List Pattern → Demands
with_listed demands patterns = record demands { listed = patterns }

abbrev pub but : PosedProblem → List Pattern → PosedProblem
but problem patterns = record problem { demands = with_listed problem.demands patterns }

-- the period of which q make that one
abbrev pub part_of : Period → ℕ → Period
part_of period q = record { length = period.length / q; dx = int_div period.dx (pos q); dy = int_div period.dy (pos q) }

-- the generations that the demands name, in their order
abbrev pub named_generations : Demands → List ℕ
named_generations demands =
    map (λ bound. bound.generation) demands.bounds ++ option_map_or (λ pair. pair.0 ∷ pair.1 ∷ []) demands.differ []

-- the first of them that the file hasn't
abbrev pub missing_generation : PosedFile → Demands → Option ℕ
missing_generation posed demands = find (nat_le posed.generations) (named_generations demands)

-- the generation of the first bound that nothing is between the ends of
abbrev pub crossing : PosedFile → Demands → Option ℕ
crossing posed demands = option_map (λ bound. bound.generation) (find (crosses (grid_size posed)) demands.bounds)

-- how many variables the counters of all bounds have, where that is too many
abbrev pub too_many : PosedFile → Demands → Option ℕ
too_many posed demands =
    let count = all_counter_vars (grid_size posed) demands.bounds in if nat_lt most_counters count then Some count else None

-- the length of the period, where it isn't less than the number of generations
abbrev pub too_long : PosedFile → Demands → Option ℕ
too_long posed demands = option_map_or (λ period. if nat_lt period.length posed.generations then None else Some period.length) demands.period None

-- the first demand that doesn't fit the file: the symmetry, a generation that the file hasn't, a bound, the period, the counters
abbrev pub square_fault : PosedFile → Demands → Option DemandError
square_fault posed demands = if fits demands.symmetry posed.height posed.width then None else Some (NotSquare posed.height posed.width)

abbrev pub generation_fault : PosedFile → Demands → Option DemandError
generation_fault posed demands = option_map NoGeneration (missing_generation posed demands)

abbrev pub bound_fault : PosedFile → Demands → Option DemandError
bound_fault posed demands = option_map BoundsCross (crossing posed demands)

abbrev pub period_fault : PosedFile → Demands → Option DemandError
period_fault posed demands = option_map PeriodTooLong (too_long posed demands)

abbrev pub counter_fault : PosedFile → Demands → Option DemandError
counter_fault posed demands = option_map Counters (too_many posed demands)

abbrev pub unless : {X : Type 0} → Option DemandError → Result X DemandError → Result X DemandError
unless None result = result
unless (Some fault) result = Err fault

-- the problem of the three, or that fault
abbrev pub problem_made : PosedFile → List Bool → Demands → Result PosedProblem DemandError
problem_made posed rule demands =
    unless (square_fault posed demands) (unless (generation_fault posed demands) (unless (bound_fault posed demands)
    (unless (period_fault posed demands) (unless (counter_fault posed demands)
    (Ok (record { posed = posed; rule = rule; demands = demands }))))))

-- what the type of a problem keeps: the demands fit the file
pub record AreFitting (posed : PosedFile) (demands : Demands) : Type 0 where
  pub square : fits demands.symmetry posed.height posed.width ≡ true
  pub period : ForSome demands.period IsPeriod
  pub bounds : All HasEnds demands.bounds
  pub bounded : All (λ bound. bound.generation < posed.generations) demands.bounds
  pub ordered : All (λ bound. bound.low ≤ top_end (grid_size posed) bound) demands.bounds
  pub counters : all_counter_vars (grid_size posed) demands.bounds ≤ most_counters
  pub shorter : ForSome demands.period (λ period. period.length < posed.generations)
  pub named : ForSome demands.differ (λ pair. (pair.0 < posed.generations) × (pair.1 < posed.generations))
  pub listed : AreOfSize posed demands.listed
