-- A problem with one more bound on the live cells of generation 0, and the one that asks for a solution beyond another.
use Rattle.std.specs.Prelude.{◌≡◌, ◌≤◌, ℕ, zero, suc, ◌+◌, ◌*◌, nat_lt, [], ◌∷◌, ◌++◌, Option, None, Some, if◌then◌else◌}
use Rattle.std.specs.Option.{ForSome, option_map}
use Rattle.lls_grid.specs.History.{History}
use Rattle.lls_grid.specs.Changes.{population}
use Rattle.lls_problem.specs.declared.bounds.Bound.{Bound}
use Rattle.lls_problem.specs.Bounds.{most_counters, grid_size, top_end, all_counter_vars}
use Rattle.lls_problem.specs.Problem.{PosedProblem}
use Rattle.lls_least.specs.declared.extreme.Extreme.{Extreme}
use Rattle.lls_least.specs.declared.extreme.Extreme.TheVariants as extremes

-- how many cells of generation 0 are live
abbrev pub live_cells : History → ℕ
live_cells history = population history 0

-- of generation 0 at least so many cells are live, and at most so many where that is given
abbrev pub on_first : ℕ → Option ℕ → Bound
on_first low high = record { generation = 0; low = low; high = high }

-- at most so many, or at least so many
abbrev pub at_most : ℕ → Bound
at_most k = on_first 0 (Some k)

abbrev pub at_least : ℕ → Bound
at_least k = on_first k None

-- the problem with this bound behind its other ones
abbrev pub bounded : PosedProblem → Bound → PosedProblem
bounded p bound = record p { demands = record p.demands { bounds = p.demands.bounds ++ bound ∷ [] } }

abbrev pub fewer : PosedProblem → ℕ → PosedProblem
fewer p k = bounded p (at_most k)

abbrev pub more : PosedProblem → ℕ → PosedProblem
more p k = bounded p (at_least k)

-- the bound that asks for fewer live cells than n, or for more, where a grid of so many cells has room for such numbers
abbrev pub beyond : Extreme → ℕ → ℕ → Option Bound
beyond extremes.Fewest size zero = None
beyond extremes.Fewest size (suc n) = Some (at_most n)
beyond extremes.Most size n = if nat_lt n size then Some (at_least (suc n)) else None

-- the problem with it
abbrev pub problem_beyond : Extreme → PosedProblem → ℕ → Option PosedProblem
problem_beyond extreme p n = option_map (bounded p) (beyond extreme (grid_size p.posed) n)

-- a bound on generation 0 whose ends are in their order, and within a grid of so many cells
pub record IsWithin (size : ℕ) (bound : Bound) : Type 0 where
  pub first : bound.generation ≡ 0
  pub ordered : bound.low ≤ top_end size bound
  pub high : ForSome bound.high (λ high. high ≤ size)

-- how many variables the counters of the problem's bounds have, and one more that counts up to all cells of a generation
abbrev pub counters_with_one_more : PosedProblem → ℕ
counters_with_one_more p = all_counter_vars (grid_size p.posed) p.demands.bounds + grid_size p.posed * grid_size p.posed

-- so there is room for the counter of each such bound
abbrev pub LeavesRoom : PosedProblem → Type 0
LeavesRoom p = counters_with_one_more p ≤ most_counters
