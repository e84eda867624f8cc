-- Bounds on the number of live cells of a generation, and how far the counter of a bound counts.
use Rattle.std.specs.Prelude.{◌≤◌, ℕ, ◌+◌, ◌*◌, min, nat_lt, ◌||◌, Bool, false, List, sum_by, if◌then◌else◌}
use Rattle.std.specs.Option.{ForSome, option_map_or}
use Rattle.lls_search_file.specs.Posed.{PosedFile}
use Rattle.lls_problem.specs.declared.bounds.Bound.{Bound}

-- the greatest number that a bound may have for an end
abbrev pub most_end : ℕ
most_end = 8192

-- the greatest number of variables that the counters of all bounds may have
abbrev pub most_counters : ℕ
most_counters = 1000000

-- the ends are within the limit
pub record HasEnds (bound : Bound) : Type 0 where
  pub low : bound.low ≤ most_end
  pub high : ForSome bound.high (λ high. high ≤ most_end)

-- so many live cells are within the ends
pub record Allows (bound : Bound) (live : ℕ) : Type 0 where
  pub low : bound.low ≤ live
  pub high : ForSome bound.high (λ high. live ≤ high)

-- they are outside
abbrev pub excludes : Bound → ℕ → Bool
excludes bound live = nat_lt live bound.low || option_map_or (λ high. nat_lt high live) bound.high false

-- how many cells each generation has
abbrev pub grid_size : PosedFile → ℕ
grid_size file = file.width * file.height

-- the greatest number of live cells that a bound allows, in a grid of `size` cells
abbrev pub top_end : ℕ → Bound → ℕ
top_end size bound = option_map_or (λ high. min high size) bound.high size

-- nothing is between its ends
abbrev pub crosses : ℕ → Bound → Bool
crosses size bound = nat_lt (top_end size bound) bound.low

-- Its counter counts the live cells up to one more than that. Where that is all cells, it counts up to the low end.
abbrev pub counter_top : ℕ → Bound → ℕ
counter_top size bound = if nat_lt (top_end size bound) size then top_end size bound + 1 else bound.low

-- the variables of its counter, and those of all counters
abbrev pub counter_vars : ℕ → Bound → ℕ
counter_vars size bound = size * counter_top size bound

abbrev pub all_counter_vars : ℕ → List Bound → ℕ
all_counter_vars size bounds = sum_by (counter_vars size) bounds
