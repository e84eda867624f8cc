-- The shorter periods along the same line that an exact one excludes, and those of them after which a history is there again.
use Rattle.std.specs.Prelude.{ℕ, ◌+◌, ◌-◌, ◌%◌, ◌==◌, unsigned_abs, Bool, true, false, not, ◌&&◌, nat_le, List, [], ◌∷◌, Option, None, Some, if◌then◌else◌}
use Rattle.std.specs.List.{list_all, flat_map, filter_map, range_with_len}
use Rattle.std.specs.Option.{option_map_or}
use Rattle.lls_grid.specs.History.{History}
use Rattle.lls_problem.specs.declared.demands.Period.{Period}
use Rattle.lls_problem.specs.declared.demands.Demands.{Demands}
use Rattle.lls_problem.specs.Problem.{PosedProblem, part_of}
use Rattle.lls_problem.specs.Losses.{losses_at}

-- 2 or more, and no number between divides it
abbrev pub is_prime : ℕ → Bool
is_prime q = nat_le 2 q && list_all (λ k. not (q % k == 0)) (range_with_len 2 (q - 2))

-- a number divides a period and both parts of its shift
abbrev pub is_multiple : Period → ℕ → Bool
is_multiple period q = (period.length % q == 0) && ((unsigned_abs period.dx % q == 0) && (unsigned_abs period.dy % q == 0))

abbrev pub part_by : Period → ℕ → Option Period
part_by period q = if is_prime q && is_multiple period q then Some (part_of period q) else None

-- those by all primes, ascending by the prime, where the period is to be exact
abbrev pub parts_of : Period → List Period
parts_of period = filter_map (part_by period) (range_with_len 0 (period.length + 1))

abbrev pub excluded : Demands → List Period
excluded demands = if demands.exact then option_map_or parts_of demands.period [] else []

-- the length of a period after which generation 0 is there again, moved by its shift
abbrev pub is_nothing : {X : Type 0} → List X → Bool
is_nothing [] = true
is_nothing (x ∷ xs) = false

abbrev pub returning : PosedProblem → History → Period → List ℕ
returning p h part = if is_nothing (losses_at p h part 0) then part.length ∷ [] else []

abbrev pub shorter_lengths : PosedProblem → History → List ℕ
shorter_lengths p h = flat_map (returning p h) (excluded p.demands)
