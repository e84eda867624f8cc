-- What of a history isn't there again a period later, in the order of judging.
use Rattle.std.specs.Prelude.{ℕ, ◌+◌, ◌-◌, Bool, List, [], ◌∷◌, ◌++◌, map, if◌then◌else◌}
use Rattle.std.specs.List.{flat_map, range_with_len}
use Rattle.std.specs.Option.{option_map_or}
use Rattle.lls_rule.specs.Rule.{background}
use Rattle.lls_grid.specs.History.{History, at}
use Rattle.lls_symmetry.specs.declared.moved.Course.{Course}
use Rattle.lls_symmetry.specs.declared.moved.Moved.{Moved}
use Rattle.lls_symmetry.specs.declared.moved.Spot.{Spot}
use Rattle.lls_symmetry.specs.Moved.{course_at, generation_moved}
use Rattle.lls_problem.specs.declared.demands.Period.{Period}
use Rattle.lls_problem.specs.declared.losses.Loss.{Loss}
use Rattle.lls_problem.specs.declared.losses.Loss.TheVariants.{OfBackground, OfPlace}
use Rattle.lls_problem.specs.Problem.{PosedProblem}
use Rattle.lls_problem.specs.Unlike.{differ}

-- the early place of a pair, where its two values differ
abbrev pub is_lost : List Bool → History → Moved → Bool
is_lost rule history pair = differ (at rule history pair.early.t pair.early.y pair.early.x) (at rule history pair.late.t pair.late.y pair.late.x)

abbrev pub lost_of : List Bool → History → Moved → List Spot
lost_of rule history pair = if is_lost rule history pair then pair.early ∷ [] else []

-- the course of a period from generation t on
abbrev pub course_of : Period → ℕ → Course
course_of period t = course_at period.length period.dx period.dy t

-- of generation t, the places that a period later aren't there where the shift takes them, in the order of the pairs
abbrev pub lost_places : PosedProblem → History → Period → ℕ → List Spot
lost_places p h period t = flat_map (lost_of p.rule h) (generation_moved p.posed.height p.posed.width (course_of period t))

-- the background comes before these
abbrev pub background_losses : PosedProblem → Period → ℕ → List Loss
background_losses p period t = if differ (background p.rule t) (background p.rule (t + period.length)) then OfBackground t ∷ [] else []

abbrev pub losses_at : PosedProblem → History → Period → ℕ → List Loss
losses_at p h period t = background_losses p period t ++ map OfPlace (lost_places p h period t)

-- of each generation that has one a period later
abbrev pub losses_of : PosedProblem → History → Period → List Loss
losses_of p h period = flat_map (losses_at p h period) (range_with_len 0 (p.posed.generations - period.length))

abbrev pub losses : PosedProblem → History → List Loss
losses p h = option_map_or (losses_of p h) p.demands.period []
