-- A history returns exactly where nothing of it is lost.
use Rattle.std.proofs.Common.{◌≡◌, ◌<◌, ℕ, ◌+◌, ◌-◌, Bool, List, [], ◌∷◌, ◌++◌, map, Option, None, Some, refl, sym, ap, ◌∙◌, arith}
use Rattle.std.specs.List.{AllByRecursion as Each, flat_map}
use Rattle.std.specs.Option.{option_map_or}
use Rattle.lls_rule.specs.Rule.{background}
use Rattle.lls_grid.specs.History.{History, at}
use Rattle.lls_symmetry.specs.declared.moved.Moved.{Moved}
use Rattle.lls_symmetry.specs.Moved.{generation_moved, IsMoved, IsMovedPair}
use Rattle.lls_symmetry.proofs.Shifted.{IsMoved-by_generations, back_by_moved, pairs_moved}
use Rattle.lls_problem.specs.declared.demands.Period.{Period}
use Rattle.lls_problem.specs.declared.losses.Loss.TheVariants.{OfBackground, OfPlace}
use Rattle.lls_problem.specs.Problem.{PosedProblem, AreFitting}
use Rattle.lls_problem.specs.Solution.{Returns}
use Rattle.lls_problem.specs.Judgement.{HasItsSizes}
use Rattle.lls_problem.specs.Losses.{is_lost, lost_of, course_of, lost_places, background_losses, losses_at, losses_of, losses}
use Rattle.lls_problem.proofs.FirstOf.{both_empty, empty_in_range, empty_range, empty_where, false_where_empty}
use Rattle.lls_problem.proofs.Outside.{at_outside}
use Rattle.lls_problem.proofs.Symmetric.{same_by_differ, differ-same}

-- of a list of pairs
pub pairs_by_lost : (rule : List Bool) (h : History) (pairs : List Moved) → flat_map (lost_of rule h) pairs ≡ [] → Each (IsMovedPair (at rule h)) pairs
pairs_by_lost rule h [] none = tt
pairs_by_lost rule h (pair ∷ pairs) none =
    let both = both_empty (lost_of rule h pair) (flat_map (lost_of rule h) pairs) none in
    (same_by_differ _ _ (false_where_empty (is_lost rule h pair) pair.early both.0), pairs_by_lost rule h pairs both.1)

pub lost_by_pairs : (rule : List Bool) (h : History) (pairs : List Moved) → Each (IsMovedPair (at rule h)) pairs → flat_map (lost_of rule h) pairs ≡ []
lost_by_pairs rule h [] each = refl
lost_by_pairs rule h (pair ∷ pairs) each =
    ap (λ spots. spots ++ flat_map (lost_of rule h) pairs) (empty_where (is_lost rule h pair) pair.early (differ-same _ _ each.0)) ∙ lost_by_pairs rule h pairs each.1

pub empty_mapped : {X Y : Type 0} (f : X → Y) (xs : List X) → map f xs ≡ [] → xs ≡ []
empty_mapped f [] none = refl
empty_mapped f (x ∷ xs) none = cc

-- of a generation
IsMoved-by_losses : (p : PosedProblem) (h : History) (period : Period) → HasItsSizes p h → losses_of p h period ≡ []
    → IsMoved p.posed.generations period.length period.dx period.dy (at p.rule h)
IsMoved-by_losses p h period sizes none =
    IsMoved-by_generations p.posed.generations p.posed.height p.posed.width period.length period.dx period.dy (at p.rule h) (background p.rule) (at_outside p h sizes)
    (λ t later. same_by_differ _ _ (false_where_empty _ (OfBackground t) (parts t later).0))
    (λ t later. pairs_by_lost p.rule h (generation_moved p.posed.height p.posed.width (course_of period t)) (empty_mapped OfPlace (lost_places p h period t) (parts t later).1))
  where
    parts : (t : ℕ) → t + period.length < p.posed.generations → (background_losses p period t ≡ []) × (map OfPlace (lost_places p h period t) ≡ [])
    parts t later =
        both_empty (background_losses p period t) (map OfPlace (lost_places p h period t))
        (empty_in_range (losses_at p h period) (p.posed.generations - period.length) t none (omega arith))

losses_of-moved : (p : PosedProblem) (h : History) (period : Period) → HasItsSizes p h → AreFitting p.posed p.demands → p.demands.period ≡ Some period
    → IsMoved p.posed.generations period.length period.dx period.dy (at p.rule h) → losses_of p h period ≡ []
losses_of-moved p h period sizes fitting asked moved =
    empty_range (losses_at p h period) (p.posed.generations - period.length) (λ t below.
    let later : t + period.length < p.posed.generations = omega arith in
    let back = back_by_moved p.posed.generations p.posed.height p.posed.width period.length period.dx period.dy (at p.rule h) (background p.rule) (fitting.period period asked).rows (at_outside p h sizes) moved t later in
    let pairs = pairs_moved p.posed.generations p.posed.height p.posed.width period.length t period.dx period.dy (at p.rule h) moved later in
    ap (λ spots. background_losses p period t ++ map OfPlace spots) (lost_by_pairs p.rule h (generation_moved p.posed.height p.posed.width (course_of period t)) pairs)
    ∙ ap (λ list. list ++ []) (empty_where _ (OfBackground t) (differ-same _ _ back)))

-- of the period that is asked
pub Returns-by_losses : (p : PosedProblem) (h : History) → HasItsSizes p h → losses p h ≡ [] → Returns p h
Returns-by_losses p h sizes none = λ period asked.
    IsMoved-by_losses p h period sizes (ap (λ period. option_map_or (losses_of p h) period []) (sym asked) ∙ none)

losses_by_period : (p : PosedProblem) (h : History) → HasItsSizes p h → AreFitting p.posed p.demands → Returns p h → (asked : Option Period) → p.demands.period ≡ asked
    → option_map_or (losses_of p h) asked [] ≡ []
losses_by_period p h sizes fitting returns None is = refl
losses_by_period p h sizes fitting returns (Some period) is = losses_of-moved p h period sizes fitting is (returns period is)

pub losses-returned : (p : PosedProblem) (h : History) → HasItsSizes p h → AreFitting p.posed p.demands → Returns p h → losses p h ≡ []
losses-returned p h sizes fitting returns = losses_by_period p h sizes fitting returns p.demands.period refl
