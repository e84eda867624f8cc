-- What of a history is lost a period later: the losses of a generation by their parts, and that none are where it returns.
use Rattle.std.proofs.Common.{◌≡◌, ℕ, ◌+◌, Bool, true, false, not, List, [], ◌∷◌, ◌++◌, map, None, Some, refl, sym, ap, ◌∙◌}
use Rattle.std.specs.List.{flat_map}
use Rattle.std.proofs.Math.Bool.{beq}
use Rattle.std.proofs.lemmas.Grind.{flat_map-append}
use Rattle.lls_rule.specs.Rule.{background}
use Rattle.lls_grid.specs.History.{History}
use Rattle.lls_symmetry.specs.declared.moved.Spot.{Spot}
use Rattle.lls_symmetry.specs.Moved.{all_leaving, all_entering}
use Rattle.lls_problem.specs.declared.demands.Period.{Period}
use Rattle.lls_problem.specs.declared.losses.Loss.TheVariants.{OfBackground, OfPlace}
use Rattle.lls_problem.specs.Problem.{PosedProblem}
use Rattle.lls_problem.specs.Firsts.{first}
use Rattle.lls_problem.specs.Unlike.{differ}
use Rattle.lls_problem.specs.Losses.{lost_of, course_of, lost_places, background_losses, losses_at}
use Rattle.lls_problem.proofs.FirstOf.{nothing_first, first_before, first_behind, none_where}

found_mapped : {X Y : Type 0} (f : X → Y) (xs : List X) (v : X) → Some v ≡ first xs → Some (f v) ≡ first (map f xs)
found_mapped f [] v found = cc
found_mapped f (x ∷ xs) v found = let same : v ≡ x = cc in ap (λ w. Some (f w)) same

none_mapped : {X Y : Type 0} (f : X → Y) (xs : List X) → None ≡ first xs → None ≡ first (map f xs)
none_mapped f [] none = refl
none_mapped f (x ∷ xs) none = cc

-- the background of generation t returns
abbrev pub BackgroundKept : PosedProblem → Period → ℕ → Type 0
BackgroundKept p period t = differ (background p.rule t) (background p.rule (t + period.length)) ≡ false

-- the lost places of generation t: cells of the grid, and then places outside it
abbrev pub lost_leaving : PosedProblem → History → Period → ℕ → List Spot
lost_leaving p h period t = flat_map (lost_of p.rule h) (all_leaving (course_of period t) p.posed.height p.posed.width)

abbrev pub lost_entering : PosedProblem → History → Period → ℕ → List Spot
lost_entering p h period t = flat_map (lost_of p.rule h) (all_entering (course_of period t) p.posed.height p.posed.width)

lost_places-parts : (p : PosedProblem) (h : History) (period : Period) (t : ℕ) → lost_leaving p h period t ++ lost_entering p h period t ≡ lost_places p h period t
lost_places-parts p h period t =
    sym (flat_map-append (lost_of p.rule h) (all_leaving (course_of period t) p.posed.height p.posed.width) (all_entering (course_of period t) p.posed.height p.posed.width))

losses_at-places : (p : PosedProblem) (h : History) (period : Period) (t : ℕ) → BackgroundKept p period t → first (losses_at p h period t) ≡ first (map OfPlace (lost_places p h period t))
losses_at-places p h period t kept =
    first_behind (background_losses p period t) (map OfPlace (lost_places p h period t)) (nothing_first _ (none_where _ (OfBackground t) kept))

-- the first loss is the first lost place of the grid, or else the first outside it, or there is none
pub lost_from_grid : (p : PosedProblem) (h : History) (period : Period) (t : ℕ) (place : Spot) → BackgroundKept p period t → Some place ≡ first (lost_leaving p h period t)
    → Some (OfPlace place) ≡ first (losses_at p h period t)
lost_from_grid p h period t place kept found =
    found_mapped OfPlace (lost_places p h period t) place
    (first_before (lost_leaving p h period t) (lost_entering p h period t) place found ∙ ap first (lost_places-parts p h period t))
    ∙ sym (losses_at-places p h period t kept)

pub lost_from_outside : (p : PosedProblem) (h : History) (period : Period) (t : ℕ) (place : Spot) → BackgroundKept p period t → None ≡ first (lost_leaving p h period t)
    → Some place ≡ first (lost_entering p h period t) → Some (OfPlace place) ≡ first (losses_at p h period t)
lost_from_outside p h period t place kept none found =
    found_mapped OfPlace (lost_places p h period t) place
    (found ∙ sym (first_behind (lost_leaving p h period t) (lost_entering p h period t) (nothing_first _ none)) ∙ ap first (lost_places-parts p h period t))
    ∙ sym (losses_at-places p h period t kept)

pub nothing_lost : (p : PosedProblem) (h : History) (period : Period) (t : ℕ) → BackgroundKept p period t → None ≡ first (lost_leaving p h period t)
    → None ≡ first (lost_entering p h period t) → None ≡ first (losses_at p h period t)
nothing_lost p h period t kept none none' =
    none_mapped OfPlace (lost_places p h period t)
    (none' ∙ sym (first_behind (lost_leaving p h period t) (lost_entering p h period t) (nothing_first _ none)) ∙ ap first (lost_places-parts p h period t))
    ∙ sym (losses_at-places p h period t kept)

-- two values differ where the code's test says so
pub differ-by_test : (a b test : Bool) → not (beq a b) ≡ test → differ a b ≡ test
differ-by_test true true test is = is
differ-by_test true false test is = is
differ-by_test false true test is = is
differ-by_test false false test is = is
