-- The bounds on live cells: what their tests say, and what the first says that isn't kept.
use Rattle.std.proofs.Common.{◌≡◌, ◌<◌, ◌≤◌, ℕ, ◌+◌, Bool, true, false, List, length, get_or, take, None, Some, Option, refl, sym, ap, ◌∙◌}
use Rattle.std.specs.Prelude.{nat_lt}
use Rattle.std.specs.List.{find}
use Rattle.std.specs.Option.{option_map, option_map_or, ForSome}
use Rattle.std.proofs.lemmas.Bool.{ltb-false, le-ltb, or_from, or_parts}
use Rattle.lls_grid.specs.History.{History}
use Rattle.lls_grid.specs.Changes.{population}
use Rattle.lls_problem.specs.declared.bounds.Bound.{Bound}
use Rattle.lls_problem.specs.declared.population.Count.{Count}
use Rattle.lls_problem.specs.Bounds.{Allows, excludes}
use Rattle.lls_problem.specs.Outside.{count_for, first_outside}
use Rattle.lls_problem.specs.Problem.{PosedProblem}
use Rattle.lls_problem.specs.Solution.{IsPopulated}
use Rattle.lls_problem.proofs.Found.{found_at, found_none_more, none_found, nothing_found, nothing_mapped}

within_high : (asked : Option ℕ) (live : ℕ) → option_map_or (λ high. nat_lt high live) asked false ≡ false → ForSome asked (λ high. live ≤ high)
within_high asked live kept = λ high is. ltb-false high live (sym (ap (λ o. option_map_or (λ high. nat_lt high live) o false) is) ∙ kept)

not_above : (asked : Option ℕ) (live : ℕ) → ForSome asked (λ high. live ≤ high) → option_map_or (λ high. nat_lt high live) asked false ≡ false
not_above None live kept = refl
not_above (Some high) live kept = le-ltb high live (kept high refl)

-- the test says what the definition says
allowed : (bound : Bound) (live : ℕ) → excludes bound live ≡ false → Allows bound live
allowed bound live kept =
    let parts = or_parts _ _ kept in
    record { low = ltb-false live bound.low parts.0; high = within_high bound.high live parts.1 }

not_excluded : (bound : Bound) (live : ℕ) → Allows bound live → excludes bound live ≡ false
not_excluded bound live allows = or_from _ _ (le-ltb live bound.low allows.low) (not_above bound.high live allows.high)

abbrev test_of : History → Bound → Bool
test_of h bound = excludes bound (population h bound.generation)

pub IsPopulated-by_none : (p : PosedProblem) (h : History) → None ≡ first_outside p h → IsPopulated p h
IsPopulated-by_none p h none = λ k d inside.
    let found = nothing_mapped (count_for h) (find (test_of h) p.demands.bounds) (sym none) in
    let bound = get_or p.demands.bounds k d in
    allowed bound (population h bound.generation) (none_found (test_of h) p.demands.bounds found k d inside)

pub first_outside-populated : (p : PosedProblem) (h : History) (count : Count) → first_outside p h ≡ Some count → IsPopulated p h → ⊥
first_outside-populated p h count found populated =
    let none : find (test_of h) p.demands.bounds ≡ None = nothing_found (test_of h) p.demands.bounds (λ k d inside.
    let bound = get_or p.demands.bounds k d in not_excluded bound (population h bound.generation) (populated k d inside)) in
    let missing : None ≡ Some count = ap (option_map (count_for h)) (sym none) ∙ found in
    cc

-- a loop over bounds: the first that isn't kept, or one more that is
pub outside_found : (p : PosedProblem) (h : History) (bounds : List Bound) (k live : ℕ) (d : Bound) → bounds ≡ p.demands.bounds → find (test_of h) (take k bounds) ≡ None → k < length bounds
    → live ≡ population h (get_or bounds k d).generation → excludes (get_or bounds k d) live ≡ true → Some (record { t = (get_or bounds k d).generation; live = live }) ≡ first_outside p h
outside_found p h bounds k live d all none inside count outside =
    let bound : Bound = get_or bounds k d in
    let found : find (test_of h) p.demands.bounds ≡ Some bound =
    sym (ap (find (test_of h)) all) ∙ found_at (test_of h) bounds k d none inside (sym (ap (excludes bound) count) ∙ outside) in
    ap (λ n. Some (record { t = bound.generation; live = n })) count ∙ sym (ap (option_map (count_for h)) found)

pub outside_later : (h : History) (bounds : List Bound) (k live : ℕ) (d : Bound) → find (test_of h) (take k bounds) ≡ None → k < length bounds
    → live ≡ population h (get_or bounds k d).generation → excludes (get_or bounds k d) live ≡ false → find (test_of h) (take (k + 1) bounds) ≡ None
outside_later h bounds k live d none inside count kept =
    found_none_more (test_of h) bounds k d none inside (sym (ap (excludes (get_or bounds k d)) count) ∙ kept)
