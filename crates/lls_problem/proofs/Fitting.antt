-- Demands that fit a file, by their tests.
use Rattle.std.proofs.Common.{◌≡◌, ◌<◌, ◌≤◌, ℕ, true, false, List, [], ◌∷◌, map, get_or, None, Some, Option, refl, sym, ap, ◌∙◌, arith}
use Rattle.std.specs.Prelude.{nat_le, nat_lt, if◌then◌else◌}
use Rattle.std.specs.List.{find, All}
use Rattle.std.specs.Option.{ForSome, option_map_or, option_or}
use Rattle.std.proofs.lemmas.Bool.{ltb-true, ltb-false, leb-false}
use Rattle.std.proofs.lemmas.List.{get_or-map, length-map}
use Rattle.std.proofs.lemmas.List.Folds.{find-append}
use Rattle.lls_search_file.specs.Posed.{PosedFile}
use Rattle.lls_problem.specs.declared.bounds.Bound.{Bound}
use Rattle.lls_problem.specs.declared.demands.Demands.{Demands}
use Rattle.lls_problem.specs.declared.demands.Period.{Period}
use Rattle.lls_problem.specs.Bounds.{most_counters, grid_size, top_end, crosses, all_counter_vars}
use Rattle.lls_problem.specs.Problem.{missing_generation, crossing, too_long, too_many}
use Rattle.lls_problem.proofs.Found.{none_found, nothing_mapped}

neither : {X : Type 0} (a b : Option X) → option_or a b ≡ None → (a ≡ None) × (b ≡ None)
neither None b none = (refl, none)
neither (Some x) b none = cc

-- the generations of bounds, and of two that have to differ
bounded : (generations : ℕ) (bounds : List Bound) → find (nat_le generations) (map (λ bound. bound.generation) bounds) ≡ None → All (λ bound. bound.generation < generations) bounds
bounded generations bounds none = λ k d inside.
    let fails : nat_le generations (get_or bounds k d).generation ≡ false =
    sym (ap (nat_le generations) (get_or-map (λ (bound : Bound). bound.generation) bounds k d 0 inside)) ∙ none_found (nat_le generations) (map (λ bound. bound.generation) bounds) none k 0 (omega (arith, length-map bounds (λ (bound : Bound). bound.generation))) in
    leb-false generations (get_or bounds k d).generation fails

pair_below : (generations : ℕ) (pair : ℕ × ℕ) → find (nat_le generations) (pair.0 ∷ pair.1 ∷ []) ≡ None → (pair.0 < generations) × (pair.1 < generations)
pair_below generations pair none = (
  leb-false generations pair.0 (none_found (nat_le generations) (pair.0 ∷ pair.1 ∷ []) none 0 0 (omega arith)),
  leb-false generations pair.1 (none_found (nat_le generations) (pair.0 ∷ pair.1 ∷ []) none 1 0 (omega arith)),
)

pub missing_generation-is : (posed : PosedFile) (demands : Demands) → missing_generation posed demands
    ≡ option_or (find (nat_le posed.generations) (map (λ bound. bound.generation) demands.bounds)) (find (nat_le posed.generations) (option_map_or (λ pair. pair.0 ∷ pair.1 ∷ []) demands.differ []))
missing_generation-is posed demands =
    find-append (nat_le posed.generations) (map (λ bound. bound.generation) demands.bounds) (option_map_or (λ pair. pair.0 ∷ pair.1 ∷ []) demands.differ [])

pub bounded-by_none : (posed : PosedFile) (demands : Demands) → None ≡ missing_generation posed demands → All (λ bound. bound.generation < posed.generations) demands.bounds
bounded-by_none posed demands none = bounded posed.generations demands.bounds (neither (find (nat_le posed.generations) (map (λ (bound : Bound). bound.generation) demands.bounds)) _ (sym (none ∙ missing_generation-is posed demands))).0

pub named-by_none : (posed : PosedFile) (demands : Demands) → None ≡ missing_generation posed demands → ForSome demands.differ (λ pair. (pair.0 < posed.generations) × (pair.1 < posed.generations))
named-by_none posed demands none = λ pair is.
    pair_below posed.generations pair
    (ap (λ o. find (nat_le posed.generations) (option_map_or (λ pair. pair.0 ∷ pair.1 ∷ []) o [])) (sym is) ∙ (neither _ _ (sym (none ∙ missing_generation-is posed demands))).1)

-- something is between the ends of each bound
pub ordered-by_none : (posed : PosedFile) (demands : Demands) → None ≡ crossing posed demands → All (λ bound. bound.low ≤ top_end (grid_size posed) bound) demands.bounds
ordered-by_none posed demands none = λ k d inside.
    ltb-false _ _ (none_found (crosses (grid_size posed)) demands.bounds (nothing_mapped _ _ (sym none)) k d inside)

-- the first generation that is missing: of the bounds, else of the two
pub missing_of_bounds : (posed : PosedFile) (demands : Demands) (generations t : ℕ) (bounds : List Bound) → generations ≡ posed.generations → bounds ≡ demands.bounds
    → Some t ≡ find (nat_le generations) (map (λ bound. bound.generation) bounds) → Some t ≡ missing_generation posed demands
missing_of_bounds posed demands generations t bounds same all found =
    let first : Some t ≡ find (nat_le posed.generations) (map (λ (bound : Bound). bound.generation) demands.bounds) =
    found ∙ ap (λ n. find (nat_le n) (map (λ (bound : Bound). bound.generation) bounds)) same ∙ ap (λ (bs : List Bound). find (nat_le posed.generations) (map (λ bound. bound.generation) bs)) all in
    ap (λ o. option_or o (find (nat_le posed.generations) (option_map_or (λ pair. pair.0 ∷ pair.1 ∷ []) demands.differ []))) first ∙ sym (missing_generation-is posed demands)

pub missing_behind_bounds : (posed : PosedFile) (demands : Demands) (generations : ℕ) (bounds : List Bound) (result : Option ℕ) → generations ≡ posed.generations → bounds ≡ demands.bounds
    → None ≡ find (nat_le generations) (map (λ bound. bound.generation) bounds) → result ≡ find (nat_le generations) (option_map_or (λ pair. pair.0 ∷ pair.1 ∷ []) demands.differ [])
    → result ≡ missing_generation posed demands
missing_behind_bounds posed demands generations bounds result same all none found =
    let first : None ≡ find (nat_le posed.generations) (map (λ (bound : Bound). bound.generation) demands.bounds) =
    none ∙ ap (λ n. find (nat_le n) (map (λ (bound : Bound). bound.generation) bounds)) same ∙ ap (λ (bs : List Bound). find (nat_le posed.generations) (map (λ bound. bound.generation) bs)) all in
    found ∙ ap (λ n. find (nat_le n) (option_map_or (λ pair. pair.0 ∷ pair.1 ∷ []) demands.differ [])) same
    ∙ ap (λ o. option_or o (find (nat_le posed.generations) (option_map_or (λ pair. pair.0 ∷ pair.1 ∷ []) demands.differ []))) first ∙ sym (missing_generation-is posed demands)

-- the period is shorter than the file, and the counters aren't too many
shorter : (generations : ℕ) (asked : Option Period) → option_map_or (λ period. if nat_lt period.length generations then None else Some period.length) asked None ≡ None
    → ForSome asked (λ period. period.length < generations)
shorter generations asked none = λ period is.
    let one : (if nat_lt period.length generations then None else Some period.length) ≡ None =
    sym (ap (λ o. option_map_or (λ period. if nat_lt period.length generations then None else Some period.length) o None) is) ∙ none in
    elim (nat_lt period.length generations) as (λ b. nat_lt period.length generations ≡ b → (if b then None else Some period.length) ≡ None → period.length < generations) [
      | true ↦ λ less here. ltb-true period.length generations less
      | false ↦ λ less here. cc
    ] refl one

pub shorter-by_none : (posed : PosedFile) (demands : Demands) → None ≡ too_long posed demands → ForSome demands.period (λ period. period.length < posed.generations)
shorter-by_none posed demands none = shorter posed.generations demands.period (sym none)

few : (most count : ℕ) → (if nat_lt most count then Some count else None) ≡ None → count ≤ most
few most count none =
    elim (nat_lt most count) as (λ b. nat_lt most count ≡ b → (if b then Some count else None) ≡ None → count ≤ most) [
      | true ↦ λ more here. cc
      | false ↦ λ more here. ltb-false most count more
    ] refl none

pub counters-by_none : (posed : PosedFile) (demands : Demands) → None ≡ too_many posed demands → all_counter_vars (grid_size posed) demands.bounds ≤ most_counters
counters-by_none posed demands none = few most_counters (all_counter_vars (grid_size posed) demands.bounds) (sym none)
