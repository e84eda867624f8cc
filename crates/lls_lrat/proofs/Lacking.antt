-- The first clause among stored ones that passes a test, as a loop looks for it.
use Rattle.std.proofs.Common.{◌≡◌, ℕ, ◌+◌, ◌≤◌, Bool, true, false, cond, ◌∷◌, ◌++◌, length, drop, Option, Some, None, refl, ap, ◌∙◌}
use Rattle.std.specs.Prelude.{find, slice_get}
use Rattle.std.specs.Option.{option_map, option_or}
use Rattle.std.proofs.lemmas.List.{drop_more, drop_all}
use Rattle.std.proofs.lemmas.List.Folds.{find-append}
use Rattle.std.proofs.lemmas.Option.{get_or_from_slice_get, slice_get_within}
use Rattle.lls_lit.specs.Formula.{Clause}
use Rattle.lls_prooflog.specs.UnitWalk.{Live}
use Rattle.lls_lrat.specs.Stored.{is_at, kept}

module _ (test : ℕ × Clause → Bool) (place_of : ℕ → Option ℕ) (all : Live) (place : ℕ) where
  -- none of the clauses before the place is the first
  abbrev pub FirstFrom : Type 0
  FirstFrom = find test (kept place_of 0 all) ≡ find test (kept place_of place (drop place all))

  pub none_left : FirstFrom → length all ≤ place → find test (kept place_of 0 all) ≡ None
  none_left e le = e ∙ ap (λ rest. find test (kept place_of place rest)) (drop_all place all le)

  module _ (pair : ℕ × Clause) (at : slice_get all place ≡ Some pair) where
    rest_is : drop place all ≡ pair ∷ drop (place + 1) all
    rest_is = drop_more all place pair (slice_get_within all place pair at) ∙ ap (λ (p : ℕ × Clause). p ∷ drop (place + 1) all) (get_or_from_slice_get all place pair pair at)

    from_here : FirstFrom → (live : Bool) → is_at (place_of pair.0) place ≡ live → find test (kept place_of 0 all) ≡ find test (cond live (pair ∷ kept place_of (place + 1) (drop (place + 1) all)) (kept place_of (place + 1) (drop (place + 1) all)))
    from_here e live is = e ∙ ap (λ rest. find test (kept place_of place rest)) rest_is ∙ ap (λ b. find test (cond b (pair ∷ kept place_of (place + 1) (drop (place + 1) all)) (kept place_of (place + 1) (drop (place + 1) all)))) is

    pub first_here : FirstFrom → is_at (place_of pair.0) place ≡ true → test pair ≡ true → find test (kept place_of 0 all) ≡ Some pair
    first_here e live passes = from_here e true live ∙ ap (λ b. cond b (Some pair) (find test (kept place_of (place + 1) (drop (place + 1) all)))) passes

    pub not_dead : FirstFrom → is_at (place_of pair.0) place ≡ false → find test (kept place_of 0 all) ≡ find test (kept place_of (place + 1) (drop (place + 1) all))
    not_dead e dead = from_here e false dead

    pub not_passing : FirstFrom → is_at (place_of pair.0) place ≡ true → test pair ≡ false → find test (kept place_of 0 all) ≡ find test (kept place_of (place + 1) (drop (place + 1) all))
    not_passing e live fails = from_here e true live ∙ ap (λ b. cond b (Some pair) (find test (kept place_of (place + 1) (drop (place + 1) all)))) fails

-- the first of two lists
pub first-append_some : (test : ℕ × Clause → Bool) (front back : Live) (id : ℕ) → option_map (λ (pair : ℕ × Clause). pair.0) (find test front) ≡ Some id → option_map (λ (pair : ℕ × Clause). pair.0) (find test (front ++ back)) ≡ Some id
first-append_some test front back id e = ap (option_map (λ (pair : ℕ × Clause). pair.0)) (find-append test front back) ∙ by_found (find test front) e where
  by_found : (o : Option (ℕ × Clause)) → option_map (λ pair. pair.0) o ≡ Some id → option_map (λ pair. pair.0) (option_or o (find test back)) ≡ Some id
  by_found None h = absurd cc
  by_found (Some pair) h = h

pub first-append_none : (test : ℕ × Clause → Bool) (front back : Live) → option_map (λ (pair : ℕ × Clause). pair.0) (find test front) ≡ None → option_map (λ (pair : ℕ × Clause). pair.0) (find test (front ++ back)) ≡ option_map (λ (pair : ℕ × Clause). pair.0) (find test back)
first-append_none test front back e = ap (option_map (λ (pair : ℕ × Clause). pair.0)) (find-append test front back) ∙ by_found (find test front) e where
  by_found : (o : Option (ℕ × Clause)) → option_map (λ pair. pair.0) o ≡ None → option_map (λ pair. pair.0) (option_or o (find test back)) ≡ option_map (λ pair. pair.0) (find test back)
  by_found None h = refl
  by_found (Some pair) h = absurd cc
