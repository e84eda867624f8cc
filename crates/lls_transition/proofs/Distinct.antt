-- Clauses without those that stood before say what all of them say.
use Rattle.std.proofs.Common.{◌≡◌, ℕ, ◌+◌, ◌-◌, ◌<◌, ◌≤◌, List, [], ◌∷◌, ◌++◌, Bool, true, false, cond, ◌||◌, ◌&&◌, take, drop, length, get_or, fold, None, Some, refl, ap, ap₂, ◌∙◌, sym, subst, inl, inr, true≢false, slice_get, length-append, length-take-le, take-append-drop, append_assoc, arith}
use Rattle.std.specs.List.{list_any}
use Rattle.std.specs.Ordering.{int_eq}
use Rattle.std.specs.Cmp.Lexicographic.{pointwise}
use Rattle.std.proofs.Math.Bool.{and_assoc, and-true}
use Rattle.std.proofs.Math.Seq.{drop-append_seam}
use Rattle.std.proofs.lemmas.Bool.{and_parts, or_cases}
use Rattle.std.proofs.lemmas.Bool.Decides.{Decides-int_eq}
use Rattle.std.proofs.lemmas.Slice.Eq.{slice_eq-Decides}
use Rattle.std.proofs.lemmas.Option.{get_or_from_slice_get}
use Rattle.std.proofs.lemmas.List.{length_push, length-drop, get_or-drop, take_more}
use Rattle.std.proofs.lemmas.List.Elements.{filter_map-append}
use Rattle.std.proofs.lemmas.List.Folds.{list_all-append, list_any_at, list_any_more}
use Rattle.std.proofs.lemmas.List.Sums.{fold-append}
use Rattle.lls_lit.specs.Formula.{Clause, Cnf, satisfies, satisfies_clause}
use Rattle.lls_cube.specs.declared.cube.Cube.{Cube}
use Rattle.lls_transition.specs.declared.place.Place.{Place}
use Rattle.lls_transition.specs.Clause.{with_clauses, with_new, distinct, cube_clause, cube_clauses}
use Rattle.lls_transition.proofs.Pushed.{take-with_clauses, length-cube_clauses}

same_clause : (a b : Clause) → pointwise int_eq a b ≡ true → a ≡ b
same_clause a b e = (slice_eq-Decides Decides-int_eq a b (pointwise int_eq a b) refl).0 e

-- a clause that stands among others is satisfied with them
stands : (values : List Bool) (clause : Clause) (kept : List Clause) → list_any (pointwise int_eq clause) kept ≡ true → satisfies values kept ≡ true → satisfies_clause values clause ≡ true
stands values clause [] among all = absurd (true≢false (sym among))
stands values clause (other ∷ kept) among all =
    let both = and_parts (satisfies_clause values other) (satisfies values kept) all in
    elim (or_cases (pointwise int_eq clause other) (list_any (pointwise int_eq clause) kept) among) [
      | inl here ↦ subst (λ (c : Clause). satisfies_clause values c ≡ true) (sym (same_clause clause other here)) both.0
      | inr later ↦ stands values clause kept later both.1
    ]

implied : (a b : Bool) → (a ≡ true → b ≡ true) → a ≡ (a && b)
implied true b h = sym (h refl)
implied false b h = refl

satisfies-with_new : (values : List Bool) (kept : List Clause) (clause : Clause) (among : Bool) → list_any (pointwise int_eq clause) kept ≡ among
    → satisfies values (cond among kept (kept ++ clause ∷ [])) ≡ (satisfies values kept && satisfies_clause values clause)
satisfies-with_new values kept clause true e = implied (satisfies values kept) (satisfies_clause values clause) (stands values clause kept e)
satisfies-with_new values kept clause false e =
    list_all-append (satisfies_clause values) kept (clause ∷ []) ∙ ap (λ b. satisfies values kept && b) (and-true (satisfies_clause values clause))

satisfies-fold : (values : List Bool) (kept clauses : List Clause) → satisfies values (fold with_new kept clauses) ≡ (satisfies values kept && satisfies values clauses)
satisfies-fold values kept [] = sym (and-true (satisfies values kept))
satisfies-fold values kept (clause ∷ clauses) =
    satisfies-fold values (with_new kept clause) clauses
    ∙ ap (λ b. b && satisfies values clauses) (satisfies-with_new values kept clause (list_any (pointwise int_eq clause) kept) refl)
    ∙ and_assoc (satisfies values kept) (satisfies_clause values clause) (satisfies values clauses)

pub satisfies-distinct : (values : List Bool) (clauses : List Clause) → satisfies values (distinct clauses) ≡ satisfies values clauses
satisfies-distinct values clauses = satisfies-fold values [] clauses

length-with_new : (kept : List Clause) (clause : Clause) (among : Bool) → length (cond among kept (kept ++ clause ∷ [])) ≤ length kept + 1
length-with_new kept clause true = omega arith
length-with_new kept clause false = omega (arith, length_push kept clause)

length-fold : (kept clauses : List Clause) → length (fold with_new kept clauses) ≤ length kept + length clauses
length-fold kept [] = omega arith
length-fold kept (clause ∷ clauses) =
    omega (arith, length-fold (with_new kept clause) clauses, length-with_new kept clause (list_any (pointwise int_eq clause) kept))

pub length-distinct : (clauses : List Clause) → length (distinct clauses) ≤ length clauses
length-distinct clauses = omega (arith, length-fold [] clauses)

-- a clause that doesn't stand among those behind a place goes behind them all
pub pushed_new : (formula : Cnf) (first : ℕ) (lits : Clause) → list_any (pointwise int_eq lits) (drop first formula.clauses) ≡ false
    → record formula { clauses = formula.clauses ++ lits ∷ [] } ≡ record formula { clauses = take first formula.clauses ++ with_new (drop first formula.clauses) lits }
pushed_new formula first lits none =
    let front : List Clause = take first formula.clauses in
    let back : List Clause = drop first formula.clauses in
    ap (λ (all : List Clause). record formula { clauses = all })
    (ap (λ all. all ++ lits ∷ []) (sym (take-append-drop first formula.clauses))
    ∙ append_assoc front back (lits ∷ [])
    ∙ ap (λ b. front ++ cond b back (back ++ lits ∷ [])) (sym none))

-- the walk over a formula's clauses
pub found_at : (clauses : List Clause) (first k : ℕ) (lits clause : Clause) → first ≤ k → k < length clauses → slice_get clauses k ≡ Some clause → pointwise int_eq lits clause ≡ true
    → true ≡ list_any (pointwise int_eq lits) (drop first clauses)
found_at clauses first k lits clause low high at same =
    sym (list_any_at (pointwise int_eq lits) (drop first clauses) (k - first) [] (omega (arith, low, high, length-drop first clauses))
    (ap (pointwise int_eq lits) (get_or-drop first clauses (k - first) [] ∙ ap (λ i. get_or clauses i []) (omega (arith, low)) ∙ get_or_from_slice_get clauses k clause [] at) ∙ same))

pub passed_at : (clauses : List Clause) (first k : ℕ) (lits clause : Clause) → first ≤ k → k < length clauses → slice_get clauses k ≡ Some clause → pointwise int_eq lits clause ≡ false
    → list_any (pointwise int_eq lits) (take (k - first) (drop first clauses)) ≡ false → list_any (pointwise int_eq lits) (take (k + 1 - first) (drop first clauses)) ≡ false
passed_at clauses first k lits clause low high at other none =
    ap (λ n. list_any (pointwise int_eq lits) (take n (drop first clauses))) (plus_one k first low)
    ∙ list_any_more (pointwise int_eq lits) (drop first clauses) (k - first) [] (omega (arith, low, high, length-drop first clauses))
    ∙ ap₂ (λ a b. a || b) none
    (ap (pointwise int_eq lits) (get_or-drop first clauses (k - first) [] ∙ ap (λ i. get_or clauses i []) (omega (arith, low)) ∙ get_or_from_slice_get clauses k clause [] at) ∙ other)
  where
    plus_one : (k first : ℕ) → first ≤ k → k + 1 - first ≡ k - first + 1
    plus_one k first low = omega (arith, low)

-- one cube more
distinct-more : (inputs : List Place) (cubes : List Cube) (i : ℕ) (cube d : Cube) → i < length cubes → cube ≡ get_or cubes i d
    → distinct (cube_clauses inputs (take (i + 1) cubes)) ≡ fold with_new (distinct (cube_clauses inputs (take i cubes))) (cube_clauses inputs (cube ∷ []))
distinct-more inputs cubes i cube d inside is =
    ap (λ more. distinct (cube_clauses inputs more)) (take_more cubes i d inside ∙ ap (λ c. take i cubes ++ c ∷ []) (sym is))
    ∙ ap distinct (filter_map-append (cube_clause inputs) (take i cubes) (cube ∷ []))
    ∙ fold-append with_new [] (cube_clauses inputs (take i cubes)) (cube_clauses inputs (cube ∷ []))

of_none : (inputs : List Place) (cube : Cube) → cube_clause inputs cube ≡ None → cube_clauses inputs (cube ∷ []) ≡ []
of_none inputs cube none = rw none refl

of_some : (inputs : List Place) (cube : Cube) (clause : Clause) → cube_clause inputs cube ≡ Some clause → cube_clauses inputs (cube ∷ []) ≡ clause ∷ []
of_some inputs cube clause some = rw some refl

pub none_more : (formula now : Cnf) (inputs : List Place) (cubes : List Cube) (i : ℕ) (cube d : Cube) → i < length cubes → cube ≡ get_or cubes i d → cube_clause inputs cube ≡ None
    → now ≡ with_clauses formula (distinct (cube_clauses inputs (take i cubes))) → now ≡ with_clauses formula (distinct (cube_clauses inputs (take (i + 1) cubes)))
none_more formula now inputs cubes i cube d inside is none so_far =
    so_far ∙ ap (with_clauses formula)
    (sym (distinct-more inputs cubes i cube d inside is ∙ ap (fold with_new (distinct (cube_clauses inputs (take i cubes)))) (of_none inputs cube none)))

pub some_more : (formula now next : Cnf) (inputs : List Place) (cubes : List Cube) (i first : ℕ) (cube d : Cube) (lits : Clause) → i < length cubes → cube ≡ get_or cubes i d → cube_clause inputs cube ≡ Some lits
    → first ≡ length formula.clauses → now ≡ with_clauses formula (distinct (cube_clauses inputs (take i cubes))) → next ≡ record now { clauses = take first now.clauses ++ with_new (drop first now.clauses) lits }
    → next ≡ with_clauses formula (distinct (cube_clauses inputs (take (i + 1) cubes)))
some_more formula now next inputs cubes i first cube d lits inside is some at so_far step =
    let kept : List Clause = distinct (cube_clauses inputs (take i cubes)) in
    step
    ∙ ap (λ (n : ℕ). record now { clauses = take n now.clauses ++ with_new (drop n now.clauses) lits }) at
    ∙ ap₂ (λ (front : List Clause) (back : List Clause). record now { clauses = front ++ with_new back lits })
    (take-with_clauses formula now kept so_far) (ap (λ f. drop (length formula.clauses) f.clauses) so_far ∙ drop-append_seam formula.clauses kept)
    ∙ ap (λ (f : Cnf). record f { clauses = formula.clauses ++ with_new kept lits }) so_far
    ∙ ap (with_clauses formula)
    (sym (distinct-more inputs cubes i cube d inside is ∙ ap (fold with_new kept) (of_some inputs cube lits some)))

pub room_left : (formula now : Cnf) (inputs : List Place) (cubes : List Cube) (i most : ℕ) → now ≡ with_clauses formula (distinct (cube_clauses inputs (take i cubes))) → i < length cubes
    → length formula.clauses + length cubes ≤ most → (length now.clauses < most) × (length formula.clauses ≤ length now.clauses)
room_left formula now inputs cubes i most so_far inside room =
    let count : length now.clauses ≡ length formula.clauses + length (distinct (cube_clauses inputs (take i cubes))) =
    ap (λ f. length f.clauses) so_far ∙ length-append formula.clauses (distinct (cube_clauses inputs (take i cubes))) in
    let few = length-fold [] (cube_clauses inputs (take i cubes)) in
    let fewer = length-cube_clauses inputs (take i cubes) in
    let taken : length (take i cubes) ≡ i = length-take-le i cubes (omega (arith, inside)) in
    (omega (arith, count, few, fewer, taken, inside, room), omega (arith, count))
