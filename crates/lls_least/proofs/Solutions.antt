-- The solutions of a problem with one more bound on generation 0 are those that keep it, and the one beyond a solution has those beyond it.
use Rattle.std.proofs.Common.{zero, suc, refl, subst, ◌≡◌, ◌<◌, ◌≤◌, ◌-◌, ℕ, inl, inr, length, None, Some, sym, ap, ◌∙◌, arith}
use Rattle.std.specs.Option.{option_map}
use Rattle.std.specs.Prelude.{All, Bool, true, List, Option, ◌==◌, ◌*◌, count_by, ◌⊎◌, if◌then◌else◌}
use Rattle.std.specs.List.{list_all}
use Rattle.std.proofs.lemmas.Bool.{and_parts, cases_lt, eqb-true, le-ltb, lt-ltb}
use Rattle.std.proofs.lemmas.List.Elements.{All-pop, All-push}
use Rattle.std.proofs.lemmas.List.Sums.{count_by-le-length}
use Rattle.lls_grid.specs.History.{History, cells_of_rows, rows_at}
use Rattle.lls_grid.specs.Changes.{population}
use Rattle.lls_grid.proofs.InOrder.{length-flat_map_even, shape_at}
use Rattle.lls_problem.specs.declared.bounds.Bound.{Bound}
use Rattle.lls_problem.specs.declared.demands.Demands.{Demands}
use Rattle.lls_problem.specs.Bounds.{Allows, grid_size}
use Rattle.lls_problem.specs.Problem.{PosedProblem}
use Rattle.lls_problem.specs.Solution.{Differs, IsSolution, IsAbsent}
use Rattle.lls_least.specs.declared.extreme.Extreme.{Extreme}
use Rattle.lls_least.specs.declared.extreme.Extreme.TheVariants as extremes
use Rattle.lls_least.specs.Bounded.{at_least, beyond, bounded, live_cells, problem_beyond}
use Rattle.lls_least.specs.Extremal.{IsExtreme, NotBeyond, beyond_it}
use Rattle.lls_least.proofs.Made.{no-bound, some-same}

abbrev IsKept : History → Bound → Type 0
IsKept h bound = Allows bound (population h bound.generation)

-- where two generations differ isn't said by the bounds
differs_alike : (p : PosedProblem) (demands : Demands) (h : History) → p.demands.differ ≡ demands.differ → Differs p h → Differs (record p { demands = demands }) h
differs_alike p demands h same differs = λ pair is.
    let place = differs pair (same ∙ is) in
    let cell = place.1.1 in
    (place.0, (place.1.0, record { row = cell.row; column = cell.column; differs = cell.differs }))

bounds_kept : (p : PosedProblem) (bound : Bound) (h : History) → IsSolution (bounded p bound) h → All (IsKept h) p.demands.bounds × IsKept h bound
bounds_kept p bound h solution = All-pop (IsKept h) (bounded p bound).demands.bounds p.demands.bounds (Some bound) refl solution.populated

pub solution-bounded : (p : PosedProblem) (bound : Bound) (h : History) → IsSolution (bounded p bound) h → IsSolution p h
solution-bounded p bound h solution = record {
  sizes = solution.sizes;
  cells = solution.cells;
  symmetric = solution.symmetric;
  moved = solution.moved;
  rule = solution.rule;
  populated = (bounds_kept p bound h solution).0;
  differ = differs_alike (bounded p bound) p.demands h refl solution.differ;
  exact = solution.exact;
  unlisted = solution.unlisted;
}

pub bounded-solution : (p : PosedProblem) (bound : Bound) (h : History) → IsSolution p h → IsKept h bound → IsSolution (bounded p bound) h
bounded-solution p bound h solution kept = record {
  sizes = solution.sizes;
  cells = solution.cells;
  symmetric = solution.symmetric;
  moved = solution.moved;
  rule = solution.rule;
  populated = All-push (IsKept h) p.demands.bounds bound solution.populated kept;
  differ = differs_alike p (bounded p bound).demands h refl solution.differ;
  exact = solution.exact;
  unlisted = solution.unlisted;
}

-- a solution has no more live cells than its generation has cells
pub live_cells-le : (p : PosedProblem) (h : History) → 0 < p.posed.generations → IsSolution p h → live_cells h ≤ grid_size p.posed
live_cells-le p h some solution = omega (arith, few, count) where
  rows : List (List Bool)
  rows = rows_at h 0

  parts : (length rows == p.posed.height ≡ true) × (list_all (λ row. length row == p.posed.width) rows ≡ true)
  parts = and_parts _ _ (shape_at p.posed.height p.posed.width h 0 solution.sizes.1 (omega (arith, some, solution.sizes.0)))

  count : length (cells_of_rows rows) ≡ p.posed.width * p.posed.height
  count = length-flat_map_even (λ row. row) (λ row. length row == p.posed.width) p.posed.width (λ row same. eqb-true (length row) p.posed.width same) rows parts.1
      ∙ ap (λ n. p.posed.width * n) (eqb-true (length rows) p.posed.height parts.0)

  few : count_by (λ live. live) (cells_of_rows rows) ≤ length (cells_of_rows rows)
  few = count_by-le-length (λ live. live) (cells_of_rows rows)

-- how many numbers of live cells lie beyond n
abbrev pub numbers_beyond : Extreme → ℕ → ℕ → ℕ
numbers_beyond extremes.Fewest size n = n
numbers_beyond extremes.Most size n = size - n

-- the bound that asks for more, by whether there is room for them
bound_where_room : (size n : ℕ) → n < size → beyond extremes.Most size n ≡ Some (at_least (suc n))
bound_where_room size n room = ap (λ b. if b then Some (at_least (suc n)) else None) (lt-ltb n size room)

no_bound_where_all : (size n : ℕ) → size ≤ n → beyond extremes.Most size n ≡ None
no_bound_where_all size n all = ap (λ b. if b then Some (at_least (suc n)) else None) (le-ltb n size all)

-- its bound is on generation 0, and fewer numbers lie beyond those that it allows
pub first-beyond : (extreme : Extreme) (size n : ℕ) (bound : Bound) → beyond extreme size n ≡ Some bound → bound.generation ≡ 0
first-beyond extremes.Fewest size zero bound is = absurd cc
first-beyond extremes.Fewest size (suc n) bound is = sym (ap (λ (b : Bound). b.generation) (some-same is))
first-beyond extremes.Most size n bound is = elim (cases_lt n size) [
  | inl room ↦ sym (ap (λ (b : Bound). b.generation) (some-same (sym (bound_where_room size n room) ∙ is)))
  | inr all ↦ absurd (no-bound (sym (no_bound_where_all size n all) ∙ is))
]

pub fewer_beyond : (extreme : Extreme) (size n m : ℕ) (bound : Bound) → beyond extreme size n ≡ Some bound → Allows bound m → m ≤ size → numbers_beyond extreme size m < numbers_beyond extreme size n
fewer_beyond extremes.Fewest size zero m bound is allowed within = absurd cc
fewer_beyond extremes.Fewest size (suc n) m bound is allowed within =
    let kept = subst (λ b. Allows b m) (sym (some-same is)) allowed in omega (arith, kept.high n refl)
fewer_beyond extremes.Most size n m bound is allowed within = elim (cases_lt n size) [
  | inl room ↦ let kept = subst (λ b. Allows b m) (sym (some-same (sym (bound_where_room size n room) ∙ is))) allowed in omega (arith, kept.low, within, room)
  | inr all ↦ absurd (no-bound (sym (no_bound_where_all size n all) ∙ is))
]

-- a number is allowed by the bound that asks for one beyond n, or isn't beyond n
allowed_or_not : (extreme : Extreme) (size n m : ℕ) (bound : Bound) → beyond extreme size n ≡ Some bound → Allows bound m ⊎ NotBeyond extreme n m
allowed_or_not extremes.Fewest size zero m bound is = absurd cc
allowed_or_not extremes.Fewest size (suc n) m bound is = elim (cases_lt m (suc n)) [
  | inl less ↦ inl (subst (λ b. Allows b m) (some-same is) (record { low = omega arith; high = λ high same. omega (arith, less, at same) }))
  | inr least ↦ inr least
] where
  at : {high : ℕ} → Some n ≡ Some high → n ≡ high
  at same = cc
allowed_or_not extremes.Most size n m bound is = elim (cases_lt n size) [
  | inl room ↦ elim (cases_lt n m) [
    | inl greater ↦ inl (subst (λ b. Allows b m) (some-same (sym (bound_where_room size n room) ∙ is)) (record { low = omega (arith, greater); high = λ high same. absurd (nothing same) }))
    | inr most ↦ inr most
  ]
  | inr all ↦ absurd (no-bound (sym (no_bound_where_all size n all) ∙ is))
] where
  nothing : {high : ℕ} → None ≡ Some high → ⊥
  nothing same = cc

-- where there is no such bound, no number of a generation's cells is beyond n
none_beyond : (extreme : Extreme) (size n m : ℕ) → beyond extreme size n ≡ None → m ≤ size → NotBeyond extreme n m
none_beyond extremes.Fewest size zero m is within = omega arith
none_beyond extremes.Fewest size (suc n) m is within = absurd cc
none_beyond extremes.Most size n m is within = elim (cases_lt n size) [
  | inl room ↦ absurd (no-bound (sym is ∙ bound_where_room size n room))
  | inr all ↦ omega (arith, all, within)
]

-- where there is none beyond a solution, it is the extreme
pub extreme_where_none : (extreme : Extreme) (p : PosedProblem) (h : History) (bound : Bound) → beyond_it extreme p h ≡ Some bound → IsAbsent (bounded p bound) → IsExtreme extreme p h
extreme_where_none extreme p h bound is none other solution = elim (allowed_or_not extreme (grid_size p.posed) (live_cells h) (live_cells other) bound is) [
  | inl allowed ↦ absurd (none other (bounded-solution p bound other solution
      (subst (λ t. Allows bound (population other t)) (sym (first-beyond extreme (grid_size p.posed) (live_cells h) bound is)) allowed)))
  | inr not_beyond ↦ not_beyond
]

-- and so it is where no number of live cells is beyond its own
pub extreme_where_no_bound : (extreme : Extreme) (p : PosedProblem) (h : History) → 0 < p.posed.generations → beyond_it extreme p h ≡ None → IsExtreme extreme p h
extreme_where_no_bound extreme p h some is other solution =
    none_beyond extreme (grid_size p.posed) (live_cells h) (live_cells other) is (live_cells-le p other some solution)

-- a solution of the problem with that bound has fewer numbers beyond its own
pub nearer : (extreme : Extreme) (p : PosedProblem) (h next : History) (bound : Bound) → 0 < p.posed.generations → beyond_it extreme p h ≡ Some bound → IsSolution (bounded p bound) next
    → numbers_beyond extreme (grid_size p.posed) (live_cells next) < numbers_beyond extreme (grid_size p.posed) (live_cells h)
nearer extreme p h next bound some is solution =
    fewer_beyond extreme (grid_size p.posed) (live_cells h) (live_cells next) bound is
    (subst (λ t. Allows bound (population next t)) (first-beyond extreme (grid_size p.posed) (live_cells h) bound is) (bounds_kept p bound next solution).1)
    (live_cells-le p next some (solution-bounded p bound next solution))

-- no number is both allowed by that bound and not beyond n
not_both : (extreme : Extreme) (size n m : ℕ) (bound : Bound) → beyond extreme size n ≡ Some bound → Allows bound m → NotBeyond extreme n m → ⊥
not_both extremes.Fewest size zero m bound is allowed least = absurd cc
not_both extremes.Fewest size (suc n) m bound is allowed least = let kept = subst (λ b. Allows b m) (sym (some-same is)) allowed in omega (arith, kept.high n refl, least)
not_both extremes.Most size n m bound is allowed most = elim (cases_lt n size) [
  | inl room ↦ let kept = subst (λ b. Allows b m) (sym (some-same (sym (bound_where_room size n room) ∙ is))) allowed in omega (arith, kept.low, most)
  | inr all ↦ absurd (no-bound (sym (no_bound_where_all size n all) ∙ is))
]

-- beyond the extreme there is no solution
pub absent_beyond : (extreme : Extreme) (p : PosedProblem) (h : History) (bound : Bound) → beyond_it extreme p h ≡ Some bound → IsExtreme extreme p h → IsAbsent (bounded p bound)
absent_beyond extreme p h bound is utmost other solution =
    not_both extreme (grid_size p.posed) (live_cells h) (live_cells other) bound is
    (subst (λ t. Allows bound (population other t)) (first-beyond extreme (grid_size p.posed) (live_cells h) bound is) (bounds_kept p bound other solution).1)
    (utmost other (solution-bounded p bound other solution))

-- the problem that asks for a solution beyond a history is there exactly where such a bound is
none_of_map : (p : PosedProblem) (next : Option Bound) → option_map (bounded p) next ≡ None → next ≡ None
none_of_map p None is = refl
none_of_map p (Some bound) is = absurd cc

some_of_map : (p q : PosedProblem) (next : Option Bound) → option_map (bounded p) next ≡ Some q → (bound : Bound) × (next ≡ Some bound) × (q ≡ bounded p bound)
some_of_map p q None is = absurd cc
some_of_map p q (Some bound) is = (bound, refl, same is) where
  same : {a b : PosedProblem} → Some a ≡ Some b → b ≡ a
  same is = cc

pub no_problem_beyond : (extreme : Extreme) (p : PosedProblem) (h : History) (live : ℕ) (next : Option PosedProblem) → live ≡ live_cells h → next ≡ problem_beyond extreme p live → next ≡ None
    → beyond_it extreme p h ≡ None
no_problem_beyond extreme p h live next same beyond is = none_of_map p (beyond_it extreme p h) (ap (problem_beyond extreme p) (sym same) ∙ sym beyond ∙ is)

pub bound_beyond : (extreme : Extreme) (p q : PosedProblem) (h : History) (live : ℕ) (next : Option PosedProblem) → live ≡ live_cells h → next ≡ problem_beyond extreme p live → next ≡ Some q
    → (bound : Bound) × (beyond_it extreme p h ≡ Some bound) × (q ≡ bounded p bound)
bound_beyond extreme p q h live next same beyond is = some_of_map p q (beyond_it extreme p h) (ap (problem_beyond extreme p) (sym same) ∙ sym beyond ∙ is)
