-- A problem with one more bound on generation 0 fits its file.
use Rattle.std.proofs.Common.{◌≡◌, ◌<◌, ◌≤◌, ℕ, zero, suc, ◌+◌, ◌*◌, Bool, List, [], ◌∷◌, map, length, get_or, cond, min, Option, None, Some, Ok, refl, sym, ap, subst, inl, inr, ◌∙◌, arith}
use Rattle.std.specs.Prelude.{nat_le, nat_lt, All, if◌then◌else◌, find}
use Rattle.std.specs.Option.{ForSome, option_map, option_map_or, option_or}
use Rattle.std.proofs.Math.Nat.{min-le_right, mul-le-mul, mul-le-mul_left}
use Rattle.std.proofs.lemmas.Bool.{cases_lt, le-ltb, lt-leb, lt-ltb}
use Rattle.std.proofs.lemmas.List.{get_or-map, length-map}
use Rattle.std.proofs.lemmas.List.Elements.{All-push}
use Rattle.std.proofs.lemmas.List.Sums.{sum_by-append}
use Rattle.lls_search_file.specs.Posed.{PosedFile, IsPosed}
use Rattle.lls_problem.specs.declared.bounds.Bound.{Bound}
use Rattle.lls_problem.specs.declared.demands.Demands.{Demands}
use Rattle.lls_problem.specs.declared.demands.DemandError.{DemandError}
use Rattle.lls_problem.specs.declared.demands.DemandError.TheVariants.{NotSquare, NoGeneration, BoundsCross, PeriodTooLong, Counters}
use Rattle.lls_problem.specs.declared.demands.Period.{Period}
use Rattle.lls_problem.specs.Bounds.{HasEnds, most_counters, grid_size, top_end, crosses, counter_top, counter_vars, all_counter_vars}
use Rattle.lls_problem.specs.Problem.{PosedProblem, AreFitting, square_fault, generation_fault, bound_fault, period_fault, counter_fault, unless, problem_made}
use Rattle.lls_problem.proofs.Fitting.{missing_generation-is}
use Rattle.lls_problem.proofs.Found.{nothing_found}
use Rattle.lls_least.specs.Bounded.{at_most, at_least, beyond, bounded, IsWithin, LeavesRoom}
use Rattle.lls_least.specs.declared.extreme.Extreme.{Extreme}
use Rattle.lls_least.specs.declared.extreme.Extreme.TheVariants as extremes

-- where nothing is at fault, the last stands
none_at_fault : {X : Type 0} (a b c d e : Option DemandError) (x : X) → a ≡ None → b ≡ None → c ≡ None → d ≡ None → e ≡ None → unless a (unless b (unless c (unless d (unless e (Ok x))))) ≡ Ok x
none_at_fault a b c d e x p q r s t =
    ap (λ f. unless f (unless b (unless c (unless d (unless e (Ok x)))))) p
    ∙ ap (λ f. unless f (unless c (unless d (unless e (Ok x))))) q
    ∙ ap (λ f. unless f (unless d (unless e (Ok x)))) r
    ∙ ap (λ f. unless f (unless e (Ok x))) s
    ∙ ap (λ f. unless f (Ok x)) t

not_missing : (generations : ℕ) (bounds : List Bound) → All (λ bound. bound.generation < generations) bounds → find (nat_le generations) (map (λ bound. bound.generation) bounds) ≡ None
not_missing generations bounds bounded =
    nothing_found (nat_le generations) (map (λ (bound : Bound). bound.generation) bounds) (λ k d inside.
    let within : k < length bounds = omega (arith, length-map bounds (λ (bound : Bound). bound.generation), inside) in
    let some : Bound = record { generation = 0; low = 0; high = None } in
    ap (nat_le generations) (get_or-map (λ (bound : Bound). bound.generation) bounds k some d within) ∙ lt-leb generations (get_or bounds k some).generation (bounded k some within))

neither_missing : (generations : ℕ) (differ : Option (ℕ × ℕ)) → ForSome differ (λ pair. (pair.0 < generations) × (pair.1 < generations)) → find (nat_le generations) (option_map_or (λ pair. pair.0 ∷ pair.1 ∷ []) differ []) ≡ None
neither_missing generations None named = refl
neither_missing generations (Some pair) named =
    let both = named pair refl in
    ap (λ b. cond b (Some pair.0) (cond (nat_le generations pair.1) (Some pair.1) None)) (lt-leb generations pair.0 both.0)
    ∙ ap (λ b. cond b (Some pair.1) None) (lt-leb generations pair.1 both.1)

in_time : (generations : ℕ) (asked : Option Period) → ForSome asked (λ period. period.length < generations) → option_map_or (λ period. if nat_lt period.length generations then None else Some period.length) asked None ≡ None
in_time generations None shorter = refl
in_time generations (Some period) shorter = ap (λ b. if b then None else Some period.length) (lt-ltb period.length generations (shorter period refl))

-- of what fits a file a problem is made
pub made_where_fitting : (posed : PosedFile) (rule : List Bool) (demands : Demands) → AreFitting posed demands → problem_made posed rule demands ≡ Ok (record { posed = posed; rule = rule; demands = demands })
made_where_fitting posed rule demands fitting =
    none_at_fault (square_fault posed demands) (generation_fault posed demands) (bound_fault posed demands) (period_fault posed demands) (counter_fault posed demands) _
    (ap (λ b. if b then None else Some (NotSquare posed.height posed.width)) fitting.square)
    (ap (option_map NoGeneration) (missing_generation-is posed demands ∙ ap (λ o. option_or o (find (nat_le posed.generations) (option_map_or (λ pair. pair.0 ∷ pair.1 ∷ []) demands.differ []))) (not_missing posed.generations demands.bounds fitting.bounded) ∙ neither_missing posed.generations demands.differ fitting.named))
    (ap (λ o. option_map BoundsCross (option_map (λ (bound : Bound). bound.generation) o)) (nothing_found (crosses (grid_size posed)) demands.bounds (λ k d inside. le-ltb (top_end (grid_size posed) (get_or demands.bounds k d)) (get_or demands.bounds k d).low (fitting.ordered k d inside))))
    (ap (option_map PeriodTooLong) (in_time posed.generations demands.period fitting.shorter))
    (ap (λ b. option_map Counters (if b then Some (all_counter_vars (grid_size posed) demands.bounds) else None)) (le-ltb most_counters (all_counter_vars (grid_size posed) demands.bounds) fitting.counters))

-- the greatest number that a bound allows is no more than all cells, and a counter counts no further
top_end-le : (size : ℕ) (bound : Bound) → top_end size bound ≤ size
top_end-le size bound = top-le size bound.high where
  top-le : (size : ℕ) (high : Option ℕ) → option_map_or (λ h. min h size) high size ≤ size
  top-le size None = omega arith
  top-le size (Some high) = min-le_right high size

counter_top-le : (size : ℕ) (bound : Bound) → bound.low ≤ top_end size bound → counter_top size bound ≤ size
counter_top-le size bound ordered = elim (cases_lt (top_end size bound) size) [
  | inl below ↦ subst (λ n. n ≤ size) (sym (ap (λ b. if b then top_end size bound + 1 else bound.low) (lt-ltb (top_end size bound) size below))) (omega (arith, below))
  | inr all ↦ subst (λ n. n ≤ size) (sym (ap (λ b. if b then top_end size bound + 1 else bound.low) (le-ltb (top_end size bound) size all))) (omega (arith, ordered, top_end-le size bound))
]

pub some-same : {a b : Bound} → Some a ≡ Some b → a ≡ b
some-same is = cc

pub no-bound : {b : Bound} → None ≡ Some b → ⊥
no-bound is = cc

-- with the bound the demands fit the file as before
pub fitting-bounded : (p : PosedProblem) (bound : Bound) → IsPosed p.posed → AreFitting p.posed p.demands → LeavesRoom p → IsWithin (grid_size p.posed) bound
    → AreFitting p.posed (bounded p bound).demands
fitting-bounded p bound kept fitting room within = record {
  square = fitting.square;
  period = fitting.period;
  bounds = All-push HasEnds p.demands.bounds bound fitting.bounds (record { low = omega (arith, within.ordered, top, most); high = λ high is. omega (arith, within.high high is, most) });
  bounded = All-push (λ (bound : Bound). bound.generation < p.posed.generations) p.demands.bounds bound fitting.bounded (omega (arith, within.first, kept.generations.0));
  ordered = All-push (λ (bound : Bound). bound.low ≤ top_end size bound) p.demands.bounds bound fitting.ordered within.ordered;
  counters = omega (arith, sum_by-append (counter_vars size) p.demands.bounds (bound ∷ []), mul-le-mul_left size counted, room);
  shorter = fitting.shorter;
  named = fitting.named;
  listed = fitting.listed;
} where
  size : ℕ
  size = grid_size p.posed

  most : size ≤ 64 * 64
  most = mul-le-mul kept.width.1 kept.height.1

  top : top_end size bound ≤ size
  top = top_end-le size bound

  counted : counter_top size bound ≤ size
  counted = counter_top-le size bound within.ordered

-- so it is a problem
pub made-bounded : (p : PosedProblem) (bound : Bound) → IsPosed p.posed → AreFitting p.posed p.demands → LeavesRoom p → IsWithin (grid_size p.posed) bound
    → problem_made p.posed p.rule (bounded p bound).demands ≡ Ok (bounded p bound)
made-bounded p bound kept fitting room within = made_where_fitting p.posed p.rule (bounded p bound).demands (fitting-bounded p bound kept fitting room within)

-- the bounds that ask for fewer, or for more
pub within-at_most : (size k : ℕ) → k ≤ size → IsWithin size (at_most k)
within-at_most size k below = record { first = refl; ordered = omega arith; high = λ high is. omega (arith, same is, below) } where
  same : {high : ℕ} → Some k ≡ Some high → k ≡ high
  same is = cc

pub within-at_least : (size k : ℕ) → k ≤ size → IsWithin size (at_least k)
within-at_least size k within = record { first = refl; ordered = within; high = λ high is. absurd (none is) } where
  none : {high : ℕ} → None ≡ Some high → ⊥
  none is = cc

-- and so the one that asks for a solution beyond n live cells
pub within-beyond : (extreme : Extreme) (size n : ℕ) (bound : Bound) → n ≤ size → beyond extreme size n ≡ Some bound → IsWithin size bound
within-beyond extremes.Fewest size zero bound within is = absurd cc
within-beyond extremes.Fewest size (suc n) bound within is = subst (IsWithin size) (some-same is) (within-at_most size n (omega (arith, within)))
within-beyond extremes.Most size n bound within is = elim (cases_lt n size) [
  | inl below ↦ subst (IsWithin size) (some-same (sym (ap (λ b. if b then Some (at_least (suc n)) else None) (lt-ltb n size below)) ∙ is)) (within-at_least size (suc n) (omega (arith, below)))
  | inr all ↦ absurd (no-bound (sym (ap (λ b. if b then Some (at_least (suc n)) else None) (le-ltb n size all)) ∙ is))
]
