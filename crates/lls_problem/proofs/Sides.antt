-- Lines and columns from those before the grid, and the transitions into framed places.
use Rattle.std.proofs.Common.{◌≡◌, ◌<◌, ℕ, zero, suc, ◌+◌, ◌-◌, ℤ, pos, negsuc, ◌≤ℤ◌, false, refl, ap, ◌∙◌, subst, arith, inl, inr}
use Rattle.std.proofs.lemmas.Int.{ints}
use Rattle.lls_rule.specs.Rule.{successor}
use Rattle.lls_grid.specs.History.{History, at, nine}
use Rattle.lls_problem.specs.declared.demands.Edge.{Edge}
use Rattle.lls_problem.specs.declared.demands.Edge.TheVariants.{Framed, Bare}
use Rattle.lls_problem.specs.Problem.{PosedProblem}
use Rattle.lls_problem.specs.Solution.{IsFramed, is_marked, Obeys}
use Rattle.lls_problem.specs.Firsts.{Place, IsBefore}
use Rattle.lls_problem.specs.Judgement.{IsBound, Succeeds, IsFirstTransition}
use Rattle.lls_problem.specs.Transitions.{side, ring_place, KeepsRule, KeepsGeneration, BreaksGeneration}

-- a row or a column of the grid or the ring by its line
line_of : (size : ℕ) (y : ℤ) → negsuc 0 ≤ℤ y → y ≤ℤ pos size → (line : ℕ) × (line < size + 2) × (y ≡ side line)
line_of size (pos n) low high = (n + 1, omega (arith, ints), omega (arith, ints))
line_of size (negsuc zero) low high = (0, omega arith, omega (arith, ints))
line_of size (negsuc (suc n)) low high = absurd (omega (arith, ints))

-- a framed place stands in the grid or the ring
in_ring : (edge : Edge) (height width : ℕ) (y x : ℤ) → IsFramed edge height width y x → IsFramed Framed height width y x
in_ring Framed height width y x framed = framed
in_ring Bare height width y x framed =
    let above = framed.0 in
    let below = framed.1 in
    let before = framed.2 in
    let behind = framed.3 in
    (omega (arith, ints), omega (arith, ints), omega (arith, ints), omega (arith, ints))

-- a transition by its line and its column
Succeeds-by_line : (p : PosedProblem) (h : History) (line column : ℕ) (place : Place) → place.y ≡ side line → place.x ≡ side column → KeepsRule p h place.t line column
    → IsBound p place → Succeeds p h place
Succeeds-by_line p h line column place at_line at_column keeps =
    let one : ring_place place.t line column ≡ place = rw (← at_line, ← at_column) refl in
    subst (λ place. IsBound p place → Succeeds p h place) one keeps

Succeeds-in_generation : (p : PosedProblem) (h : History) (place : Place) → KeepsGeneration p h place.t → IsBound p place → Succeeds p h place
Succeeds-in_generation p h place keeps bound =
    let ring = in_ring _ _ _ place.y place.x bound.framed in
    let row = line_of p.posed.height place.y ring.0 ring.1 in
    let column = line_of p.posed.width place.x ring.2 ring.3 in
    Succeeds-by_line p h row.0 column.0 place row.2 column.2 (keeps row.0 row.1 column.0 column.1) bound

-- no generation breaks the rule
pub Obeys-by_generations : (p : PosedProblem) (h : History) → ((t : ℕ) → t < p.posed.generations → 0 < t → KeepsGeneration p h t) → Obeys p h
Obeys-by_generations p h keeps = λ t y x later framed free.
    let succeeds = Succeeds-in_generation p h (record { t = t + 1; y = y; x = x }) (keeps (t + 1) later (omega arith)) (record { later = omega arith; generation = later; framed = framed; free = free }) in
    let early : t + 1 - 1 ≡ t = omega arith in
    succeeds ∙ ap (λ s. successor p.rule (nine p.rule h s y x)) early

-- a history that obeys the rule does so at each transition that has to
obeys_at : (p : PosedProblem) (h : History) (t : ℕ) (y x : ℤ) → Obeys p h → IsBound p (record { t = t; y = y; x = x }) → Succeeds p h (record { t = t; y = y; x = x })
obeys_at p h zero y x obeys bound = absurd (omega (arith, bound.later))
obeys_at p h (suc t) y x obeys bound =
    let next : suc t ≡ t + 1 = omega arith in
    let early : t ≡ suc t - 1 = omega arith in
    let free : is_marked p.posed (t + 1) y x ≡ false = rw (← next) bound.free in
    ap (λ s. at p.rule h s y x) next ∙ obeys t y x (omega (arith, bound.generation)) bound.framed free ∙ ap (λ s. successor p.rule (nine p.rule h s y x)) early

pub Succeeds-by_obeys : (p : PosedProblem) (h : History) (place : Place) → Obeys p h → IsBound p place → Succeeds p h place
Succeeds-by_obeys p h place obeys bound = obeys_at p h place.t place.y place.x obeys bound

-- all before the first place that breaks the rule
before_first : (p : PosedProblem) (h : History) (t line column t' line' column' : ℕ)
    → ((s : ℕ) → s < t → 0 < s → KeepsGeneration p h s) → BreaksGeneration p h t line column → 0 < t' → line' < p.posed.height + 2 → column' < p.posed.width + 2
    → IsBefore (ring_place t' line' column') (ring_place t line column) → KeepsRule p h t' line' column'
before_first p h t line column t' line' column' keeps breaks later line_in column_in (inl less) = keeps t' less later line' line_in column' column_in
before_first p h t line column t' line' column' keeps breaks later line_in column_in (inr (same, inl less)) =
    let below : line' < line = omega (arith, ints) in
    rw same (breaks.before line' below column' column_in)
before_first p h t line column t' line' column' keeps breaks later line_in column_in (inr (same, inr (one, less))) =
    let here : line' ≡ line = omega (arith, ints) in
    let below : column' < column = omega (arith, ints) in
    rw (same, here) (breaks.broken.before column' below)

-- the first place that breaks the rule, by generation, line and column
pub IsFirstTransition-by_lines : (p : PosedProblem) (h : History) (t line column : ℕ) (y x : ℤ) → y ≡ side line → x ≡ side column
    → ((t' : ℕ) → t' < t → 0 < t' → KeepsGeneration p h t') → BreaksGeneration p h t line column → IsFirstTransition p h (record { t = t; y = y; x = x })
IsFirstTransition-by_lines p h t line column y x at_line at_column keeps breaks =
    rw (at_line, at_column) (record {
      demanded = breaks.broken.broken.bound;
      broken = breaks.broken.broken.broken;
      before = λ other bound earlier.
          let ring = in_ring _ _ _ other.y other.x bound.framed in
          let row = line_of p.posed.height other.y ring.0 ring.1 in
          let place = line_of p.posed.width other.x ring.2 ring.3 in
          let earlier' : IsBefore (ring_place other.t row.0 place.0) (ring_place t line column) = rw (← row.2, ← place.2) earlier in
          Succeeds-by_line p h row.0 place.0 other row.2 place.2 (before_first p h t line column other.t row.0 place.0 keeps breaks bound.later row.1 place.1 earlier') bound;
    })
