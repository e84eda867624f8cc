use Rattle.std.proofs.Common.{◌≡◌, ◌<◌, ℕ, List, Bool, [], length, ap, arith, sym, ◌∙◌}
use Rattle.std.specs.Prelude.{slice_index_or}
use Rattle.std.proofs.lemmas.List.{get_or_default}
use Rattle.lls_problem.specs.Problem.{Pattern}
use Rattle.lls_problem.proofs.FirstListed.{same_cells, other_cells, others_more, first_listed_at, none_listed}
use Rattle.lls_problem.proofs.listed.first_listed.Goals as goal

pub loop-n-init : goal.loop-n-init
loop-n-init c = λ m less. absurd (omega (arith, less))

-- the pattern at this place, by any element in place of one that is missing
at_place : (patterns : List Pattern) (n : ℕ) (d : Pattern) (cells : List Bool) → cells ≡ slice_index_or patterns n d → n < length patterns → cells ≡ slice_index_or patterns n []
at_place patterns n d cells is within = is ∙ get_or_default patterns n d [] within

pub returns-then-eq-clause-found : goal.returns-then-eq-clause-found
returns-then-eq-clause-found c =
    let n = c.loop-n.n in
    let patterns = c.items-patterns.result.now in
    let here : c.cells.result.now ≡ slice_index_or patterns n [] =
    at_place patterns n c.index-patterns-n.result c.cells.result.now (c.cells.ensures ∙ c.index-patterns-n.is) c.loop-n-test.true in
    let same : c.cells.result.now ≡ c.cells_at-cells.result.now = same_cells _ _ (sym c.eq.ensures ∙ c.if-eq.true) in
    let listed : patterns ≡ c.args.problem.now.demands.listed = c.items-patterns.ensures ∙ ap (λ d. d.listed) c.demands.ensures.value in
    rw (← listed, ← c.cells_at-cells.ensures.cells)
    (first_listed_at patterns c.cells_at-cells.result.now n c.loop-n-test.true (sym here ∙ same) c.loop-n.invariant)

pub loop-n-preserved : goal.loop-n-preserved
loop-n-preserved c =
    let n = c.loop-n.n in
    let patterns = c.items-patterns.result.now in
    let here : c.cells.result.now ≡ slice_index_or patterns n [] =
    at_place patterns n c.index-patterns-n.result c.cells.result.now (c.cells.ensures ∙ c.index-patterns-n.is) c.loop-n-test.true in
    others_more patterns c.cells_at-cells.result.now n c.loop-n.invariant (λ same. other_cells _ _ (sym c.eq.ensures ∙ c.if-eq.false) (here ∙ same))

pub returns-clause-none : goal.returns-clause-none
returns-clause-none c =
    let patterns = c.items-patterns.result.now in
    let listed : patterns ≡ c.args.problem.now.demands.listed = c.items-patterns.ensures ∙ ap (λ d. d.listed) c.demands.ensures.value in
    rw (← listed, ← c.cells_at-cells.ensures.cells)
    (none_listed patterns c.cells_at-cells.result.now c.loop-n.n (omega (arith, c.loop-n-test.false, c.loop-n.auto.n-end)) c.loop-n.invariant)
