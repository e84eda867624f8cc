use Rattle.std.proofs.Common.{◌≡◌, ◌<◌, ◌≤◌, ℕ, List, length, sym, ap, ◌∙◌, subst, arith}
use Rattle.std.specs.List.{All, filter, range_with_len}
use Rattle.lls_problem.specs.Problem.{PosedProblem}
use Rattle.lls_symmetry.specs.declared.motion.Motion.{Motion}
use Rattle.lls_encode.specs.Formula.{generation_size}
use Rattle.lls_encode.specs.Images.{is_changed, changed_cells}
use Rattle.lls_encode.proofs.Compared.{filter-range_more, length-filter_range, filter_range-below}
use Rattle.lls_encode.proofs.images.changed_cells.Goals as goal

-- all of them, at the loop's end
at_end : (p : PosedProblem) (motion : Motion) (cells : List ℕ) (k size : ℕ) → cells ≡ filter (is_changed p motion) (range_with_len 0 k) → size ≡ generation_size p → size ≤ k → k ≤ size
    → cells ≡ changed_cells p motion
at_end p motion cells k size is sized low high =
    let same : k ≡ generation_size p = omega (arith, sized, low, high) in
    is ∙ ap (λ n. filter (is_changed p motion) (range_with_len 0 n)) same

pub loop-k-preserved : goal.loop-k-preserved
loop-k-preserved c = filter-range_more (is_changed c.args.problem.now c.args.motion) _ _ c.loop-k.k c.loop-k.invariant c.in_ok-push_changed.ensures

pub returns-clause-cells : goal.returns-clause-cells
returns-clause-cells c =
    at_end c.args.problem.now c.args.motion _ c.loop-k.k c.generation_size-k-end.result c.loop-k.invariant c.generation_size-k-end.ensures.size c.loop-k-test.false c.loop-k.auto.k-end

pub returns-clause-within : goal.returns-clause-within
returns-clause-within c =
    subst (All (λ k. k < generation_size c.args.problem.now)) (sym (returns-clause-cells c)) (filter_range-below (is_changed c.args.problem.now c.args.motion) (generation_size c.args.problem.now))

pub returns-clause-few : goal.returns-clause-few
returns-clause-few c =
    let few = length-filter_range (is_changed c.args.problem.now c.args.motion) (generation_size c.args.problem.now) in
    subst (λ cells. length cells ≤ 4096) (sym (returns-clause-cells c)) (omega (arith, few, c.generation_size-k-end.ensures.size, c.generation_size-k-end.ensures.most))
