use Rattle.std.proofs.Common.{ℕ, List, ap, ◌∙◌, arith}
use Rattle.lls_transition.specs.Clause.{with_clauses}
use Rattle.lls_encode.specs.Images.{changed_cells, comparison}
use Rattle.lls_encode.proofs.Compared.{comparisons_more, HasRoom-comparison}
use Rattle.lls_encode.proofs.images.push_comparisons.Goals as goal

pub push_comparison-requires-clause-room : goal.push_comparison-requires-clause-room
push_comparison-requires-clause-room c =
    HasRoom-comparison c.args.problem.now c.args.motion c.args.formula.now.vars _ c.loop-i.i (changed_cells c.args.problem.now c.args.motion) c.args.formula.now c.loop-i.formula c.loop-i.invariant
    (omega (arith, c.loop-i-test.true, c.len-i-end.ensures, c.in_ok-cells.ensures.few)) c.requires.room

pub loop-i-preserved : goal.loop-i-preserved
loop-i-preserved c =
    comparisons_more c.args.problem.now c.args.motion c.args.formula.now.vars _ c.loop-i.i (changed_cells c.args.problem.now c.args.motion) c.args.formula.now c.loop-i.formula _ c.loop-i.invariant
    (c.in_ok-push_comparison.ensures
    ∙ ap (λ base. with_clauses c.loop-i.formula (comparison c.args.problem.now c.args.motion base c.deref.result.now c.loop-i.i)) c.more_vars-base.ensures.before
    ∙ ap (λ (cells : List ℕ). with_clauses c.loop-i.formula (comparison c.args.problem.now c.args.motion c.args.formula.now.vars cells c.loop-i.i)) (c.deref.ensures.value ∙ c.in_ok-cells.ensures.cells))
