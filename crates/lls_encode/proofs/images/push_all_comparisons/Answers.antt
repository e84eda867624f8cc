use Rattle.std.proofs.Common.{arith}
use Rattle.lls_encode.proofs.Compared.{motions_vars, motions_clauses, fewer_vars, few_comparison_vars, length-all_comparisons}
use Rattle.lls_encode.proofs.images.push_all_comparisons.Goals as goal

pub push_comparisons-requires-clause-cells : goal.push_comparisons-requires-clause-cells
push_comparisons-requires-clause-cells c =
    let vars = motions_vars c.args.problem.now c.args.formula.now c.loop-n.formula _ _ c.loop-n.invariant in
    let fewer = fewer_vars c.args.problem.now c.args.motions.now c.loop-n.n in
    omega (arith, vars, fewer, c.requires.cells)

pub push_comparisons-requires-clause-vars : goal.push_comparisons-requires-clause-vars
push_comparisons-requires-clause-vars c =
    let vars = motions_vars c.args.problem.now c.args.formula.now c.loop-n.formula _ _ c.loop-n.invariant in
    let few = few_comparison_vars c.args.problem.now c.posed-posed.ensures.kept c.args.motions.now in
    omega (arith, vars, few, c.requires.vars, c.requires.few)

pub push_comparisons-requires-clause-room : goal.push_comparisons-requires-clause-room
push_comparisons-requires-clause-room c =
    let clauses = motions_clauses c.args.problem.now c.args.formula.now c.loop-n.formula _ _ c.loop-n.invariant in
    let few = length-all_comparisons c.args.problem.now c.posed-posed.ensures.kept c.args.formula.now.vars c.args.motions.now in
    omega (arith, clauses, few, c.requires.room, c.requires.few)
