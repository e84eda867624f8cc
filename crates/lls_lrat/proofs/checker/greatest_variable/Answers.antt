use Rattle.std.proofs.Common.{◌≤◌, take, get_or, arith}
use Rattle.std.proofs.lemmas.Grind.{common_steps}
use Rattle.lls_lit.specs.Literal.{variable_of}
use Rattle.lls_lit.specs.declared.var.TheConstants.Var.{MOST}
use Rattle.lls_cnf.proofs.Within.{is_within-more}
use Rattle.lls_lrat.proofs.Checks.{is_within-push}
use Rattle.lls_lrat.proofs.checker.greatest_variable.Goals as goal

pub loop-lit-preserved : goal.loop-lit-preserved
loop-lit-preserved c =
    let i = c.loop-lit.lit-index in
    let l = c.lit-item.result in
    let m = c.max-most.result in
    let grows : c.loop-lit.most ≤ m = grind (arith, common_steps) in
    let reaches : c.number.result ≤ m = grind (arith, common_steps) in
    let fits : m ≤ MOST = grind (arith, common_steps) in
    let before = is_within-more c.loop-lit.most m (take i c.args.lits.now) grows c.loop-lit.invariant.0 in
    let here : (1 ≤ variable_of (get_or c.args.lits.now i l)) × (variable_of (get_or c.args.lits.now i l) ≤ m) =
    rw (← c.lit-item.is, ← c.var.ensures.var, ← c.number.ensures.number) (c.number.ensures.variable.0, reaches)
    in (is_within-push m c.args.lits.now i l c.loop-lit-test.true before here, fits)
