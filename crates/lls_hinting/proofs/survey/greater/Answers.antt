use Rattle.std.proofs.Common.{arith}
use Rattle.lls_hinting.proofs.Surveying.{within_next}
use Rattle.lls_hinting.proofs.survey.greater.Goals as goal
use Rattle.lls_hinting.proofs.survey.greater.Goals.{then-number-vars, else-number-vars}

pub loop-lit-preserved : goal.loop-lit-preserved
loop-lit-preserved c =
    let inv = c.loop-lit.invariant in
    let l = c.lit-item.result in
    elim c.if-number-vars.branch [
      | then-number-vars w ↦ record {
        most = omega (arith, w.vars-is, c.number-number.ensures.variable, inv.most);
        before = omega (arith, w.vars-is, w.if-number-vars, inv.before);
        within = within_next c.loop-lit.vars c.if-number-vars.vars c.args.lits.now c.loop-lit.lit-index l (omega (arith, w.vars-is, w.if-number-vars)) (omega (arith, c.loop-lit-test.true)) c.lit-item.is
            (omega (arith, c.var.ensures.var, c.var.ensures.variable)) (omega (arith, w.vars-is, c.number-number.ensures.number, c.var.ensures.var)) inv.within;
      }
      | else-number-vars w ↦ record {
        most = omega (arith, w.vars-is, inv.most);
        before = omega (arith, w.vars-is, inv.before);
        within = within_next c.loop-lit.vars c.if-number-vars.vars c.args.lits.now c.loop-lit.lit-index l (omega (arith, w.vars-is)) (omega (arith, c.loop-lit-test.true)) c.lit-item.is
            (omega (arith, c.var.ensures.var, c.var.ensures.variable)) (omega (arith, w.vars-is, w.if-number-vars, c.number-number.ensures.number, c.var.ensures.var)) inv.within;
      }
    ]
