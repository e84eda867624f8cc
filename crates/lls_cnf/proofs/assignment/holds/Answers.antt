use Rattle.std.proofs.Common.{sym, ◌∙◌}
use Rattle.lls_lit.specs.Formula.{satisfies_clause}
use Rattle.lls_cnf.proofs.Elements.{list_all-next, list_all-fails}
use Rattle.lls_cnf.proofs.assignment.holds.Goals as goal

pub returns-then-not-has_true : goal.returns-then-not-has_true
returns-then-not-has_true c =
    let values = c.values-values.result.now in
    let clauses = c.args.formula.now.clauses in
    rw (← c.values-values.ensures)
    (sym (list_all-fails (satisfies_clause values) clauses c.loop-k.k c.clause.result.now c.clause.ensures.value (sym c.has_true.ensures ∙ c.if-not-has_true.true)))

pub loop-k-preserved : goal.loop-k-preserved
loop-k-preserved c =
    let values = c.values-values.result.now in
    list_all-next (satisfies_clause values) c.args.formula.now.clauses c.loop-k.k c.clause.result.now c.clause.ensures.value c.loop-k.invariant
    ∙ sym c.has_true.ensures ∙ c.if-not-has_true.false
