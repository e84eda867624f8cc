use Rattle.lls_lit.specs.Formula.{is_within}
use Rattle.lls_cnf.proofs.Elements.{passes_at}
use Rattle.lls_cnf.proofs.formula.Formula.clause.Goals as goal

pub returns-clause-within : goal.returns-clause-within
returns-clause-within c =
    let f = c.self.inside in
    rw (← c.self.view_is) (passes_at (is_within f.vars) f.clauses c.args.k c.clause.result.now c.self.invariant.within c.clause.ensures)
