use Rattle.std.proofs.Common.{◌≤◌, ◌+◌, ap}
use Rattle.lls_lit.specs.Formula.{Cnf}
use Rattle.lls_lit.specs.declared.var.TheConstants.Var.{MOST}
use Rattle.lls_cnf.proofs.Within.{IsFormula-more}
use Rattle.lls_cnf.proofs.formula.Formula.more_vars.Goals as goal

pub invariant_of-self : goal.invariant_of-self
invariant_of-self c =
    let f = c.self.inside in
    let fits : f.vars + c.args.n ≤ MOST = rw (ap (λ (v : Cnf). v.vars) c.self.view_is) c.requires in
    IsFormula-more f.vars c.args.n f.clauses c.self.invariant fits
