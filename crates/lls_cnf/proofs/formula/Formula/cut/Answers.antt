use Rattle.std.proofs.Common.{◌≡◌, ◌≤◌, ap, take, true}
use Rattle.std.specs.List.{list_all}
use Rattle.lls_lit.specs.Formula.{Cnf, is_within}
use Rattle.lls_cnf.proofs.Within.{IsFormula-cut}
use Rattle.lls_cnf.proofs.formula.Formula.cut.Goals as goal

pub invariant_of-self : goal.invariant_of-self
invariant_of-self c =
    let f = c.self.inside in
    let le : c.args.vars ≤ f.vars = rw (ap (λ (v : Cnf). v.vars) c.self.view_is) c.requires.vars in
    let w : list_all (is_within c.args.vars) (take c.args.clauses f.clauses) ≡ true = rw (ap (λ (v : Cnf). v.clauses) c.self.view_is) c.requires.within in
    rw c.cut.ensures (IsFormula-cut f.vars c.args.vars c.args.clauses f.clauses c.self.invariant le w)
