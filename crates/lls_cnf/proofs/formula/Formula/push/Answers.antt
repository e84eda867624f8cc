use Rattle.std.proofs.Common.{◌≡◌, ◌<◌, ap, length, true}
use Rattle.lls_lit.specs.Formula.{Cnf, is_within}
use Rattle.lls_cnf.specs.declared.formula.TheConstants.Formula.{MOST_CLAUSES}
use Rattle.lls_cnf.proofs.Within.{IsFormula-push}
use Rattle.lls_cnf.proofs.formula.Formula.push.Goals as goal

pub invariant_of-self-2 : goal.invariant_of-self-2
invariant_of-self-2 c =
    let f = c.self.inside in
    let w : is_within f.vars c.args.lits.now ≡ true = rw (ap (λ (v : Cnf). v.vars) c.self.view_is) c.requires.within in
    let lt : length f.clauses < MOST_CLAUSES = rw (ap (λ (v : Cnf). v.clauses) c.self.view_is) c.requires.room in
    rw c.in_ok-push.ensures.ok (IsFormula-push f.vars f.clauses c.args.lits.now c.self.invariant w lt)
