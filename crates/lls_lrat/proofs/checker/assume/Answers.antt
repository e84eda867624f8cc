use Rattle.lls_cnf.proofs.Within.{is_within-more}
use Rattle.lls_lrat.proofs.checker.assume.Goals as goal

pub returns-clause-within : goal.returns-clause-within
returns-clause-within c =
    is_within-more c.greatest_variable.result c.loop-lit.assumed.vars c.args.lits.now (rw c.loop-lit.invariant.1 c.in_ok-begin.ensures.reaches) c.greatest_variable.ensures.within
