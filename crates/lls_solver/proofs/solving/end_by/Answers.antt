use Rattle.std.proofs.lemmas.Result.{err_from_is_err_and}
use Rattle.lls_solver.proofs.Outcomes.{lacking_outcome}
use Rattle.lls_solver.proofs.solving.end_by.Goals as goal

pub returns-in-Undecided : goal.returns-in-Undecided
returns-in-Undecided g c = c.requires.spent

pub returns-in_err-decided : goal.returns-in_err-decided
returns-in_err-decided g c =
    let lack = err_from_is_err_and c.from_residual.result c.from_residual.ensures.1 in
    rw lack.1 (lacking_outcome c.args.formula.now c.args.budget c.args.keep_all c.args.log.now.steps lack.0 c.requires.spent)

pub returns-in_default : goal.returns-in_default
returns-in_default g c = rw c.swap.ensures.x_after c.in_ok-decided.ensures
