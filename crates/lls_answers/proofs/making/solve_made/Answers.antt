-- A made problem has a solution, so no refutation of its formula is found.
use Rattle.std.proofs.Common.{ap, Ok}
use Rattle.lls_prooflog.proofs.Soundness.{unsatisfiable_by_propagation}
use Rattle.lls_answers.proofs.making.solve_made.Goals as goal

pub made_answer-requires-clause-found : goal.made_answer-requires-clause-found
made_answer-requires-clause-found c = λ is.
    let formula = c.in_ok-formula.formula in
    let refutation = c.in_ok-outcome.ensures.unsat (ap Ok is) in
    let unsatisfiable = unsatisfiable_by_propagation formula c.solve.new.log.steps refutation.good refutation.accepted in
    c.in_ok-formula.ensures.absent unsatisfiable c.args.pair.now.history c.requires.solution

pub made_answer-requires-clause-spent : goal.made_answer-requires-clause-spent
made_answer-requires-clause-spent c = λ is. c.in_ok-outcome.ensures.undecided (ap Ok is)
