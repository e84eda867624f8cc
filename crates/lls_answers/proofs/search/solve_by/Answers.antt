use Rattle.std.proofs.Common.{subst}
use Rattle.lls_lit.specs.Formula.{Cnf}
use Rattle.lls_solver.specs.Searching.{IsOutcome}
use Rattle.lls_answers.proofs.search.solve_by.Goals as goal

pub crew-requires-clause-none : goal.crew-requires-clause-none
crew-requires-clause-none c = c.requires.none

pub crew-requires-clause-budget : goal.crew-requires-clause-budget
crew-requires-clause-budget c = c.requires.budget

pub solve_from-requires-clause-none : goal.solve_from-requires-clause-none
solve_from-requires-clause-none c = c.requires.none

pub solve_from-requires-clause-budget : goal.solve_from-requires-clause-budget
solve_from-requires-clause-budget c = c.requires.budget

pub returns-in-Some : goal.returns-in-Some
returns-in-Some c =
    subst (λ (f : Cnf). IsOutcome f c.args.effort.now.budget c.args.effort.now.keep_all c.crew.new.log.steps c.crew.result) c.formula-formula.ensures.formula c.crew.ensures.right

pub returns-in-None : goal.returns-in-None
returns-in-None c =
    subst (λ (f : Cnf). IsOutcome f c.args.effort.now.budget c.args.effort.now.keep_all c.solve_from.new.log.steps c.solve_from.result) c.formula-formula.ensures.formula c.solve_from.ensures
