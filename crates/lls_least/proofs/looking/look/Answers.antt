use Rattle.std.proofs.Common.{◌≡◌, true, Ok, ap, subst, arith}
use Rattle.lls_lit.specs.Formula.{Cnf, satisfies}
use Rattle.lls_encode.proofs.Chosen.{cells_formulated}
use Rattle.lls_least.proofs.Searched.{absence_from}
use Rattle.lls_least.proofs.looking.look.Goals as goal

pub decode-requires : goal.decode-requires
decode-requires c =
    let model = c.in_ok-values.ensures.sat c.in-Sat.values (ap Ok c.in-Sat.is) in
    omega (arith, model.many, ap (λ (f : Cnf). f.vars) c.in_ok-formula.ensures.formula, cells_formulated c.args.problem.now c.args.effort.formulation)

pub returns-in-Sat : goal.returns-in-Sat
returns-in-Sat c =
    let model = c.in_ok-values.ensures.sat c.in-Sat.values (ap Ok c.in-Sat.is) in
    c.in_ok-history-in-Sat.ensures.solution c.args.effort.formulation
    (subst (λ (f : Cnf). satisfies c.in-Sat.values f.clauses ≡ true) c.in_ok-formula.ensures.formula model.satisfied)

pub returns-in-Unsat : goal.returns-in-Unsat
returns-in-Unsat c =
    absence_from c.args.problem.now c.args.effort c.in_ok-formula.formula c.solve_from.new.log.steps c.in_ok-formula.ensures.formula c.in_ok-formula.ensures.absent
    (c.in_ok-values.ensures.unsat (ap Ok c.in-Unsat.is)) c.solve_from.ensures.all_kept
