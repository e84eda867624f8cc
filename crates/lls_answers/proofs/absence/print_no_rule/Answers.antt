-- A formula of an open rule that isn't satisfiable is that of a problem without a solution by any rule between.
use Rattle.std.proofs.Common.{subst, ◌∙◌}
use Rattle.lls_lit.specs.Formula.{IsUnsatisfiable}
use Rattle.lls_open.specs.Formula.{open_formula}
use Rattle.lls_open.proofs.Complete.{openly_absent_from}
use Rattle.lls_answers.proofs.absence.print_no_rule.Goals as goal

pub returns-clause-absent : goal.returns-clause-absent
returns-clause-absent g c =
    let none : IsUnsatisfiable (open_formula c.args.problem.now c.args.high.now c.args.form) = subst IsUnsatisfiable (c.formula-formula.ensures.formula ∙ c.requires.formula) c.formula-formula.ensures.unsatisfiable in
    openly_absent_from c.args.problem.now c.args.form c.args.high.now c.posed-posed.ensures.kept c.demands-demands.ensures.kept c.requires.ends none
