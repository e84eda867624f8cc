-- A formula that isn't satisfiable is that of a problem without a solution.
use Rattle.std.proofs.Common.{subst, ◌∙◌}
use Rattle.lls_lit.specs.Formula.{IsUnsatisfiable}
use Rattle.lls_encode.specs.Images.{formulated}
use Rattle.lls_encode.proofs.Chosen.{absent_by_formulated}
use Rattle.lls_answers.proofs.absence.print_none.Goals as goal

pub returns-clause-absent : goal.returns-clause-absent
returns-clause-absent g c =
    let none : IsUnsatisfiable (formulated c.args.problem.now c.args.formulation) = subst IsUnsatisfiable (c.formula-formula.ensures.formula ∙ c.requires) c.formula-formula.ensures.unsatisfiable in
    absent_by_formulated c.args.problem.now c.posed-posed.ensures.kept c.demands-demands.ensures.kept c.args.formulation none
