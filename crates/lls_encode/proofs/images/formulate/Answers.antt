use Rattle.std.proofs.Common.{◌<◌, ◌≤◌, length, sym, ap, ◌∙◌, subst, arith}
use Rattle.lls_lit.specs.Formula.{Cnf, satisfies, IsUnsatisfiable}
use Rattle.lls_encode.specs.History.{HasAssignment}
use Rattle.lls_encode.specs.Images.{images_part, images_vars, formulated, HasOneOfKind}
use Rattle.lls_encode.specs.Room.{with_more}
use Rattle.lls_encode.proofs.Made.{few_vars, cells_among}
use Rattle.lls_encode.proofs.Chosen.{few_formulated, HasAssignment-formulated, HasOneOfKind-formulated, absent_by_formulated, IsSolution-formulated, IsLeft-formulated, unsatisfiable_by_absent}
use Rattle.lls_encode.proofs.images.formulate.Goals as goal

pub push_images-requires-clause-cells : goal.push_images-requires-clause-cells
push_images-requires-clause-cells c =
    subst (λ (f : Cnf). length c.args.problem.now.posed.cells ≤ f.vars) (sym c.in_ok-formula.ensures.formula) (cells_among c.args.problem.now c.args.formulation.form)

pub push_images-requires-clause-vars : goal.push_images-requires-clause-vars
push_images-requires-clause-vars c =
    let few = few_vars c.args.problem.now c.args.formulation.form c.posed-posed.ensures.kept c.demands-demands.ensures.kept in
    let vars = ap (λ (f : Cnf). f.vars) c.in_ok-formula.ensures.formula in
    omega (arith, few, vars)

pub returns-clause-formula : goal.returns-clause-formula
unfolding formulated
returns-clause-formula c =
    c.in_ok-push_images.ensures
    ∙ ap (λ (f : Cnf). with_more f (images_vars c.args.problem.now c.args.formulation.images) (images_part c.args.problem.now c.args.formulation.images f.vars)) c.in_ok-formula.ensures.formula

pub returns-clause-few : goal.returns-clause-few
returns-clause-few c =
    subst (λ (f : Cnf). length f.clauses < 200000000) (sym (returns-clause-formula c)) (few_formulated c.args.problem.now c.args.formulation c.posed-posed.ensures.kept c.demands-demands.ensures.kept)

pub returns-clause-complete : goal.returns-clause-complete
returns-clause-complete c = λ history solution left.
    subst (λ f. HasAssignment f history) (sym (returns-clause-formula c))
    (HasAssignment-formulated c.args.problem.now c.posed-posed.ensures.kept c.demands-demands.ensures.kept c.args.formulation history solution left)

pub returns-clause-kinds : goal.returns-clause-kinds
returns-clause-kinds c = λ history solution.
    subst (λ f. HasOneOfKind c.args.problem.now f history) (sym (returns-clause-formula c))
    (HasOneOfKind-formulated c.args.problem.now c.posed-posed.ensures.kept c.demands-demands.ensures.kept c.args.formulation history solution)

pub returns-clause-sound : goal.returns-clause-sound
returns-clause-sound c = λ values enough satisfied.
    IsSolution-formulated c.args.problem.now c.posed-posed.ensures.kept c.demands-demands.ensures.kept c.args.formulation values enough
    (sym (ap (λ (f : Cnf). satisfies values f.clauses) (returns-clause-formula c)) ∙ satisfied)

pub returns-clause-left : goal.returns-clause-left
returns-clause-left c = λ values enough satisfied.
    IsLeft-formulated c.args.problem.now c.posed-posed.ensures.kept c.demands-demands.ensures.kept c.args.formulation values enough
    (sym (ap (λ (f : Cnf). satisfies values f.clauses) (returns-clause-formula c)) ∙ satisfied)

pub returns-clause-absent : goal.returns-clause-absent
returns-clause-absent c = λ unsatisfiable.
    absent_by_formulated c.args.problem.now c.posed-posed.ensures.kept c.demands-demands.ensures.kept c.args.formulation
    (subst IsUnsatisfiable (returns-clause-formula c) unsatisfiable)

pub returns-clause-unsatisfiable : goal.returns-clause-unsatisfiable
returns-clause-unsatisfiable c = λ absent.
    subst IsUnsatisfiable (sym (returns-clause-formula c)) (unsatisfiable_by_absent c.args.problem.now c.posed-posed.ensures.kept c.demands-demands.ensures.kept c.args.formulation absent)
