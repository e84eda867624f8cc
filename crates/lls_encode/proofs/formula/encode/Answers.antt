-- The front, the transitions and the difference make the formula. What it says is the two theorems' matter.
use Rattle.std.proofs.Common.{◌≡◌, ◌<◌, ◌+◌, ◌∙◌, ap, sym, length, [], subst, ℕ, arith}
use Rattle.lls_lit.specs.Formula.{Cnf, satisfies, IsUnsatisfiable}
use Rattle.lls_encode.specs.Formula.{bounds_vars}
use Rattle.lls_encode.specs.History.{HasAssignment}
use Rattle.lls_encode.proofs.Complete.{HasAssignment-values_of, absent_from}
use Rattle.lls_encode.proofs.Sound.{IsSolution-history_of, unsatisfiable_from}
use Rattle.lls_encode.proofs.Made.{empty_of, few_after_vars, few_clauses, made, room_for_transitions, room_for_bounds, room_for_difference}
use Rattle.lls_encode.proofs.formula.encode.Goals as goal

abbrev with_vars : ℕ → Cnf
with_vars n = record { vars = n; clauses = [] }

pub push_transitions-requires-clause-room : goal.push_transitions-requires-clause-room
push_transitions-requires-clause-room c =
    let p = c.args.problem.now in
    let cells : length c.items-cells.result.now ≡ length p.posed.cells = ap length (c.items-cells.ensures ∙ ap (λ f. f.cells) (c.behind-problem.view_is ∙ c.posed.ensures.value)) in
    let empty : c.new-formula.result ≡ empty_of p = c.new-formula.ensures ∙ ap with_vars cells in
    let room = room_for_transitions p c.new-formula.result c.push_front.new.formula c.posed.ensures.kept c.demands-demands.ensures.kept empty c.in_ok-push_front.ensures in
    omega (arith, room)

pub push_bounds-requires-clause-room : goal.push_bounds-requires-clause-room
push_bounds-requires-clause-room c =
    let p = c.args.problem.now in
    let cells : length c.items-cells.result.now ≡ length p.posed.cells = ap length (c.items-cells.ensures ∙ ap (λ f. f.cells) (c.behind-problem.view_is ∙ c.posed.ensures.value)) in
    let empty : c.new-formula.result ≡ empty_of p = c.new-formula.ensures ∙ ap with_vars cells in
    let room = room_for_bounds p c.args.form c.push_front.new.formula c.push_transitions.new.formula c.posed.ensures.kept
    (room_for_transitions p c.new-formula.result c.push_front.new.formula c.posed.ensures.kept c.demands-demands.ensures.kept empty c.in_ok-push_front.ensures)
    c.in_ok-push_transitions.ensures in
    omega (arith, room)

pub push_difference-requires-clause-most : goal.push_difference-requires-clause-most
push_difference-requires-clause-most c =
    let p = c.args.problem.now in
    let cells : length c.items-cells.result.now ≡ length p.posed.cells = ap length (c.items-cells.ensures ∙ ap (λ f. f.cells) (c.behind-problem.view_is ∙ c.posed.ensures.value)) in
    let empty : c.new-formula.result.vars ≡ length c.items-cells.result.now = ap (λ (f : Cnf). f.vars) c.new-formula.ensures in
    let front : c.push_front.new.formula.vars ≡ c.new-formula.result.vars = ap (λ (f : Cnf). f.vars) c.in_ok-push_front.ensures in
    let transitions : c.push_transitions.new.formula.vars ≡ c.push_front.new.formula.vars = ap (λ (f : Cnf). f.vars) c.in_ok-push_transitions.ensures in
    let bounded : c.push_bounds.new.formula.vars ≡ c.push_transitions.new.formula.vars + bounds_vars p = ap (λ (f : Cnf). f.vars) c.in_ok-push_bounds.ensures in
    omega (arith, cells, empty, front, transitions, bounded, c.posed.ensures.kept.most, few_after_vars p c.posed.ensures.kept c.demands-demands.ensures.kept)

pub push_difference-requires-clause-room : goal.push_difference-requires-clause-room
push_difference-requires-clause-room c =
    let p = c.args.problem.now in
    let cells : length c.items-cells.result.now ≡ length p.posed.cells = ap length (c.items-cells.ensures ∙ ap (λ f. f.cells) (c.behind-problem.view_is ∙ c.posed.ensures.value)) in
    let empty : c.new-formula.result ≡ empty_of p = c.new-formula.ensures ∙ ap with_vars cells in
    let room = room_for_bounds p c.args.form c.push_front.new.formula c.push_transitions.new.formula c.posed.ensures.kept
    (room_for_transitions p c.new-formula.result c.push_front.new.formula c.posed.ensures.kept c.demands-demands.ensures.kept empty c.in_ok-push_front.ensures)
    c.in_ok-push_transitions.ensures in
    room_for_difference p c.push_transitions.new.formula c.push_bounds.new.formula c.posed.ensures.kept c.demands-demands.ensures.kept room c.in_ok-push_bounds.ensures

pub returns-clause-formula : goal.returns-clause-formula
returns-clause-formula c =
    let p = c.args.problem.now in
    let cells : length c.items-cells.result.now ≡ length p.posed.cells = ap length (c.items-cells.ensures ∙ ap (λ f. f.cells) (c.behind-problem.view_is ∙ c.posed.ensures.value)) in
    let empty : c.new-formula.result ≡ empty_of p = c.new-formula.ensures ∙ ap with_vars cells in
    made p c.args.form c.new-formula.result c.push_front.new.formula c.push_transitions.new.formula c.push_bounds.new.formula c.push_difference.new.formula empty
    c.in_ok-push_front.ensures c.in_ok-push_transitions.ensures c.in_ok-push_bounds.ensures c.in_ok-push_difference.ensures

pub returns-clause-few : goal.returns-clause-few
returns-clause-few c =
    let few = few_clauses c.args.problem.now c.args.form c.posed.ensures.kept c.demands-demands.ensures.kept in
    subst (λ (f : Cnf). length f.clauses < 200000000) (sym (returns-clause-formula c)) (omega (arith, few))

pub returns-clause-complete : goal.returns-clause-complete
returns-clause-complete c = λ history solution.
    subst (λ f. HasAssignment f history) (sym (returns-clause-formula c))
    (HasAssignment-values_of c.args.problem.now c.args.form c.posed.ensures.kept c.demands-demands.ensures.kept history solution)

pub returns-clause-absent : goal.returns-clause-absent
returns-clause-absent c = λ unsatisfiable.
    absent_from c.args.problem.now c.args.form c.posed.ensures.kept c.demands-demands.ensures.kept (subst IsUnsatisfiable (returns-clause-formula c) unsatisfiable)

pub returns-clause-sound : goal.returns-clause-sound
returns-clause-sound c = λ values enough satisfied.
    let is = returns-clause-formula c in
    IsSolution-history_of c.args.problem.now c.args.form c.posed.ensures.kept c.demands-demands.ensures.kept values enough
    (sym (ap (λ f. satisfies values f.clauses) is) ∙ satisfied)

pub returns-clause-unsatisfiable : goal.returns-clause-unsatisfiable
returns-clause-unsatisfiable c = λ absent.
    subst IsUnsatisfiable (sym (returns-clause-formula c)) (unsatisfiable_from c.args.problem.now c.args.form c.posed.ensures.kept c.demands-demands.ensures.kept absent)
