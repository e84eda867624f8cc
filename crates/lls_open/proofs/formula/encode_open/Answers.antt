-- What stands before the transitions, the transitions and what stands behind them make the formula. What it says is the two
-- theorems' matter.
use Rattle.std.proofs.Common.{◌≡◌, ℕ, ◌+◌, ◌≤◌, [], length, ◌∙◌, ap, sym, subst, arith, rules}
use Rattle.lls_lit.specs.Formula.{Cnf, satisfies, IsUnsatisfiable}
use Rattle.lls_encode.proofs.Made.{empty_of, length-front_part, length-after_part, few_after_vars}
use Rattle.lls_open.specs.Classes.{open_classes}
use Rattle.lls_open.specs.Decoding.{HasOpenAssignment}
use Rattle.lls_open.specs.Formula.{formula_with, open_formula}
use Rattle.lls_open.proofs.Complete.{HasOpenAssignment-values_of, openly_absent_from}
use Rattle.lls_open.proofs.Sound.{IsOpenSolution-by_clauses, unsatisfiable_from}
use Rattle.lls_open.proofs.Whole.{few_classes, made, few_front, few_transitions}
use Rattle.lls_open.proofs.formula.encode_open.Goals as goal

abbrev with_vars : ℕ → Cnf
with_vars n = record { vars = n; clauses = [] }

abbrev with_more_vars : Cnf → ℕ → Cnf
with_more_vars formula n = record formula { vars = formula.vars + n }

pub push_before-requires-clause-room : goal.push_before-requires-clause-room
push_before-requires-clause-room c =
    let none : length c.new-formula.result.clauses ≡ 0 = ap (λ (f : Cnf). length f.clauses) c.new-formula.ensures in
    omega (arith, none, length-front_part c.args.problem.now c.posed.ensures.kept c.demands-demands.ensures.kept)

pub overflow_cast-len : goal.overflow_cast-len
overflow_cast-len c =
    let count : c.len.result ≤ 102 = omega (arith, c.len.ensures, ap length c.in_ok-classes.ensures, few_classes c.rule.result.now c.args.high.now) in
    search (rules, count)

pub more_vars-requires : goal.more_vars-requires
more_vars-requires c =
    let p = c.args.problem.now in
    let cells : length c.items-cells.result.now ≡ length p.posed.cells = ap length (c.items-cells.ensures ∙ ap (λ f. f.cells) (c.behind-problem.view_is ∙ c.posed.ensures.value)) in
    let vars : c.push_before.new.formula.vars ≡ length c.items-cells.result.now = ap (λ (f : Cnf). f.vars) c.in_ok-push_before.ensures.ok ∙ ap (λ (f : Cnf). f.vars) c.new-formula.ensures in
    omega (arith, vars, cells, c.requires.few, c.len.ensures, ap length c.in_ok-classes.ensures, few_classes c.rule.result.now c.args.high.now)

pub push_open-requires-clause-few : goal.push_open-requires-clause-few
push_open-requires-clause-few c =
    omega (arith, ap length (c.deref.ensures.value ∙ c.in_ok-classes.ensures), few_classes c.rule.result.now c.args.high.now)

pub push_open-requires-clause-room : goal.push_open-requires-clause-room
push_open-requires-clause-room c =
    let p = c.args.problem.now in
    let cells : length c.items-cells.result.now ≡ length p.posed.cells = ap length (c.items-cells.ensures ∙ ap (λ f. f.cells) (c.behind-problem.view_is ∙ c.posed.ensures.value)) in
    let none : c.new-formula.result ≡ empty_of p = c.new-formula.ensures ∙ ap with_vars cells in
    let wider = c.more_vars.ensures.more ∙ ap (λ n. with_more_vars c.push_before.new.formula n) (c.len.ensures ∙ sym c.deref.ensures.len) in
    let front = few_front p c.deref.result.now c.new-formula.result c.push_before.new.formula c.more_vars.new.self c.posed.ensures.kept c.demands-demands.ensures.kept none c.in_ok-push_before.ensures.ok wider in
    omega (arith, front)

pub push_after-requires-clause-vars : goal.push_after-requires-clause-vars
push_after-requires-clause-vars c =
    let p = c.args.problem.now in
    let cells : length c.items-cells.result.now ≡ length p.posed.cells = ap length (c.items-cells.ensures ∙ ap (λ f. f.cells) (c.behind-problem.view_is ∙ c.posed.ensures.value)) in
    let vars : c.push_before.new.formula.vars ≡ length c.items-cells.result.now = ap (λ (f : Cnf). f.vars) c.in_ok-push_before.ensures.ok ∙ ap (λ (f : Cnf). f.vars) c.new-formula.ensures in
    let more : c.push_open.new.formula.vars ≡ c.push_before.new.formula.vars + c.len.result = ap (λ (f : Cnf). f.vars) c.in_ok-push_open.ensures ∙ ap (λ (f : Cnf). f.vars) c.more_vars.ensures.more in
    omega (
      arith,
      vars,
      more,
      cells,
      c.requires.few,
      c.len.ensures,
      ap length c.in_ok-classes.ensures,
      few_classes c.rule.result.now c.args.high.now,
      few_after_vars p c.posed.ensures.kept c.demands-demands.ensures.kept,
    )

pub push_after-requires-clause-room : goal.push_after-requires-clause-room
push_after-requires-clause-room c =
    let p = c.args.problem.now in
    let cells : length c.items-cells.result.now ≡ length p.posed.cells = ap length (c.items-cells.ensures ∙ ap (λ f. f.cells) (c.behind-problem.view_is ∙ c.posed.ensures.value)) in
    let none : c.new-formula.result ≡ empty_of p = c.new-formula.ensures ∙ ap with_vars cells in
    let wider = c.more_vars.ensures.more ∙ ap (λ n. with_more_vars c.push_before.new.formula n) (c.len.ensures ∙ sym c.deref.ensures.len) in
    let front = few_front p c.deref.result.now c.new-formula.result c.push_before.new.formula c.more_vars.new.self c.posed.ensures.kept c.demands-demands.ensures.kept none c.in_ok-push_before.ensures.ok wider in
    let few : length c.deref.result.now ≤ 102 = omega (arith, ap length (c.deref.ensures.value ∙ c.in_ok-classes.ensures), few_classes c.rule.result.now c.args.high.now) in
    let all = few_transitions p c.args.form c.deref.result.now c.more_vars.new.self c.push_open.new.formula c.posed.ensures.kept c.requires.few few front c.in_ok-push_open.ensures in
    omega (arith, all, length-after_part p c.posed.ensures.kept c.demands-demands.ensures.kept c.push_open.new.formula.vars)

pub returns-clause-formula : goal.returns-clause-formula
unfolding open_formula
returns-clause-formula c =
    let p = c.args.problem.now in
    let cells : length c.items-cells.result.now ≡ length p.posed.cells = ap length (c.items-cells.ensures ∙ ap (λ f. f.cells) (c.behind-problem.view_is ∙ c.posed.ensures.value)) in
    let none : c.new-formula.result ≡ empty_of p = c.new-formula.ensures ∙ ap with_vars cells in
    let wider = c.more_vars.ensures.more ∙ ap (λ n. with_more_vars c.push_before.new.formula n) (c.len.ensures ∙ sym c.deref.ensures.len) in
    let classes : c.deref.result.now ≡ open_classes p.rule c.args.high.now = c.deref.ensures.value ∙ c.in_ok-classes.ensures ∙ ap (λ low. open_classes low c.args.high.now) c.rule.ensures in
    made p c.args.form c.deref.result.now c.new-formula.result c.push_before.new.formula c.more_vars.new.self c.push_open.new.formula c.push_after.new.formula
    none c.in_ok-push_before.ensures.ok wider c.in_ok-push_open.ensures c.in_ok-push_after.ensures.ok
    ∙ ap (formula_with p c.args.form) classes

pub returns-clause-complete : goal.returns-clause-complete
returns-clause-complete c = λ history rule found.
    let p = c.args.problem.now in
    subst (λ f. HasOpenAssignment p c.args.high.now f history rule) (sym (returns-clause-formula c))
    (HasOpenAssignment-values_of p c.args.form c.args.high.now c.posed.ensures.kept c.demands-demands.ensures.kept c.requires.ends history rule found)

pub returns-clause-sound : goal.returns-clause-sound
returns-clause-sound c = λ values enough satisfied.
    IsOpenSolution-by_clauses c.args.problem.now c.args.form c.args.high.now values c.posed.ensures.kept c.demands-demands.ensures.kept c.requires.ends enough
    (sym (ap (λ (f : Cnf). satisfies values f.clauses) (returns-clause-formula c)) ∙ satisfied)

pub returns-clause-absent : goal.returns-clause-absent
returns-clause-absent c = λ unsatisfiable.
    openly_absent_from c.args.problem.now c.args.form c.args.high.now c.posed.ensures.kept c.demands-demands.ensures.kept c.requires.ends (subst IsUnsatisfiable (returns-clause-formula c) unsatisfiable)

pub returns-clause-unsatisfiable : goal.returns-clause-unsatisfiable
returns-clause-unsatisfiable c = λ absent.
    subst IsUnsatisfiable (sym (returns-clause-formula c))
    (unsatisfiable_from c.args.problem.now c.args.form c.args.high.now c.posed.ensures.kept c.demands-demands.ensures.kept c.requires.ends absent)
