use Rattle.std.proofs.Common.{◌≡◌, ℕ, ◌<◌, ◌^◌, Some, Ok, Err, drop, ◌++◌, w64, sym, ap, subst, ◌∙◌}
use Rattle.std.specs.Prelude.{ℤ}
use Rattle.std.proofs.lemmas.Result.{err_from_is_err_and}
use mir.Val.{to_z, of_z}
use lib.Signed.{mag}
use Rattle.lls_prooflog.specs.declared.step_fault.StepFault.TheVariants.{NoConflict}
use Rattle.lls_lit.specs.Literal.{variable_of}
use Rattle.lls_lit.specs.Formula.{Clause}
use Rattle.lls_prooflog.specs.UnitWalk.{Live, find_clause, is_among}
use Rattle.lls_prooflog.specs.Lent.{hints_of}
use Rattle.lls_prooflog.proofs.PrintedNumbers.{same_number}
use Rattle.lls_prooflog.specs.Rat.{others, has_true}
use Rattle.lls_lrat.specs.Walked.{EndsAs, walk_from}
use Rattle.lls_lrat.proofs.Within.{found_within}
use Rattle.lls_lrat.proofs.Groups.{group_closes, walk_refused}
use Rattle.lls_lrat.proofs.pivot.check_group.Goals as goal

-- the clause that the hint names
found_at : (hint : ℤ) (clause : Clause) (live : Live) → mag hint < 2 ^ 63 → (id : ℕ) → id ≡ variable_of (to_z w64 (of_z w64 hint)) → find_clause live id ≡ Some clause → find_clause live (variable_of hint) ≡ Some clause
found_at hint clause live fits id is found = ap (λ h. find_clause live (variable_of h)) (sym (same_number hint fits)) ∙ ap (find_clause live) (sym is) ∙ found

pub has_true-requires : goal.has_true-requires
has_true-requires c = found_within c.args.assumed.now.vars c.args.live.now.all c.id_of-id.result c.in-Some.clause.now c.requires.within (sym c.in-Some.ensures)

pub assume_others-requires : goal.assume_others-requires
assume_others-requires c = found_within c.args.assumed.now.vars c.args.live.now.all c.id_of-id.result c.in-Some.clause.now c.requires.within (sym c.in-Some.ensures)

pub returns-in_err-follow_hints-clause-exact : goal.returns-in_err-follow_hints-clause-exact
returns-in_err-follow_hints-clause-exact c =
    let live = c.args.live.now.all in
    let hints = drop c.args.from (hints_of c.args.hints) in
    let clause = c.in-Some.clause.now in
    let found = found_at c.args.hint clause live c.ranges.hint.sfits c.id_of-id.result c.id_of-id.ensures (sym c.in-Some.ensures) in
    let holds = ap (is_among clause) (sym c.negated-negated.ensures) ∙ sym c.if-not-holds.ensures in
    let none = ap (λ n. has_true c.args.assumed.now.lits (others n clause)) (sym c.negated-negated.ensures) ∙ sym c.if-has_true.ensures in
    let start = c.in_ok-assume_others.ensures.ok ∙ ap (λ n. c.args.assumed.now.lits ++ others n clause) c.negated-negated.ensures in
    let ends = subst (λ ls. EndsAs (Err c.in_err-follow_hints.field-0.0) c.follow_hints.new.assumed.lits (walk_from live ls c.args.from hints)) start c.in_err-follow_hints.ensures.exact in
    let p = err_from_is_err_and c.from_residual-in_err-follow_hints.result c.from_residual-in_err-follow_hints.ensures.1 in
    rw (p.1, p.2)
    (walk_refused c.in_err-follow_hints.field-0.0 c.follow_hints.new.assumed.lits _ _ (λ _. Some NoConflict) ends (group_closes live c.args.pivot c.args.assumed.now.lits (variable_of c.args.hint) hints clause found c.args.from holds none))

pub returns-in-Conflict-clause-exact : goal.returns-in-Conflict-clause-exact
returns-in-Conflict-clause-exact c =
    let live = c.args.live.now.all in
    let hints = drop c.args.from (hints_of c.args.hints) in
    let clause = c.in-Some.clause.now in
    let found = found_at c.args.hint clause live c.ranges.hint.sfits c.id_of-id.result c.id_of-id.ensures (sym c.in-Some.ensures) in
    let holds = ap (is_among clause) (sym c.negated-negated.ensures) ∙ sym c.if-not-holds.ensures in
    let none = ap (λ n. has_true c.args.assumed.now.lits (others n clause)) (sym c.negated-negated.ensures) ∙ sym c.if-has_true.ensures in
    let start = c.in_ok-assume_others.ensures.ok ∙ ap (λ n. c.args.assumed.now.lits ++ others n clause) c.negated-negated.ensures in
    let ends = subst (λ ls. EndsAs (Ok c.in_ok-follow_hints.field-0) c.follow_hints.new.assumed.lits (walk_from live ls c.args.from hints)) start c.in_ok-follow_hints.ensures.exact in
    let closes = rw c.in-Conflict.is at ends in
    group_closes live c.args.pivot c.args.assumed.now.lits (variable_of c.args.hint) hints clause found c.args.from holds none _ closes

pub returns-in-Open-clause-exact : goal.returns-in-Open-clause-exact
returns-in-Open-clause-exact c =
    let live = c.args.live.now.all in
    let hints = drop c.args.from (hints_of c.args.hints) in
    let clause = c.in-Some.clause.now in
    let found = found_at c.args.hint clause live c.ranges.hint.sfits c.id_of-id.result c.id_of-id.ensures (sym c.in-Some.ensures) in
    let holds = ap (is_among clause) (sym c.negated-negated.ensures) ∙ sym c.if-not-holds.ensures in
    let none = ap (λ n. has_true c.args.assumed.now.lits (others n clause)) (sym c.negated-negated.ensures) ∙ sym c.if-has_true.ensures in
    let start = c.in_ok-assume_others.ensures.ok ∙ ap (λ n. c.args.assumed.now.lits ++ others n clause) c.negated-negated.ensures in
    let ends = subst (λ ls. EndsAs (Ok c.in_ok-follow_hints.field-0) c.follow_hints.new.assumed.lits (walk_from live ls c.args.from hints)) start c.in_ok-follow_hints.ensures.exact in
    let stays = rw c.in-Open.is at ends in
    rw c.into-in-Open.ensures (group_closes live c.args.pivot c.args.assumed.now.lits (variable_of c.args.hint) hints clause found c.args.from holds none _ stays)
