use Rattle.std.proofs.Common.{◌≡◌, ◌+◌, None, Some, drop, w64, sym, subst, ◌∙◌, arith}
use Rattle.std.specs.Prelude.{pos}
use Rattle.std.proofs.lemmas.Option.{get_or_from_slice_get}
use Rattle.std.proofs.lemmas.Result.{err_from_is_err_and}
use mir.Val.{to_z, of_z}
use Rattle.lls_lit.specs.Literal.{variable_of}
use Rattle.lls_prooflog.specs.Rat.{group_fault}
use Rattle.lls_lrat.specs.Entered.{AssumedState}
use Rattle.lls_lrat.specs.Grouped.{IsTold}
use Rattle.lls_prooflog.specs.Lent.{hints_of}
use Rattle.lls_prooflog.proofs.PrintedNumbers.{same_number}
use Rattle.lls_lrat.proofs.Groups.{hint_negative, groups_on, group_refused}
use Rattle.lls_lrat.proofs.pivot.check_groups.Goals as goal

pub check_group-requires-clause-negative : goal.check_group-requires-clause-negative
check_group-requires-clause-negative c =
    hint_negative c.args.live.now.all c.args.pivot c.args.assumed.now.lits (hints_of c.args.hints) c.args.from c.loop-place.ids.items c.loop-place.place c.loop-place.invariant.0 (to_z w64 (of_z w64 c.get-hint.result))
    (omega (arith, c.loop-place-test.true, c.len.ensures)) (same_number c.get-hint.result c.get-hint.type_inv ∙ sym (get_or_from_slice_get (hints_of c.args.hints) c.loop-place.place c.get-hint.result (pos 0) c.get-hint.ensures))

pub returns-in_err-check_group-clause-exact : goal.returns-in_err-check_group-clause-exact
returns-in_err-check_group-clause-exact c =
    let p = err_from_is_err_and c.from_residual.result c.from_residual.ensures.1 in
    rw (p.1, p.2)
    (group_refused c.in_err-check_group.field-0.0 c.args.live.now.all c.args.pivot c.args.assumed.now.lits (hints_of c.args.hints) c.args.from c.loop-place.ids.items c.loop-place.place c.loop-place.invariant.0 (to_z w64 (of_z w64 c.get-hint.result))
    (omega (arith, c.loop-place-test.true, c.len.ensures)) (same_number c.get-hint.result c.get-hint.type_inv ∙ sym (get_or_from_slice_get (hints_of c.args.hints) c.loop-place.place c.get-hint.result (pos 0) c.get-hint.ensures))
    (subst (λ (a : AssumedState). IsTold (Some c.in_err-check_group.field-0.0) (group_fault c.args.live.now.all c.args.pivot a.lits (record { id = variable_of (to_z w64 (of_z w64 c.get-hint.result)); hints = drop (c.loop-place.place + 1) (hints_of c.args.hints) }))) c.loop-place.invariant.1 c.in_err-check_group.ensures.exact))

pub loop-place-preserved : goal.loop-place-preserved
loop-place-preserved c =
    let hint = to_z w64 (of_z w64 c.get-hint.result) in
    let good : group_fault c.args.live.now.all c.args.pivot c.args.assumed.now.lits (record { id = variable_of hint; hints = drop (c.loop-place.place + 1) (hints_of c.args.hints) }) ≡ None =
    subst (λ (a : AssumedState). group_fault c.args.live.now.all c.args.pivot a.lits (record { id = variable_of hint; hints = drop (c.loop-place.place + 1) (hints_of c.args.hints) }) ≡ None) c.loop-place.invariant.1 c.in_ok-check_group.ensures.exact
    in
    let on = groups_on c.args.live.now.all c.args.pivot c.args.assumed.now.lits (hints_of c.args.hints) c.args.from c.loop-place.ids.items c.loop-place.place c.loop-place.invariant.0 hint
    (omega (arith, c.loop-place-test.true, c.len.ensures)) (same_number c.get-hint.result c.get-hint.type_inv ∙ sym (get_or_from_slice_get (hints_of c.args.hints) c.loop-place.place c.get-hint.result (pos 0) c.get-hint.ensures))
    c.next_group-place.result good c.next_group-place.ensures
    in (rw (c.in_ok-note.ensures, c.id_of.ensures) on, c.in_ok-check_group.ensures.kept ∙ c.loop-place.invariant.1)
