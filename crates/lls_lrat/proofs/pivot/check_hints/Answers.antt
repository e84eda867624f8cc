use Rattle.std.proofs.Common.{Some, Ok, Err, sym, ap, subst, ◌∙◌}
use Rattle.std.proofs.lemmas.Result.{err_from_is_err_and}
use Rattle.lls_prooflog.specs.Lent.{hints_of}
use Rattle.lls_prooflog.specs.Rat.{groups_of, rat_fault}
use Rattle.lls_lrat.specs.Walked.{EndsAs, walk_from}
use Rattle.lls_lrat.specs.Grouped.{IsTold}
use Rattle.lls_lrat.proofs.Walked.{said, walk_on-walk_from}
use Rattle.lls_lrat.proofs.Looking.{looked_at-closes, closes-within, looked_at-stays}
use Rattle.lls_lrat.proofs.Groups.{walk_refused}
use Rattle.lls_lrat.proofs.pivot.check_hints.Goals as goal

pub returns-in_err-end-clause-exact : goal.returns-in_err-end-clause-exact
returns-in_err-end-clause-exact c =
    let live = c.args.live.now.all in
    let lits = c.args.lits.now in
    let hints = hints_of c.args.hints in
    let at_end = rat_fault live lits (groups_of hints) in
    let ends = subst (λ ls. EndsAs (Err c.in_err-end.field-0.0) c.follow_hints.new.assumed.lits (walk_from live ls 0 hints)) c.requires.assumed c.in_err-end.ensures.exact in
    let p = err_from_is_err_and c.from_residual.result c.from_residual.ensures.1 in
    rw (p.1, p.2) (walk_refused c.in_err-end.field-0.0 c.follow_hints.new.assumed.lits _ _ at_end ends (λ w e. walk_on-walk_from live at_end lits 0 hints ∙ ap (said at_end) e))

pub returns-in-Conflict-clause-exact : goal.returns-in-Conflict-clause-exact
returns-in-Conflict-clause-exact c =
    let live = c.args.live.now.all in
    let lits = c.args.lits.now in
    let hints = hints_of c.args.hints in
    let at_end = rat_fault live lits (groups_of hints) in
    let ends = subst (λ ls. EndsAs (Ok c.in_ok-end.end) c.follow_hints.new.assumed.lits (walk_from live ls 0 hints)) c.requires.assumed c.in_ok-end.ensures.exact in
    let closes = rw c.in-Conflict.is at ends in
    walk_on-walk_from live at_end lits 0 hints ∙ ap (said at_end) closes

pub returns-in_ok-check_pivot-in-Open-clause-exact : goal.returns-in_ok-check_pivot-in-Open-clause-exact
returns-in_ok-check_pivot-in-Open-clause-exact c =
    let live = c.args.live.now.all in
    let lits = c.args.lits.now in
    let hints = hints_of c.args.hints in
    let at_end = rat_fault live lits (groups_of hints) in
    let ends = subst (λ ls. EndsAs (Ok c.in_ok-end.end) c.follow_hints.new.assumed.lits (walk_from live ls 0 hints)) c.requires.assumed c.in_ok-end.ensures.exact in
    let stays = rw c.in-Open.is at ends in
    let group = rw c.in-Open.is at c.in_ok-end.ensures.group in
    let fault = walk_on-walk_from live at_end lits 0 hints ∙ ap (said at_end) stays in
    fault ∙ sym (ap (λ gs. rat_fault live lits gs c.follow_hints.new.assumed.lits) group.groups) ∙ c.in_ok-check_pivot-in-Open.ensures.exact

pub returns-in_ok-check_pivot-in-Open-clause-looked : goal.returns-in_ok-check_pivot-in-Open-clause-looked
returns-in_ok-check_pivot-in-Open-clause-looked c =
    let live = c.args.live.now.all in
    let lits = c.args.lits.now in
    let hints = hints_of c.args.hints in
    let ends = subst (λ ls. EndsAs (Ok c.in_ok-end.end) c.follow_hints.new.assumed.lits (walk_from live ls 0 hints)) c.requires.assumed c.in_ok-end.ensures.exact in
    let stays = rw c.in-Open.is at ends in
    sym (looked_at-stays live lits 0 hints c.in-Open.place c.follow_hints.new.assumed.lits stays)

pub returns-in_err-check_pivot-in-Open-clause-exact : goal.returns-in_err-check_pivot-in-Open-clause-exact
returns-in_err-check_pivot-in-Open-clause-exact c =
    let live = c.args.live.now.all in
    let lits = c.args.lits.now in
    let hints = hints_of c.args.hints in
    let at_end = rat_fault live lits (groups_of hints) in
    let ends = subst (λ ls. EndsAs (Ok c.in_ok-end.end) c.follow_hints.new.assumed.lits (walk_from live ls 0 hints)) c.requires.assumed c.in_ok-end.ensures.exact in
    let stays = rw c.in-Open.is at ends in
    let group = rw c.in-Open.is at c.in_ok-end.ensures.group in
    let fault = walk_on-walk_from live at_end lits 0 hints ∙ ap (said at_end) stays in
    let p = err_from_is_err_and c.from_residual-in_err-check_pivot-in-Open.result c.from_residual-in_err-check_pivot-in-Open.ensures.1 in
    rw (p.1, p.2) (subst (IsTold (Some c.in_err-check_pivot-in-Open.field-0.0)) (ap (λ gs. rat_fault live lits gs c.follow_hints.new.assumed.lits) group.groups ∙ sym fault) c.in_err-check_pivot-in-Open.ensures.exact)

pub returns-in-Conflict-clause-looked : goal.returns-in-Conflict-clause-looked
returns-in-Conflict-clause-looked c =
    let live = c.args.live.now.all in
    let hints = hints_of c.args.hints in
    let ends = subst (λ ls. EndsAs (Ok c.in_ok-end.end) c.follow_hints.new.assumed.lits (walk_from live ls 0 hints)) c.requires.assumed c.in_ok-end.ensures.exact in
    let closes = rw c.in-Conflict.is at ends in
    looked_at-closes live c.args.lits.now hints c.in-Conflict.count closes

pub returns-in-Conflict-clause-within : goal.returns-in-Conflict-clause-within
returns-in-Conflict-clause-within c =
    let live = c.args.live.now.all in
    let hints = hints_of c.args.hints in
    let ends = subst (λ ls. EndsAs (Ok c.in_ok-end.end) c.follow_hints.new.assumed.lits (walk_from live ls 0 hints)) c.requires.assumed c.in_ok-end.ensures.exact in
    let closes = rw c.in-Conflict.is at ends in
    closes-within live c.args.lits.now hints c.in-Conflict.count closes
