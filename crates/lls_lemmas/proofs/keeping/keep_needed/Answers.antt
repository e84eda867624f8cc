use Rattle.std.proofs.Common.{◌≡◌, ◌≤◌, ℕ, List, Bool, length, sym, ap, subst, ◌∙◌, arith}
use Rattle.std.specs.Prelude.{count_by}
use Rattle.lls_prooflog.specs.Log.{Logged}
use Rattle.lls_prooflog.specs.Spent.{EachStep, is_addition, log_start}
use Rattle.lls_prooflog.specs.declared.step.Step.{Step}
use Rattle.lls_lemmas.specs.Lemmas.{EndsEmpty, HasNoFault}
use Rattle.lls_lemmas.specs.Rest.{keeps, kept_steps}
use Rattle.lls_lemmas.proofs.Reading.{if_ok_weaker}
use Rattle.lls_lemmas.proofs.RestMarks.{rising_from}
use Rattle.lls_lemmas.proofs.RestSteps.{fewer_left, rest_ends, rest_well}
use Rattle.lls_lemmas.proofs.keeping.keep_needed.Goals as goal

pub mark_needed-requires-clause-rising : goal.mark_needed-requires-clause-rising
mark_needed-requires-clause-rising c = rising_from 0 (length c.args.formula.now.clauses) c.args.log.now.steps (omega arith) c.requires.rising

-- by the names of the call
kept_as : (given n : ℕ) (marks items : List Bool) (steps rest : List Step) → given ≡ n → marks ≡ items → rest ≡ kept_steps (keeps given marks) steps → rest ≡ kept_steps (keeps n items) steps
kept_as given n marks items steps rest same same' is = is ∙ ap (λ m. kept_steps (keeps m marks) steps) same ∙ ap (λ (ms : List Bool). kept_steps (keeps n ms) steps) same'

pub returns-clause-well : goal.returns-clause-well
returns-clause-well c =
    let formula = c.args.formula.now in
    let steps = c.args.log.now.steps in
    let P : List Step → Type 0 = λ ss. EachStep HasNoFault (log_start formula) ss in
    if_ok_weaker {P = λ (rest : Logged). rest.steps ≡ kept_steps (keeps c.len-given.result c.as_slice.result.now) steps} {Q = λ (rest : Logged). P rest.steps} c.take_kept.result
    (λ rest is. subst P (sym (kept_as c.len-given.result (length formula.clauses) c.as_slice.result.now c.in_ok-marks.marks.items steps rest.steps c.len-given.ensures.len c.as_slice.ensures.value is)) (rest_well formula steps c.in_ok-marks.marks.items c.requires.rising c.in_ok-marks.ensures c.requires.well)) c.take_kept.ensures

pub returns-clause-ends : goal.returns-clause-ends
returns-clause-ends c =
    let formula = c.args.formula.now in
    let steps = c.args.log.now.steps in
    if_ok_weaker {P = λ (rest : Logged). rest.steps ≡ kept_steps (keeps c.len-given.result c.as_slice.result.now) steps} {Q = λ (rest : Logged). EndsEmpty rest.steps} c.take_kept.result
    (λ rest is. subst EndsEmpty (sym (kept_as c.len-given.result (length formula.clauses) c.as_slice.result.now c.in_ok-marks.marks.items steps rest.steps c.len-given.ensures.len c.as_slice.ensures.value is)) (rest_ends formula steps c.in_ok-marks.marks.items c.requires.rising c.in_ok-marks.ensures c.requires.ends)) c.take_kept.ensures

pub returns-clause-fewer : goal.returns-clause-fewer
returns-clause-fewer c =
    let steps = c.args.log.now.steps in
    let P : List Step → Type 0 = λ ss. count_by is_addition ss ≤ count_by is_addition steps in
    if_ok_weaker {P = λ (rest : Logged). rest.steps ≡ kept_steps (keeps c.len-given.result c.as_slice.result.now) steps} {Q = λ (rest : Logged). P rest.steps} c.take_kept.result
    (λ rest is. subst P (sym is) (fewer_left (keeps c.len-given.result c.as_slice.result.now) steps)) c.take_kept.ensures
