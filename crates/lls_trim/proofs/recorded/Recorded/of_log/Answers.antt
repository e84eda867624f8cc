use Rattle.std.proofs.Common.{[]}
use Rattle.lls_trim.specs.Placed.{steps_of_log}
use Rattle.lls_trim.specs.Inferences.{inferences_of}
use Rattle.lls_trim.specs.Recorded.{IsRecorded}
use Rattle.lls_lrat.proofs.Logs.{log_accepted}
use Rattle.lls_trim.proofs.Founded.{IsProof, is_proof}
use Rattle.lls_trim.proofs.Readings.{accepted_steps}
use Rattle.lls_trim.proofs.Laws.{some_inference, ordered_founded, given_founded}
use Rattle.lls_trim.proofs.recorded.Recorded.of_log.Goals as goal

pub invariant_of-result : goal.invariant_of-result
invariant_of-result c =
    let formula = c.args.formula.now in
    let steps = c.args.log.now.steps in
    let inferences = inferences_of formula (steps_of_log steps) in
    let p : IsProof formula.clauses [] inferences = is_proof formula (steps_of_log steps) (accepted_steps formula steps c.in_ok-inferences.ensures.accepted) in
    let recorded : IsRecorded formula inferences = record {
      some = some_inference inferences p.ends;
      ordered = ordered_founded formula.clauses inferences p.founded;
      given = given_founded formula.clauses inferences p.founded;
    } in
    rw c.in_ok-inferences.ensures.inferences recorded

pub returns-clause-accepted : goal.returns-clause-accepted
returns-clause-accepted c = log_accepted c.args.formula.now c.args.log.now.steps c.in_ok-inferences.ensures.accepted
