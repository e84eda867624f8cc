use Rattle.std.proofs.Common.{List, [], subst}
use Rattle.std.specs.Prelude.{OnOk}
use Rattle.lls_trim.specs.Placed.{steps_of_text}
use Rattle.lls_trim.specs.Inferences.{Inference, inferences_of}
use Rattle.lls_trim.specs.Needed.{NeedsNoRat}
use Rattle.lls_trim.proofs.Founded.{IsProof, is_proof}
use Rattle.lls_trim.proofs.Readings.{accepted_text}
use Rattle.lls_trim.proofs.Laws.{some_inference, ordered_founded, given_founded}
use Rattle.lls_trim.proofs.Theorem.{call_trims_well}
use Rattle.lls_trim.proofs.text.trim_bytes.Goals as goal
use Rattle.lls_trim.proofs.text.trim_bytes.Goals.{In_ok-inferences}

-- the additions of the text, which is accepted
proof : (c : In_ok-inferences) → IsProof c.args.formula.now.clauses [] (inferences_of c.args.formula.now (steps_of_text c.args.text.now))
proof c = is_proof c.args.formula.now (steps_of_text c.args.text.now) (accepted_text c.args.formula.now c.args.text.now c.in_ok-inferences.ensures.accepted)

pub trim_inferences-requires-clause-some : goal.trim_inferences-requires-clause-some
trim_inferences-requires-clause-some c =
    let p = proof (goal.at.trim_inferences-requires-clause-some c).In_ok-inferences in
    rw c.in_ok-inferences.ensures.inferences (some_inference (inferences_of c.args.formula.now (steps_of_text c.args.text.now)) p.ends)

pub trim_inferences-requires-clause-ordered : goal.trim_inferences-requires-clause-ordered
trim_inferences-requires-clause-ordered c =
    let p = proof (goal.at.trim_inferences-requires-clause-ordered c).In_ok-inferences in
    rw c.in_ok-inferences.ensures.inferences (ordered_founded c.args.formula.now.clauses (inferences_of c.args.formula.now (steps_of_text c.args.text.now)) p.founded)

pub trim_inferences-requires-clause-given : goal.trim_inferences-requires-clause-given
trim_inferences-requires-clause-given c =
    let p = proof (goal.at.trim_inferences-requires-clause-given c).In_ok-inferences in
    rw (c.len.ensures.len, c.in_ok-inferences.ensures.inferences) (given_founded c.args.formula.now.clauses (inferences_of c.args.formula.now (steps_of_text c.args.text.now)) p.founded)

pub returns-clause-left : goal.returns-clause-left
returns-clause-left c =
    let formula = c.args.formula.now in
    let text = c.args.text.now in
    let accepted = accepted_text formula text c.in_ok-inferences.ensures.accepted in
    let does = c.trim_inferences.ensures in
    call_trims_well formula (steps_of_text text) accepted c.in_ok-inferences.inferences c.len.result c.trim_inferences.result
    c.in_ok-inferences.ensures.inferences c.len.ensures.len does.trims does.additions does.by_propagation

pub returns-clause-by_propagation : goal.returns-clause-by_propagation
returns-clause-by_propagation c =
    subst (λ (is : List Inference). OnOk c.trim_inferences.result (NeedsNoRat is)) c.in_ok-inferences.ensures.inferences c.trim_inferences.ensures.by_propagation
