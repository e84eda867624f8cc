use Rattle.lls_answers.proofs.Searches.{proof_of}
use Rattle.lls_answers.proofs.evidence.proof_file.Goals as goal

pub check_proof-requires : goal.check_proof-requires
check_proof-requires c = c.requires.refutes.accepted

pub returns-clause-proof : goal.returns-clause-proof
returns-clause-proof c =
    let file = c.in_ok-file.ensures in
    proof_of c.args.formula.now c.args.effort c.args.log.now.steps c.in_ok-file.file file.file c.requires (c.in_ok-checked.ensures.accepted c.in_ok-file.file.bytes file.read_again)
