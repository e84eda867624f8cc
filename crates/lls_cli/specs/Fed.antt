-- For private contracts alone: a proof that goes through its checker as it is read.
use Rattle.std.specs.Prelude.{◌≡◌, ◌<◌, ◌≤◌, ℕ, List, length, Option, Result, Ok, Err, IfSome}
use Rattle.lls_base.specs.Shelf.{Files}
use Rattle.lls_lit.specs.Formula.{Cnf}
use Rattle.lls_lrat.specs.Feeding.{FeedState}
use Rattle.lls_answers.specs.declared.answer.Answer.{Answer}
use Rattle.lls_cli.specs.declared.fault.Fault.{Fault}
use Rattle.lls_cli.specs.declared.fault.Fault.TheVariants as faults
use Rattle.lls_answers.specs.Questions.{Question}
use Rattle.lls_cli.specs.Question.{IsInput, proof_limit}
use Rattle.lls_answers.specs.Answer.{IsAnswer}
use Rattle.lls_answers.specs.Checks.{fed_with}

-- all that was left of an input was fed, or it has more bytes than a proof may
abbrev pub FedRest : Option (List ℕ) → FeedState → Result (Unit {0}) Fault → Type 0
FedRest rest feed (Ok done) = (bytes : List ℕ) × (length bytes ≤ proof_limit) × IfSome rest (λ all. all ≡ bytes) × (feed ≡ fed_with feed.formula bytes)
FedRest rest feed (Err fault) = (fault ≡ faults.TooLong proof_limit) × IfSome rest (λ all. proof_limit < length all)

-- all bytes of a file were fed, or it is refused
abbrev pub IsFed : Cnf → Option Files → List ℕ → Result FeedState Fault → Type 0
IsFed formula files name (Ok feed) = (bytes : List ℕ) × IsInput files name proof_limit (Ok bytes) × (feed ≡ fed_with formula bytes)
IsFed formula files name (Err fault) = IsInput files name proof_limit (Err fault)

-- the file of a proof comes to a right answer to what its bytes ask, or it is refused
abbrev pub ProofComesTo : (List ℕ → Question) → Option Files → List ℕ → Result Answer Fault → Type 0
ProofComesTo asks files name (Ok answer) = (bytes : List ℕ) × IsInput files name proof_limit (Ok bytes) × IsAnswer (asks bytes) answer
ProofComesTo asks files name (Err fault) = IsInput files name proof_limit (Err fault)
