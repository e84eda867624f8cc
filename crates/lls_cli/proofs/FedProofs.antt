-- A proof that goes through its checker as its file is read.
use Rattle.std.proofs.Common.{◌≡◌, ◌≢◌, ◌<◌, ◌≤◌, ◌+◌, ℕ, List, ◌++◌, length, drop, take, Option, Some, None, Result, Ok, Err, IfSome, IsSome, refl, sym, ap, subst, ◌∙◌, arith, nat_lt, true, length-drop}
use Rattle.std.specs.FinMap as map
use Rattle.std.proofs.lemmas.Bool.Decides.{nat_tests}
use Rattle.std.specs.Option.{option_map}
use Rattle.std.proofs.lemmas.List.{length-append, length-take-le, take_all}
use Rattle.lls_base.specs.Shelf.{Contents, Files, OpensAsTold, ReadsFront, after_open, known_files, known_rest, known_target}
use Rattle.lls_base.proofs.Rest.{IsFront, IsFront-more}
use Rattle.lls_lit.specs.Formula.{Cnf}
use Rattle.lls_lrat.specs.declared.checker.Progress.{Progress}
use Rattle.lls_lrat.specs.declared.error.CheckError.{CheckError}
use Rattle.lls_lrat.specs.declared.error.CheckError.TheVariants as errors
use Rattle.lls_lrat.specs.Feeding.{Feeding, FeedState, begun, fed, piece_answer}
use Rattle.lls_lrat.proofs.Feedings.{fed_fed}
use Rattle.lls_answers.specs.Answer.{IsAnswer}
use Rattle.lls_answers.specs.declared.answer.Answer.{Answer}
use Rattle.lls_answers.specs.Questions.{Question}
use Rattle.lls_answers.specs.Questions as questions
use Rattle.lls_answers.specs.Subject.{Subject}
use Rattle.lls_cli.specs.declared.task.Source.{Source}
use Rattle.lls_cli.specs.declared.task.Task.TheVariants as tasks
use Rattle.lls_cli.specs.declared.fault.Fault.{Fault}
use Rattle.lls_cli.specs.declared.fault.Fault.TheVariants as faults
use Rattle.lls_cli.specs.Fed.{FedRest, IsFed, ProofComesTo}
use Rattle.lls_answers.specs.Checks.{fed_with}
use Rattle.lls_outside.specs.Moment.{ShelfMoment, files_at}
use Rattle.lls_cli.specs.Question.{Asking, AsksBy, IsInput, input_from, made_of, proof_limit, subject_asked}
use Rattle.lls_cli.specs.Steps.{ComesTo, Reads}
use Rattle.lls_cli.proofs.Asked.{AsksBy-then, Reads-behind}
use Rattle.lls_cli.proofs.Stopped.{Stops-along, Stops-from}

-- one more piece has come
fed_more : (formula : Cnf) (old now : Option Feeding) (bytes piece : List ℕ) → old ≡ Some (fed (begun formula) bytes) → now ≡ option_map (λ f. fed f piece) old
    → now ≡ Some (fed (begun formula) (bytes ++ piece))
fed_more formula old now bytes piece first next = next ∙ ap (option_map (λ f. fed f piece)) first ∙ ap Some (fed_fed (begun formula) bytes piece)

-- what has come of an input: its first n bytes
pub record HasFed (formula : Cnf) (feeding : Option Feeding) (rest : Option (List ℕ)) (n : ℕ) : Type 0 where
  pub bytes : List ℕ
  pub many : length bytes ≡ n
  pub fed_is : feeding ≡ Some (fed (begun formula) bytes)
  pub front : IfSome rest (IsFront n bytes)

-- a read of k bytes was fed
pub HasFed-more : (formula : Cnf) (old now : Option Feeding) (rest : Option (List ℕ)) (n k : ℕ) (buffer : List ℕ) → k ≤ length buffer → HasFed formula old rest n
    → now ≡ option_map (λ f. fed f (take k buffer)) old → IfSome (option_map (drop n) rest) (λ left. ReadsFront k left buffer) → HasFed formula now rest (n + k)
HasFed-more formula old now rest n k buffer within has next read = record {
  bytes = has.bytes ++ take k buffer;
  many = length-append has.bytes (take k buffer) ∙ omega (arith, has.many, length-take-le k buffer within);
  fed_is = fed_more formula old now has.bytes (take k buffer) has.fed_is next;
  front = IsFront-more rest n k has.bytes buffer has.front read;
}

-- where memory didn't lack, there is a check
pub some_fed : (feeding : Option Feeding) (result : Result Progress CheckError) → result ≡ piece_answer feeding → result ≢ Err errors.Memory → IsSome feeding
some_fed None result is other = absurd (other is)
some_fed (Some f) result is other = refl

pub fed_with-is : (state : FeedState) (formula : Cnf) (bytes : List ℕ) → state.formula ≡ formula → state.feeding ≡ Some (fed (begun formula) bytes) → state ≡ fed_with state.formula bytes
fed_with-is state formula bytes same is = ap (λ (feeding : Option Feeding). record { formula = state.formula; feeding = feeding }) (is ∙ ap (λ (f : Cnf). Some (fed (begun f) bytes)) (sym same))

-- the bytes that came are all, once a read takes none
pub all_read : (rest : Option (List ℕ)) (n : ℕ) (bytes buffer : List ℕ) → IfSome rest (IsFront n bytes) → IfSome (option_map (drop n) rest) (λ left. ReadsFront 0 left buffer) → 0 < length buffer
    → IfSome rest (λ all. all ≡ bytes)
all_read None n bytes buffer front end room = tt
all_read (Some rest) n bytes buffer front end room =
    let none : length (drop n rest) ≡ 0 = ap length (end.end refl room) in
    let short : length rest ≤ n = omega (arith, none, length-drop n rest) in
    sym (front.whole ∙ take_all n rest short)

-- an input of more bytes than a proof may have is refused for that
from_long : (found : Option (List ℕ)) (fault : Fault) → IsSome found → fault ≡ faults.TooLong proof_limit → IfSome found (λ all. proof_limit < length all)
    → Err fault ≡ input_from proof_limit found
from_long None fault there is long = search (there)
from_long (Some bytes) fault there is long = let more : nat_lt proof_limit (length bytes) ≡ true = grind (arith, nat_tests, long) in rw (is, more) refl

too_long : (before : Option Contents) (name : List ℕ) (feed : FeedState) (fault : Fault) → IfSome before (OpensAsTold name (Ok tt))
    → FedRest (known_rest (option_map (after_open name (Ok tt)) before)) feed (Err fault) → IsInput (known_files before) name proof_limit (Err fault)
too_long None name feed fault there long = rw long.0 refl
too_long (Some c) name feed fault there long = from_long (map.get c.files name) fault there long.0 long.1

files_opened : (told : Option Contents) (name : List ℕ) → known_files (option_map (after_open name (Ok tt)) told) ≡ known_files told
files_opened None name = refl
files_opened (Some c) name = refl

target_opened : (told : Option Contents) (name : List ℕ) → known_target (option_map (after_open name (Ok tt)) told) ≡ known_target told
target_opened None name = refl
target_opened (Some c) name = refl

-- an input that was opened and couldn't be fed
pub not_fed : (before opened after : ShelfMoment) (name : List ℕ) (formula : Cnf) (feed : FeedState) (fault : Fault)
    → opened.told ≡ option_map (after_open name (Ok tt)) before.told → IfSome before.told (OpensAsTold name (Ok tt)) → opened.has_output ≡ before.has_output
    → opened.faults ≡ before.faults → Reads {X = Unit {0}} (FedRest (known_rest opened.told) feed) (Err fault) opened after
    → Reads {X = FeedState} (IsFed formula (known_files before.told) name) (Err fault) before after
not_fed before opened after name formula feed fault told there output faults read = record {
  kept = record {
    files = read.kept.files ∙ ap known_files told ∙ files_opened before.told name;
    target = read.kept.target ∙ ap known_target told ∙ target_opened before.told name;
    has_output = read.kept.has_output ∙ output;
  };
  counts = rw faults at read.counts;
  ok = tt;
  err = Stops-from fault _ before opened after faults
      (Stops-along fault _ _ opened after (λ long. too_long before.told name feed fault there (rw told at long)) read.err);
}

-- an answer to what some bytes ask that is one to what they ask otherwise
pub comes_along : (asks others : List ℕ → Question) (files : Option Files) (name : List ℕ) → ((bytes : List ℕ) (answer : Answer) → IsAnswer (asks bytes) answer → IsAnswer (others bytes) answer)
    → (read : Result Answer Fault) → ProofComesTo asks files name read → ProofComesTo others files name read
comes_along asks others files name along (Ok answer) comes = (comes.0, comes.1, along comes.0 answer comes.2)
comes_along asks others files name along (Err fault) comes = comes

-- what a check is about was read, and then its proof
pub check_comes : (source : Source) (proof : List ℕ) (subject : Subject) (result : Result Answer Fault) (before mid after : ShelfMoment)
    → Reads (AsksBy (files_at before) (subject_asked source)) (Ok subject) before mid
    → Reads (ProofComesTo (questions.Check subject) (files_at mid) proof) result mid after → Reads (ComesTo (tasks.Check source proof) (files_at before)) result before after
check_comes source proof subject result before mid after first second =
    Reads-behind (AsksBy (files_at before) (subject_asked source)) (ProofComesTo (questions.Check subject) (files_at mid) proof) (ComesTo (tasks.Check source proof) (files_at before)) subject result before mid after
    (λ r one two. comes r one (subst (λ files. ProofComesTo (questions.Check subject) files proof r) first.kept.files two)) first second
  where
    next : Subject → Asking Question
    next s = made_of proof proof_limit (λ bytes. Ok (questions.Check s bytes))

    comes : (r : Result Answer Fault) → AsksBy (files_at before) (subject_asked source) (Ok subject) → ProofComesTo (questions.Check subject) (files_at before) proof r → ComesTo (tasks.Check source proof) (files_at before) r
    comes (Ok answer) one (bytes, input, right) =
        (questions.Check subject bytes, AsksBy-then (files_at before) (subject_asked source) next subject (Ok (questions.Check subject bytes)) one (Ok bytes, input, refl), refl, right)
    comes (Err fault) one input = AsksBy-then (files_at before) (subject_asked source) next subject (Err fault) one (Err fault, input, refl)
