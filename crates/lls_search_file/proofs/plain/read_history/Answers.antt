use Rattle.std.proofs.Common.{◌≡◌, Result, Ok, Err, ap, refl}
use Rattle.std.specs.Result.{IsErrAnd}
use Rattle.lls_base.specs.Results.{GivesWrapped}
use Rattle.lls_grid.specs.History.{History}
use Rattle.lls_search_file.specs.declared.posed_fault.PosedFault.{PosedFault}
use Rattle.lls_search_file.specs.declared.posed_error.PosedError.{PosedError}
use Rattle.lls_search_file.specs.declared.posed_error.PosedError.TheVariants as posed
use Rattle.lls_search_file.specs.declared.history_error.HistoryError.{HistoryError}
use Rattle.lls_search_file.specs.declared.history_error.HistoryError.TheVariants as history
use Rattle.lls_search_file.specs.declared.history_fault.HistoryFault.TheVariants.{Text}
use Rattle.lls_search_file.specs.Posed.{PosedFile}
use Rattle.lls_search_file.specs.Plain.{history_error, plain_read}
use Rattle.lls_search_file.proofs.HistoryTexts.{plain_of-history_text}
use Rattle.lls_search_file.proofs.plain.read_history.Goals as goal

-- a file that is refused is no history, for that cause
refused : (result : Result History HistoryError) (error : PosedError) (read : Result PosedFile PosedFault) → IsErrAnd result (λ refusal. refusal ≡ history_error error)
    → ((fault : PosedFault) → error ≡ posed.Fault fault → read ≡ Err fault) → GivesWrapped history.Fault (λ history. history) result (plain_read read)
refused (Ok value) error read is was = absurd is
refused (Err refusal) (posed.Fault fault) read is was = λ other same.
    let read_is : plain_read read ≡ Err (Text fault) = ap plain_read (was fault refl) in
    cc
refused (Err refusal) posed.Memory read is was = λ other same. cc

pub returns-clause-reads_back : goal.returns-clause-reads_back
returns-clause-reads_back c = plain_of-history_text

pub returns-in_err-posed-clause-reads_back : goal.returns-in_err-posed-clause-reads_back
returns-in_err-posed-clause-reads_back c = plain_of-history_text

pub returns-in_err-posed-clause-history : goal.returns-in_err-posed-clause-history
returns-in_err-posed-clause-history c = refused c.from_residual.result c.in_err-posed.field-0.0 _ c.from_residual.ensures.1 c.in_err-posed.ensures
