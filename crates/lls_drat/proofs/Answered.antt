-- What a call answers, where that is told by what is defined.
use Rattle.std.proofs.Common.{◌≡◌, ap}
use Rattle.std.specs.Prelude.{Result, Ok, Err}
use Rattle.std.specs.Result.{IsErrAnd}
use Rattle.lls_base.specs.Results.{GivesWrapped}
use Rattle.lls_prooflog.specs.declared.line_fault.LineFault.{LineFault}
use Rattle.lls_prooflog.specs.declared.line_error.LineError.{LineError}
use Rattle.lls_prooflog.specs.declared.line_error.LineError.TheVariants as line_errors
use Rattle.lls_drat.specs.declared.drat_fault.DratFault.{DratFault}
use Rattle.lls_drat.specs.declared.drat_error.DratError.{DratError}
use Rattle.lls_drat.specs.declared.drat_error.DratError.TheVariants as errors

-- a call that answered the fault that is defined
pub given_line_fault : {X Y : Type 0} (result : Result X LineError) (fault : LineFault) (view : X → Y) (defined : Result Y LineFault) → IsErrAnd result (λ error. error ≡ line_errors.Fault fault) → defined ≡ Err fault → GivesWrapped line_errors.Fault view result defined
given_line_fault (Ok value) fault view defined is e = absurd is
given_line_fault (Err error) fault view defined is e = λ other same. let equal : fault ≡ other = cc in rw (← equal) e

pub given_fault : {X Y : Type 0} (result : Result X DratError) (fault : DratFault) (view : X → Y) (defined : Result Y DratFault) → IsErrAnd result (λ error. error ≡ errors.Fault fault) → defined ≡ Err fault → GivesWrapped errors.Fault view result defined
given_fault (Ok value) fault view defined is e = absurd is
given_fault (Err error) fault view defined is e = λ other same. let equal : fault ≡ other = cc in rw (← equal) e

pub error_is : {X E : Type 0} (result : Result X E) (error : E) → IsErrAnd result (λ e. e ≡ error) → result ≡ Err error
error_is (Ok value) error is = absurd is
error_is (Err e) error is = ap Err is
