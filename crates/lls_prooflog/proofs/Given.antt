-- What a call answers, where that is told by what is defined.
use Rattle.std.proofs.Common.{◌≡◌, sym, ap, ◌∙◌}
use Rattle.std.specs.Prelude.{Result, Ok, Err, IfOk}
use Rattle.std.specs.Result.{IsErrAnd}
use Rattle.lls_prooflog.specs.declared.line_fault.LineFault.{LineFault}
use Rattle.lls_prooflog.specs.declared.line_error.LineError.{LineError}
use Rattle.lls_prooflog.specs.declared.line_error.LineError.TheVariants.{Fault}
use Rattle.lls_base.specs.Results.{GivesWrapped}

-- a call that answered the fault that is defined
pub given_fault : {X Y : Type 0} (result : Result X LineError) (fault : LineFault) (view : X → Y) (defined : Result Y LineFault) → IsErrAnd result (λ error. error ≡ Fault fault) → defined ≡ Err fault → GivesWrapped Fault view result defined
given_fault (Ok value) fault view defined is e = absurd is
given_fault (Err error) fault view defined is e = λ other same. let equal : fault ≡ other = cc in rw (← equal) e

pub given_error : {X Y : Type 0} (result : Result X LineError) (error : LineError) (view : X → Y) (defined : Result Y LineFault) → IsErrAnd result (λ e. e ≡ error) → ((fault : LineFault) → error ≡ Fault fault → defined ≡ Err fault) → GivesWrapped Fault view result defined
given_error (Ok value) error view defined is told = absurd is
given_error (Err e) error view defined is told = λ fault same. told fault (sym is ∙ same)

pub if_error : {X : Type 0} (result : Result X LineError) (test : LineError → Type 0) (holds : X → Type 0) → IsErrAnd result test → IfOk result holds
if_error (Ok value) test holds is = absurd is
if_error (Err e) test holds is = tt

pub error_is : {X E : Type 0} (result : Result X E) (error : E) → IsErrAnd result (λ e. e ≡ error) → result ≡ Err error
error_is (Ok value) error is = absurd is
error_is (Err e) error is = ap Err is
