-- What a request's run tells, by what the request comes to.
use Rattle.std.proofs.Common.{◌≡◌, ℕ, Option, None, Some, refl, sym, subst, inl, inr}
use Rattle.std.specs.Prelude.{Result, Ok, Err, IsErr}
use Rattle.lls_base.specs.Faults.{Rose}
use Rattle.lls_base.specs.Shelf.{Files}
use Rattle.lls_hinting.specs.declared.fault.Fault.{Fault}
use Rattle.lls_hinting.specs.declared.fault.Fault.TheVariants as faults
use Rattle.lls_hinting.specs.declared.request.Request.{Request}
use Rattle.lls_hinting.specs.declared.status.Status.{Status}
use Rattle.lls_hinting.specs.declared.status.Status.TheVariants as statuses
use Rattle.lls_hinting.specs.declared.words_error.WordsError.{WordsError}
use Rattle.lls_hinting.specs.Asked.{Asked, asked_in}
use Rattle.lls_hinting.specs.Ends.{HasCause, HasFault, HasNoFault, IsAnswered, IsComplete, IsContent, IsStatusOf, OfRequest}
use Rattle.lls_outside.specs.Moment.{SinkMoment}
use Rattle.lls_hinting.specs.Outcome.{RequestComesTo}
use Rattle.lls_hinting.specs.Saying.{SaysFault}
use Rattle.lls_hinting.specs.Steps.{Stops}

-- the fault of the inputs' bytes is said
pub fault_told : (request : Request) (files : Option Files) (fault : Fault) (status : Status) (before after : SinkMoment) (faults_then faults_now : ℕ)
    → Stops fault (λ f. RequestComesTo request files (Err f)) faults_then faults_now → SaysFault fault status before after → IsContent status → OfRequest (HasFault status before after) (Ok request) files
fault_told request None fault status before after faults_then faults_now stops says content = tt
fault_told request (Some files) fault status before after faults_then faults_now stops (inr lack) content = absurd (subst IsContent lack content)
fault_told request (Some files) faults.Memory status before after faults_then faults_now stops (inl said) content = absurd (subst IsContent said.0 content)
fault_told request (Some files) (faults.Outside fault) status before after faults_then faults_now stops (inl said) content = absurd (subst IsContent said.0 content)
fault_told request (Some files) (faults.Dimacs fault) status before after faults_then faults_now stops (inl said) content =
    record { fault = faults.Dimacs fault; fault_is = stops.0; status_is = said.0; line = said.1 }
fault_told request (Some files) (faults.Proof fault) status before after faults_then faults_now stops (inl said) content =
    record { fault = faults.Proof fault; fault_is = stops.0; status_is = said.0; line = said.1 }
fault_told request (Some files) (faults.TooLong limit) status before after faults_then faults_now stops (inl said) content =
    record { fault = faults.TooLong limit; fault_is = stops.0; status_is = said.0; line = said.1 }

caused : (request : Request) (files : Files) (before after out_before out_after : ℕ) → (Rose before after → ⊥) → (Rose out_before out_after → ⊥)
    → HasCause (Ok request) (Some files) before after out_before out_after → IsStatusOf (asked_in request files) statuses.Outside
caused request files before after out_before out_after shelf out (inl rose) = absurd (shelf rose)
caused request files before after out_before out_after shelf out (inr (inl rose)) = absurd (out rose)
caused request files before after out_before out_after shelf out (inr (inr misses)) = subst (λ (r : Result Asked Fault). IsStatusOf r statuses.Outside) (sym misses) refl

-- where no call failed there is an answer, or the fault of the inputs
pub complete : (words : Result Request WordsError) (files : Option Files) (before after out_before out_after : ℕ) (said_before said_after : SinkMoment) (status : Status)
    → (IsAnswered status → OfRequest HasNoFault words files) → (IsContent status → OfRequest (HasFault status said_before said_after) words files)
    → (status ≡ statuses.Outside → HasCause words files before after out_before out_after) → (status ≡ statuses.Words → IsErr words) → IsComplete words files before after out_before out_after status
complete (Err error) files before after out_before out_after said_before said_after status answered content failed words = tt
complete (Ok request) None before after out_before out_after said_before said_after status answered content failed words = tt
complete (Ok request) (Some files) before after out_before out_after said_before said_after statuses.Done answered content failed words = λ shelf out.
    let none = answered tt in inr (subst (λ (r : Result Asked Fault). IsStatusOf r statuses.Done) (sym none.1) tt)
complete (Ok request) (Some files) before after out_before out_after said_before said_after statuses.Refused answered content failed words = λ shelf out.
    let none = answered tt in inr (subst (λ (r : Result Asked Fault). IsStatusOf r statuses.Refused) (sym none.1) tt)
complete (Ok request) (Some files) before after out_before out_after said_before said_after statuses.Words answered content failed words = λ shelf out. let clash = words refl in absurd cc
complete (Ok request) (Some files) before after out_before out_after said_before said_after statuses.Memory answered content failed words = λ shelf out. inl refl
complete (Ok request) (Some files) before after out_before out_after said_before said_after statuses.Content answered content failed words = λ shelf out.
    let has = content tt in inr (subst (λ (r : Result Asked Fault). IsStatusOf r statuses.Content) (sym has.fault_is) has.status_is)
complete (Ok request) (Some files) before after out_before out_after said_before said_after statuses.Limit answered content failed words = λ shelf out.
    let has = content tt in inr (subst (λ (r : Result Asked Fault). IsStatusOf r statuses.Limit) (sym has.fault_is) has.status_is)
complete (Ok request) (Some files) before after out_before out_after said_before said_after statuses.Outside answered content failed words = λ shelf out.
    inr (caused request files before after out_before out_after shelf out (failed refl))
