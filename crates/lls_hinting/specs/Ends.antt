-- How a run ends.
use Rattle.std.specs.Prelude.{◌≡◌, ◌⊎◌, ℕ, List, Option, None, Some, Result, Ok, Err}
use Rattle.std.specs.Io.KnownBytes.{append_known}
use Rattle.std.specs.FinMap as map
use Rattle.std.specs.Option.{option_map}
use Rattle.lls_base.specs.Faults.{Rose}
use Rattle.lls_base.specs.Shelf.{Files}
use Rattle.lls_hinting.specs.declared.request.Request.{Request}
use Rattle.lls_hinting.specs.declared.words_error.WordsError.{WordsError}
use Rattle.lls_hinting.specs.declared.status.Status.{Status}
use Rattle.lls_hinting.specs.declared.status.Status.TheVariants as statuses
use Rattle.lls_hinting.specs.declared.fault.Fault.{Fault}
use Rattle.lls_hinting.specs.declared.fault.Fault.TheVariants as faults
use Rattle.lls_hinting.specs.declared.fault.OutsideFault.TheVariants as outside
use Rattle.lls_hinting.specs.Asked.{Asked, asked_in}
use Rattle.lls_hinting.specs.Fault.{fault_line, status_of}
use Rattle.lls_outside.specs.Grown.{GrewBy}
use Rattle.lls_outside.specs.Moment.{SinkMoment}
use Rattle.lls_hinting.specs.Refusal.{IsRefusal}
use Rattle.lls_hinting.specs.Hinted.{IsHinted}

-- the statuses of answers
abbrev pub IsAnswered : Status → Type 0
IsAnswered statuses.Done = Unit {0}
IsAnswered statuses.Refused = Unit {0}
IsAnswered status = ⊥

-- the statuses of faults of the inputs' bytes
abbrev pub IsContent : Status → Type 0
IsContent statuses.Content = Unit {0}
IsContent statuses.Limit = Unit {0}
IsContent status = ⊥

-- the statuses after which the standard output has nothing new
abbrev pub IsSilent : Status → Type 0
IsSilent statuses.Words = Unit {0}
IsSilent statuses.Content = Unit {0}
IsSilent statuses.Memory = Unit {0}
IsSilent statuses.Limit = Unit {0}
IsSilent status = ⊥

-- the files are as before, but for one that may have other bytes
abbrev pub KeepsBut : List ℕ → Option Files → Option Files → Type 0
KeepsBut name before after = (after ≡ before) ⊎ ((bytes : List ℕ) × (after ≡ option_map (λ files. map.insert files name bytes) before))

-- what was asked was done: the formula that is asked about has a proof with hints, which stands in the third file, and the standard output says how many
-- additions it has, and how many deletions of the proof that was given were passed over. No other file has changed
pub record HasHints (out_before out_after : SinkMoment) (request : Request) (before after : Files) : Type 0 where
  pub asked : Asked
  pub asked_is : asked_in request before ≡ Ok asked
  pub bytes : List ℕ
  pub text : List ℕ
  pub hinted : IsHinted asked bytes text
  pub files : after ≡ map.insert before request.output bytes
  pub said : out_after.written ≡ append_known out_before.written text

-- so it was, by what the words ask and what the shelf tells
abbrev pub LeavesHints : SinkMoment → SinkMoment → Result Request WordsError → Option Files → Option Files → Type 0
LeavesHints out_before out_after (Err error) before after = ⊥
LeavesHints out_before out_after (Ok request) None after = Unit {0}
LeavesHints out_before out_after (Ok request) (Some before) after = (files : Files) × (after ≡ Some files) × HasHints out_before out_after request before files

-- the words ask for a file, and only that one may have other bytes
abbrev pub KeepsOthers : Result Request WordsError → Option Files → Option Files → Type 0
KeepsOthers (Err error) before after = ⊥
KeepsOthers (Ok request) before after = KeepsBut request.output before after

-- a fact of what the words ask and the shelf tells
abbrev pub OfRequest : (Request → Files → Type 0) → Result Request WordsError → Option Files → Type 0
OfRequest Fact (Err error) files = ⊥
OfRequest Fact (Ok request) None = Unit {0}
OfRequest Fact (Ok request) (Some files) = Fact request files

-- the inputs have no fault
abbrev pub HasNoFault : Request → Files → Type 0
HasNoFault request files = (asked : Asked) × (asked_in request files ≡ Ok asked)

-- the proof doesn't go through, and the standard output says why
pub record IsRefused (before after : SinkMoment) (request : Request) (files : Files) : Type 0 where
  pub asked : Asked
  pub asked_is : asked_in request files ≡ Ok asked
  pub text : List ℕ
  pub refusal : IsRefusal asked text
  pub said : after.written ≡ append_known before.written text

-- the inputs have a fault of this status, and the standard error says which: by its line, or by first bytes of it where that failed too
pub record HasFault (status : Status) (before after : SinkMoment) (request : Request) (files : Files) : Type 0 where
  pub fault : Fault
  pub fault_is : asked_in request files ≡ Err fault
  pub status_is : status ≡ status_of fault
  pub line : GrewBy (fault_line fault) before after

-- an input isn't there
abbrev pub MissesFile : Request → Files → Type 0
MissesFile request files = asked_in request files ≡ Err (faults.Outside outside.NoFile)

-- a failure of the outside has a cause: a count of faults rose, that of the files or that of the standard output, or an input isn't there
abbrev pub HasCause : Result Request WordsError → Option Files → ℕ → ℕ → ℕ → ℕ → Type 0
HasCause request files before after out_before out_after = Rose before after ⊎ Rose out_before out_after ⊎ OfRequest MissesFile request files

-- the status of what inputs ask, or of their fault
abbrev pub IsStatusOf : Result Asked Fault → Status → Type 0
IsStatusOf (Ok asked) status = IsAnswered status
IsStatusOf (Err fault) status = status ≡ status_of fault

-- where the words are right and no call failed, there is an answer, or the inputs' fault, but for want of memory
abbrev pub IsComplete : Result Request WordsError → Option Files → ℕ → ℕ → ℕ → ℕ → Status → Type 0
IsComplete (Ok request) (Some files) before after out_before out_after status =
    (Rose before after → ⊥) → (Rose out_before out_after → ⊥) → (status ≡ statuses.Memory) ⊎ IsStatusOf (asked_in request files) status
IsComplete request files before after out_before out_after status = Unit {0}
