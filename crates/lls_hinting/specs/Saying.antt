-- For private contracts alone: what is said on the standard output and the standard error.
use Rattle.std.specs.Prelude.{◌≡◌, ◌⊎◌, ℕ, List}
use Rattle.std.specs.Io.KnownBytes.{append_known}
use Rattle.lls_base.specs.Faults.{Rose}
use Rattle.lls_hinting.specs.declared.fault.Fault.{Fault}
use Rattle.lls_hinting.specs.declared.status.Status.{Status}
use Rattle.lls_hinting.specs.declared.status.Status.TheVariants as statuses
use Rattle.lls_outside.specs.Grown.{GrewBy}
use Rattle.lls_hinting.specs.Fault.{fault_line, status_of}
use Rattle.lls_outside.specs.Moment.{SinkMoment}

-- a fault is said on the standard error, but where there is no memory for its line
abbrev pub SaysFault : Fault → Status → SinkMoment → SinkMoment → Type 0
SaysFault fault status before after = ((status ≡ status_of fault) × GrewBy (fault_line fault) before after) ⊎ (status ≡ statuses.Memory)

-- a text was given whole, or the output failed
abbrev pub GivesText : List ℕ → Status → Status → SinkMoment → SinkMoment → Type 0
GivesText text status result before after =
    ((result ≡ status) × (after.written ≡ append_known before.written text)) ⊎ ((result ≡ statuses.Outside) × Rose before.faults after.faults)
