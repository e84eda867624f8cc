-- What a sink took between two moments.
use Rattle.std.specs.Prelude.{◌≡◌, ◌≤◌, ◌⊎◌, ℕ, List, length, take, Result, OnOk, OnErr}
use Rattle.std.specs.Io.KnownBytes.{append_known}
use Rattle.lls_base.specs.Faults.{Counts, Rose}
use Rattle.lls_base.specs.declared.sink.Failed.{Failed}
use Rattle.lls_outside.specs.Moment.{SinkMoment}

-- a sink grew by some first bytes of a text, and by all of it but where its count of faults rose
pub record GrewBy (text : List ℕ) (before after : SinkMoment) : Type 0 where
  pub taken : (n : ℕ) × (after.written ≡ append_known before.written (take n text)) × ((length text ≤ n) ⊎ Rose before.faults after.faults)
  pub counts : Counts before.faults after.faults

-- a whole write to a sink. After a failure it has first bytes of the text
pub record Writes (text : List ℕ) (result : Result (Unit {0}) Failed) (before after : SinkMoment) : Type 0 where
  pub ok : OnOk result (after.written ≡ append_known before.written text)
  pub err : OnErr result ((n : ℕ) × (n ≤ length text) × (after.written ≡ append_known before.written (take n text)))
  pub counts : Counts before.faults after.faults
  pub failed : OnErr result (Rose before.faults after.faults)
  pub no_fault : OnOk result (after.faults ≡ before.faults)
