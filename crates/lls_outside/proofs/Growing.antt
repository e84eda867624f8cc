-- What a whole write leaves on a sink.
use Rattle.std.proofs.Common.{◌≡◌, ◌≤◌, ℕ, List, length, take, Result, Ok, Err, OnOk, OnErr, ap, sym, ◌∙◌, arith, inl, inr}
use Rattle.std.proofs.Math.Seq.{take-length}
use Rattle.std.specs.Io.KnownBytes.{append_known}
use Rattle.lls_base.specs.Faults.{Counts, Rose}
use Rattle.lls_base.specs.declared.sink.Failed.{Failed}
use Rattle.lls_outside.specs.Moment.{SinkMoment}
use Rattle.lls_outside.specs.Grown.{GrewBy}

pub grew_by : (answer : Result (Unit {0}) Failed) (text : List ℕ) (before after : SinkMoment)
    → OnOk answer (after.written ≡ append_known before.written text)
    → OnErr answer ((n : ℕ) × (n ≤ length text) × (after.written ≡ append_known before.written (take n text)))
    → OnErr answer (Rose before.faults after.faults) → Counts before.faults after.faults → GrewBy text before after
grew_by (Ok done) text before after ok err failed counts =
    record { taken = (length text, ok ∙ ap (append_known before.written) (sym (take-length text)), inl (omega arith)); counts = counts }
grew_by (Err e) text before after ok err failed counts =
    record { taken = (err.0, err.2, inr failed); counts = counts }
