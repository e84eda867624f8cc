-- Readings, one after another.
use Rattle.std.proofs.Common.{◌≡◌, ℕ, Result, Ok, Err, ◌∙◌}
use Rattle.lls_base.proofs.Faults.{Counts-trans}
use Rattle.lls_hinting.specs.declared.fault.Fault.{Fault}
use Rattle.lls_hinting.specs.declared.fault.Fault.TheVariants as faults
use Rattle.lls_hinting.specs.declared.fault.OutsideFault.TheVariants as outside
use Rattle.lls_outside.specs.Moment.{ShelfMoment}
use Rattle.lls_hinting.specs.Steps.{Reads, Stops}

pub stops_along : (fault : Fault) (One Two : Fault → Type 0) (before after : ℕ) → (One fault → Two fault) → Stops fault One before after → Stops fault Two before after
stops_along faults.Memory One Two before after along stops = tt
stops_along (faults.Outside outside.OpenFailed) One Two before after along stops = stops
stops_along (faults.Outside outside.ReadFailed) One Two before after along stops = stops
stops_along (faults.Outside outside.CreateFailed) One Two before after along stops = absurd stops
stops_along (faults.Outside outside.WriteFailed) One Two before after along stops = absurd stops
stops_along (faults.Outside outside.OutFailed) One Two before after along stops = absurd stops
stops_along (faults.Outside outside.NoFile) One Two before after along stops = (along stops.0, stops.1)
stops_along (faults.Outside outside.Changed) One Two before after along stops = (along stops.0, stops.1)
stops_along (faults.Dimacs error) One Two before after along stops = (along stops.0, stops.1)
stops_along (faults.Proof error) One Two before after along stops = (along stops.0, stops.1)
stops_along (faults.TooLong limit) One Two before after along stops = (along stops.0, stops.1)

-- as many calls had failed before another moment
pub stops_from : (fault : Fault) (Says : Fault → Type 0) (before between after : ℕ) → between ≡ before → Stops fault Says between after → Stops fault Says before after
stops_from faults.Memory Says before between after same stops = tt
stops_from (faults.Outside outside.OpenFailed) Says before between after same stops = rw same at stops
stops_from (faults.Outside outside.ReadFailed) Says before between after same stops = rw same at stops
stops_from (faults.Outside outside.CreateFailed) Says before between after same stops = absurd stops
stops_from (faults.Outside outside.WriteFailed) Says before between after same stops = absurd stops
stops_from (faults.Outside outside.OutFailed) Says before between after same stops = absurd stops
stops_from (faults.Outside outside.NoFile) Says before between after same stops = (stops.0, stops.1 ∙ same)
stops_from (faults.Outside outside.Changed) Says before between after same stops = (stops.0, stops.1 ∙ same)
stops_from (faults.Dimacs error) Says before between after same stops = (stops.0, stops.1 ∙ same)
stops_from (faults.Proof error) Says before between after same stops = (stops.0, stops.1 ∙ same)
stops_from (faults.TooLong limit) Says before between after same stops = (stops.0, stops.1 ∙ same)

-- what one reading says another says too
pub reads_along : {X : Type 0} (One Two : Result X Fault → Type 0) (result : Result X Fault) (before after : ShelfMoment) → (One result → Two result) → Reads One result before after → Reads Two result before after
reads_along One Two (Ok x) before after along read = record { files = read.files; counts = read.counts; ok = (along read.ok.0, read.ok.1); err = tt }
reads_along One Two (Err fault) before after along read =
    record { files = read.files; counts = read.counts; ok = tt; err = stops_along fault (λ f. One (Err f)) (λ f. Two (Err f)) before.faults after.faults along read.err }

-- a reading that stops another
pub reads_stopped : {X Y : Type 0} (One : Result X Fault → Type 0) (Two : Result Y Fault → Type 0) (fault : Fault) (before after : ShelfMoment)
    → (One (Err fault) → Two (Err fault)) → Reads One (Err fault) before after → Reads Two (Err fault) before after
reads_stopped One Two fault before after along read =
    record { files = read.files; counts = read.counts; ok = tt; err = stops_along fault (λ f. One (Err f)) (λ f. Two (Err f)) before.faults after.faults along read.err }

-- a reading behind another
pub reads_then : {X Y : Type 0} (One : Result X Fault → Type 0) (Two Both : Result Y Fault → Type 0) (value : X) (result : Result Y Fault) (before between after : ShelfMoment)
    → Reads One (Ok value) before between → (One (Ok value) → Two result → Both result) → Reads Two result between after → Reads Both result before after
reads_then One Two Both value (Ok x) before between after first both next = record {
  files = next.files ∙ first.files;
  counts = Counts-trans first.counts next.counts;
  ok = (both first.ok.0 next.ok.0, next.ok.1 ∙ first.ok.1);
  err = tt;
}
reads_then One Two Both value (Err fault) before between after first both next = record {
  files = next.files ∙ first.files;
  counts = Counts-trans first.counts next.counts;
  ok = tt;
  err = stops_from fault (λ f. Both (Err f)) before.faults between.faults after.faults first.ok.1
      (stops_along fault (λ f. Two (Err f)) (λ f. Both (Err f)) between.faults after.faults (both first.ok.0) next.err);
}

pub reads_value : {X Y : Type 0} (One : Result X Fault → Type 0) (Two : Result Y Fault → Type 0) (value : X) (other : Y) (before after : ShelfMoment)
    → (One (Ok value) → Two (Ok other)) → Reads One (Ok value) before after → Reads Two (Ok other) before after
reads_value One Two value other before after along read = record { files = read.files; counts = read.counts; ok = (along read.ok.0, read.ok.1); err = tt }

-- two readings with values
pub reads_both : {X Y Z : Type 0} (One : Result X Fault → Type 0) (Two : Result Y Fault → Type 0) (Both : Result Z Fault → Type 0) (value : X) (other : Y) (last : Z) (before between after : ShelfMoment)
    → Reads One (Ok value) before between → Reads Two (Ok other) between after → (One (Ok value) → Two (Ok other) → Both (Ok last)) → Reads Both (Ok last) before after
reads_both One Two Both value other last before between after first next both = record {
  files = next.files ∙ first.files;
  counts = Counts-trans first.counts next.counts;
  ok = (both first.ok.0 next.ok.0, next.ok.1 ∙ first.ok.1);
  err = tt;
}
