-- Readings that stop at an input.
use Rattle.std.proofs.Common.{Result, Ok, Err, ◌≡◌, ◌≢◌, ◌∙◌}
use Rattle.lls_cli.specs.declared.fault.Fault.{Fault}
use Rattle.lls_cli.specs.declared.fault.Fault.TheVariants as faults
use Rattle.lls_cli.specs.declared.fault.OutsideFault.TheVariants as outside
use Rattle.lls_outside.specs.Moment.{ShelfMoment}
use Rattle.lls_cli.specs.Steps.{Reads, Stops}

pub Stops-along : (fault : Fault) (One Two : Fault → Type 0) (before after : ShelfMoment) → (One fault → Two fault) → Stops fault One before after → Stops fault Two before after
Stops-along faults.Memory One Two before after along stops = stops
Stops-along (faults.Outside outside.OpenFailed) One Two before after along stops = stops
Stops-along (faults.Outside outside.ReadFailed) One Two before after along stops = stops
Stops-along (faults.Outside outside.NoFile) One Two before after along stops = (along stops.0, stops.1)
Stops-along (faults.Outside outside.CreateFailed) One Two before after along stops = absurd stops
Stops-along (faults.Outside outside.WriteFailed) One Two before after along stops = absurd stops
Stops-along (faults.Outside outside.OutFailed) One Two before after along stops = absurd stops
Stops-along (faults.Words error) One Two before after along stops = absurd stops
Stops-along (faults.Posed error) One Two before after along stops = (along stops.0, stops.1)
Stops-along (faults.Demands error) One Two before after along stops = (along stops.0, stops.1)
Stops-along (faults.Dimacs error) One Two before after along stops = (along stops.0, stops.1)
Stops-along (faults.NotPlain t y x) One Two before after along stops = (along stops.0, stops.1)
Stops-along (faults.Rle error) One Two before after along stops = (along stops.0, stops.1)
Stops-along (faults.List error) One Two before after along stops = (along stops.0, stops.1)
Stops-along (faults.Pictures error) One Two before after along stops = (along stops.0, stops.1)
Stops-along (faults.TooLong limit) One Two before after along stops = (along stops.0, stops.1)

-- what one reading says another says too
pub Reads-along : {X : Type 0} (One Two : Result X Fault → Type 0) (result : Result X Fault) (before after : ShelfMoment) → ((r : Result X Fault) → One r → Two r) → Reads One result before after → Reads Two result before after
Reads-along One Two (Ok x) before after along read = record { kept = read.kept; counts = read.counts; ok = (along (Ok x) read.ok.0, read.ok.1); err = tt }
Reads-along One Two (Err fault) before after along read =
    record { kept = read.kept; counts = read.counts; ok = tt; err = Stops-along fault (λ f. One (Err f)) (λ f. Two (Err f)) before after (along (Err fault)) read.err }

-- as many calls had failed before another moment
pub Stops-from : (fault : Fault) (Says : Fault → Type 0) (before opened after : ShelfMoment) → opened.faults ≡ before.faults → Stops fault Says opened after → Stops fault Says before after
Stops-from faults.Memory Says before opened after same stops = stops ∙ same
Stops-from (faults.Outside outside.OpenFailed) Says before opened after same stops = (rw same at stops.0, stops.1)
Stops-from (faults.Outside outside.ReadFailed) Says before opened after same stops = (rw same at stops.0, stops.1)
Stops-from (faults.Outside outside.NoFile) Says before opened after same stops = (stops.0, stops.1 ∙ same)
Stops-from (faults.Outside outside.CreateFailed) Says before opened after same stops = absurd stops
Stops-from (faults.Outside outside.WriteFailed) Says before opened after same stops = absurd stops
Stops-from (faults.Outside outside.OutFailed) Says before opened after same stops = absurd stops
Stops-from (faults.Words error) Says before opened after same stops = absurd stops
Stops-from (faults.Posed error) Says before opened after same stops = (stops.0, stops.1 ∙ same)
Stops-from (faults.Demands error) Says before opened after same stops = (stops.0, stops.1 ∙ same)
Stops-from (faults.Dimacs error) Says before opened after same stops = (stops.0, stops.1 ∙ same)
Stops-from (faults.NotPlain t y x) Says before opened after same stops = (stops.0, stops.1 ∙ same)
Stops-from (faults.Rle error) Says before opened after same stops = (stops.0, stops.1 ∙ same)
Stops-from (faults.List error) Says before opened after same stops = (stops.0, stops.1 ∙ same)
Stops-from (faults.Pictures error) Says before opened after same stops = (stops.0, stops.1 ∙ same)
Stops-from (faults.TooLong limit) Says before opened after same stops = (stops.0, stops.1 ∙ same)

-- a fault that the bytes of an input decide
abbrev pub IsContent : Fault → Type 0
IsContent faults.Memory = ⊥
IsContent (faults.Outside fault) = ⊥
IsContent (faults.Words error) = ⊥
IsContent fault = Unit {0}

-- a reading that stops for such a fault, where no call failed since
pub Stops-content : (fault : Fault) (Says : Fault → Type 0) (before after : ShelfMoment) → after.faults ≡ before.faults → IsContent fault → Says fault → Stops fault Says before after
Stops-content faults.Memory Says before after same content said = absurd content
Stops-content (faults.Outside error) Says before after same content said = absurd content
Stops-content (faults.Words error) Says before after same content said = absurd content
Stops-content (faults.Posed error) Says before after same content said = (said, same)
Stops-content (faults.Demands error) Says before after same content said = (said, same)
Stops-content (faults.Dimacs error) Says before after same content said = (said, same)
Stops-content (faults.NotPlain t y x) Says before after same content said = (said, same)
Stops-content (faults.Rle error) Says before after same content said = (said, same)
Stops-content (faults.List error) Says before after same content said = (said, same)
Stops-content (faults.Pictures error) Says before after same content said = (said, same)
Stops-content (faults.TooLong limit) Says before after same content said = (said, same)

-- what a call gave that may lack memory, where a fault of what is defined is such a one
pub Stops-given : {X : Type 0} (fault : Fault) (Says : Fault → Type 0) (defined : Result X Fault) (before after : ShelfMoment) → after.faults ≡ before.faults
    → (fault ≢ faults.Memory → defined ≡ Err fault) → ((f : Fault) → defined ≡ Err f → IsContent f × Says f) → Stops fault Says before after
Stops-given faults.Memory Says defined before after same gives said = same
Stops-given (faults.Outside error) Says defined before after same gives said = absurd (said (faults.Outside error) (gives (λ is. cc))).0
Stops-given (faults.Words error) Says defined before after same gives said = absurd (said (faults.Words error) (gives (λ is. cc))).0
Stops-given (faults.Posed error) Says defined before after same gives said = ((said (faults.Posed error) (gives (λ is. cc))).1, same)
Stops-given (faults.Demands error) Says defined before after same gives said = ((said (faults.Demands error) (gives (λ is. cc))).1, same)
Stops-given (faults.Dimacs error) Says defined before after same gives said = ((said (faults.Dimacs error) (gives (λ is. cc))).1, same)
Stops-given (faults.NotPlain t y x) Says defined before after same gives said = ((said (faults.NotPlain t y x) (gives (λ is. cc))).1, same)
Stops-given (faults.Rle error) Says defined before after same gives said = ((said (faults.Rle error) (gives (λ is. cc))).1, same)
Stops-given (faults.List error) Says defined before after same gives said = ((said (faults.List error) (gives (λ is. cc))).1, same)
Stops-given (faults.Pictures error) Says defined before after same gives said = ((said (faults.Pictures error) (gives (λ is. cc))).1, same)
Stops-given (faults.TooLong limit) Says defined before after same gives said = ((said (faults.TooLong limit) (gives (λ is. cc))).1, same)
