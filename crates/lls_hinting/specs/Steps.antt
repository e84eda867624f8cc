-- For private contracts alone: the steps of a run, from opening an input to the end of its proof.
use Rattle.std.specs.Prelude.{◌≡◌, ℕ, List, Option, None, Some, Result, Ok, Err, IfOk, IfErr, IfSome}
use Rattle.std.specs.FinMap as map
use Rattle.lls_base.specs.Faults.{Counts, Rose}
use Rattle.lls_base.specs.Results.{and_then}
use Rattle.lls_base.specs.Shelf.{Files}
use Rattle.lls_base.specs.declared.reading.ReadError.{ReadError}
use Rattle.lls_base.specs.declared.reading.ReadError.TheVariants as reads
use Rattle.lls_lit.specs.Formula.{Cnf}
use Rattle.lls_drat.specs.declared.form.Form.{Form}
use Rattle.lls_hinting.specs.declared.fault.Fault.{Fault}
use Rattle.lls_hinting.specs.declared.fault.Fault.TheVariants as faults
use Rattle.lls_hinting.specs.declared.fault.OutsideFault.TheVariants as outside
use Rattle.lls_hinting.specs.Asked.{form_in, input_of, formula_in, formula_limit, proof_limit}
use Rattle.lls_outside.specs.Moment.{ShelfMoment, files_at}

-- why reading stopped: for want of memory; since a call of the shelf failed; or for what the inputs say, and no call failed
abbrev pub Stops : Fault → (Fault → Type 0) → ℕ → ℕ → Type 0
Stops faults.Memory Says before after = Unit {0}
Stops (faults.Outside outside.OpenFailed) Says before after = Rose before after
Stops (faults.Outside outside.ReadFailed) Says before after = Rose before after
Stops (faults.Outside outside.CreateFailed) Says before after = ⊥
Stops (faults.Outside outside.WriteFailed) Says before after = ⊥
Stops (faults.Outside outside.OutFailed) Says before after = ⊥
Stops fault Says before after = Says fault × (after ≡ before)

-- what a reading of inputs answered and did to the shelf
pub record Reads {X : Type 0} (Says : Result X Fault → Type 0) (result : Result X Fault) (before after : ShelfMoment) : Type 0 where
  pub files : files_at after ≡ files_at before
  pub counts : Counts before.faults after.faults
  pub ok : IfOk result (λ value. Says (Ok value) × (after.faults ≡ before.faults))
  pub err : IfErr result (λ fault. Stops fault (λ f. Says (Err f)) before.faults after.faults)

-- the fault of an input that wasn't read
abbrev pub input_fault : ReadError → Fault
input_fault reads.OpenFailed = faults.Outside outside.OpenFailed
input_fault reads.ReadFailed = faults.Outside outside.ReadFailed
input_fault (reads.TooLong limit) = faults.TooLong limit
input_fault reads.Memory = faults.Memory
input_fault reads.NoFile = faults.Outside outside.NoFile

-- the formula of a file, where the shelf tells its files
abbrev pub IsFormula : Option Files → List ℕ → Result Cnf Fault → Type 0
IsFormula files name result = IfSome files (λ fs. result ≡ and_then (input_of fs name formula_limit) formula_in)

-- an input was opened, or isn't there
abbrev pub IsOpened : Option Files → List ℕ → Option (List ℕ) → Result (Unit {0}) Fault → Type 0
IsOpened None name rest result = Unit {0}
IsOpened (Some files) name rest (Ok done) = (bytes : List ℕ) × (map.get files name ≡ Some bytes) × (rest ≡ Some bytes)
IsOpened (Some files) name rest (Err fault) = (fault ≡ faults.Outside outside.NoFile) × (map.get files name ≡ None)

-- the form of a proof's file
abbrev pub IsForm : Option Files → List ℕ → Option Form → Result Form Fault → Type 0
IsForm None name given result = Unit {0}
IsForm (Some files) name given (Ok form) = (bytes : List ℕ) → map.get files name ≡ Some bytes → form ≡ form_in given bytes
IsForm (Some files) name given (Err fault) = input_of files name proof_limit ≡ Err fault
