-- What a request asks of its files, and the first refusal where they ask nothing. This file alone knows the order of refusals: the
-- formula, its length and its grammar; then the proof, its length and its grammar.
use Rattle.std.specs.Prelude.{ℕ, nat_lt, List, length, Option, None, Some, unwrap_or, Result, Ok, Err, if◌then◌else◌}
use Rattle.std.specs.FinMap as map
use Rattle.lls_base.specs.Results.{and_then}
use Rattle.lls_base.specs.Shelf.{Files}
use Rattle.lls_lit.specs.Formula.{Cnf}
use Rattle.lls_cnf.specs.declared.dimacs_fault.DimacsFault.{DimacsFault}
use Rattle.lls_cnf.specs.Dimacs.{dimacs}
use Rattle.lls_drat.specs.declared.form.Form.{Form}
use Rattle.lls_drat.specs.declared.drat_fault.DratFault.{DratFault}
use Rattle.lls_drat.specs.Form.{recognised}
use Rattle.lls_drat.specs.Lemma.{NumberedLemma}
use Rattle.lls_drat.specs.Proof.{Proof, proof_of}
use Rattle.lls_hinting.specs.declared.fault.Fault.{Fault}
use Rattle.lls_hinting.specs.declared.fault.Fault.TheVariants as faults
use Rattle.lls_hinting.specs.declared.fault.OutsideFault.TheVariants as outside
use Rattle.lls_hinting.specs.declared.request.Request.{Request}

-- a formula, and the lemmas of its proof
pub record Asked : Type 0 where
  pub formula : Cnf
  pub lemmas : List NumberedLemma

-- how many bytes an input has at most
abbrev pub formula_limit : ℕ
formula_limit = 536870912

abbrev pub proof_limit : ℕ
proof_limit = 1073741824

-- the bytes of an input of at most `limit` bytes
abbrev pub input_from : ℕ → Option (List ℕ) → Result (List ℕ) Fault
input_from limit None = Err (faults.Outside outside.NoFile)
input_from limit (Some bytes) = if nat_lt limit (length bytes) then Err (faults.TooLong limit) else Ok bytes

abbrev pub input_of : Files → List ℕ → ℕ → Result (List ℕ) Fault
input_of files name limit = input_from limit (map.get files name)

-- the formula that the bytes of its file write
abbrev pub formula_read : Result Cnf DimacsFault → Result Cnf Fault
formula_read (Ok formula) = Ok formula
formula_read (Err fault) = Err (faults.Dimacs fault)

abbrev pub formula_in : List ℕ → Result Cnf Fault
formula_in bytes = formula_read (dimacs bytes)

-- the form that the words say, or that the bytes tell
abbrev pub form_in : Option Form → List ℕ → Form
form_in given bytes = unwrap_or given (recognised bytes)

-- lemmas that end at no fault
abbrev pub lemmas_before : List NumberedLemma → Option DratFault → Result (List NumberedLemma) Fault
lemmas_before lemmas None = Ok lemmas
lemmas_before lemmas (Some fault) = Err (faults.Proof fault)

abbrev pub lemmas_read : Proof → Result (List NumberedLemma) Fault
lemmas_read proof = lemmas_before proof.lemmas proof.fault

-- the lemmas that the bytes of a proof's file write
abbrev pub lemmas_in : Form → List ℕ → Result (List NumberedLemma) Fault
lemmas_in form bytes = lemmas_read (proof_of form bytes)

-- what two inputs ask
abbrev pub asked_by : Option Form → Result (List ℕ) Fault → Result (List ℕ) Fault → Result Asked Fault
asked_by given first second =
    and_then (and_then first formula_in) (λ formula.
    and_then (and_then second (λ bytes. lemmas_in (form_in given bytes) bytes)) (λ lemmas. Ok (record { formula = formula; lemmas = lemmas })))

-- what a request asks of these files
abbrev pub asked_in : Request → Files → Result Asked Fault
asked_in request files = asked_by request.form (input_of files request.formula formula_limit) (input_of files request.proof proof_limit)
