-- What a proof writes: its lemmas, and the fault that ends them.
use Rattle.std.specs.Prelude.{ℕ, ◌+◌, List, [], ◌∷◌, length, Option, Some, None, Result, Ok, Err}
use Rattle.lls_text.specs.Lines.{lines_of}
use Rattle.lls_prooflog.specs.declared.line_fault.LineFault.{LineFault}
use Rattle.lls_drat.specs.declared.form.Form.{Form}
use Rattle.lls_drat.specs.declared.form.Form.TheVariants.{Text, Binary}
use Rattle.lls_drat.specs.declared.drat_fault.DratFault.{DratFault}
use Rattle.lls_drat.specs.declared.drat_fault.DratFault.TheVariants.{Line}
use Rattle.lls_drat.specs.Lemma.{Lemma, NumberedLemma}
use Rattle.lls_drat.specs.Line.{lemma_of_line}
use Rattle.lls_drat.specs.Stretch.{Stretch, stretches, lemma_of_stretch}

-- the lemmas before the first fault, and the fault, if there is one
pub record Proof : Type 0 where
  pub lemmas : List NumberedLemma
  pub fault : Option DratFault

abbrev pub no_more : Proof
no_more = record { lemmas = []; fault = None }

abbrev pub at_fault : DratFault → Proof
at_fault fault = record { lemmas = []; fault = Some fault }

abbrev pub before_proof : NumberedLemma → Proof → Proof
before_proof first proof = record proof { lemmas = first ∷ proof.lemmas }

-- what the next line or lemma comes to, and the proof behind it
abbrev pub with_next : ℕ → Result (Option Lemma) DratFault → Proof → Proof
with_next number (Err fault) proof = at_fault fault
with_next number (Ok None) proof = proof
with_next number (Ok (Some lemma)) proof = before_proof (record { number = number; lemma = lemma }) proof

-- the line is told with its fault
abbrev pub on_line : ℕ → Result (Option Lemma) LineFault → Result (Option Lemma) DratFault
on_line number (Err fault) = Err (Line number fault)
on_line number (Ok lemma) = Ok lemma

abbrev pub one_lemma : Result Lemma DratFault → Result (Option Lemma) DratFault
one_lemma (Err fault) = Err fault
one_lemma (Ok lemma) = Ok (Some lemma)

-- the lines of a text, behind so many others
abbrev pub text_proof : ℕ → List (List ℕ) → Proof
text_proof count [] = no_more
text_proof count (line ∷ lines) = with_next (count + 1) (on_line (count + 1) (lemma_of_line line)) (text_proof (count + 1) lines)

-- lemmas in bytes, behind so many others and so many bytes
abbrev pub binary_proof : ℕ → ℕ → List Stretch → Proof
binary_proof count before [] = no_more
binary_proof count before (s ∷ ss) =
    with_next (count + 1) (one_lemma (lemma_of_stretch before s)) (binary_proof (count + 1) (before + (length s.bytes + 1)) ss)

-- what bytes write that stand behind so many lines or lemmas and so many bytes
abbrev pub proof_from : Form → ℕ → ℕ → List ℕ → Proof
proof_from Text count before bytes = text_proof count (lines_of bytes)
proof_from Binary count before bytes = binary_proof count before (stretches bytes)

-- what a proof writes
abbrev pub proof_of : Form → List ℕ → Proof
proof_of form bytes = proof_from form 0 0 bytes
