-- The numbers of lemmas that are still to come.
use Rattle.std.proofs.Common.{◌≡◌, ◌<◌, ◌+◌, ℕ, List, [], ◌∷◌, length, Option, None, Some, Result, Ok, Err, ap, arith}
use Rattle.lls_drat.specs.declared.form.Form.{Form}
use Rattle.lls_drat.specs.declared.form.Form.TheVariants.{Text, Binary}
use Rattle.lls_drat.specs.declared.drat_fault.DratFault.{DratFault}
use Rattle.lls_drat.specs.Lemma.{Lemma, NumberedLemma}
use Rattle.lls_drat.specs.Line.{lemma_of_line}
use Rattle.lls_drat.specs.Proof.{Proof, before_proof, binary_proof, on_line, one_lemma, proof_from, text_proof, with_next}
use Rattle.lls_drat.specs.Stretch.{Stretch, lemma_of_stretch, stretches}
use Rattle.lls_drat.specs.Reading.{Reading, to_come}
use Rattle.lls_text.specs.Lines.{lines_of}

first_above : (count : ℕ) (next : Result (Option Lemma) DratFault) (proof : Proof) (l : NumberedLemma) (ls : List NumberedLemma)
    → (proof.lemmas ≡ l ∷ ls → count + 1 < l.number) → (with_next (count + 1) next proof).lemmas ≡ l ∷ ls → count < l.number
first_above count (Err fault) proof l ls later is = absurd cc
first_above count (Ok None) proof l ls later is = omega (arith, later is)
first_above count (Ok (Some lemma)) proof l ls later is =
    let same : record { number = count + 1; lemma = lemma } ≡ l = cc in
    omega (arith, ap (λ (n : NumberedLemma). n.number) same)

text_above : (count : ℕ) (lines : List (List ℕ)) (l : NumberedLemma) (ls : List NumberedLemma) → (text_proof count lines).lemmas ≡ l ∷ ls → count < l.number
text_above count [] l ls is = absurd cc
text_above count (line ∷ lines) l ls is =
    first_above count (on_line (count + 1) (lemma_of_line line)) (text_proof (count + 1) lines) l ls (text_above (count + 1) lines l ls) is

binary_above : (count before : ℕ) (ss : List Stretch) (l : NumberedLemma) (ls : List NumberedLemma) → (binary_proof count before ss).lemmas ≡ l ∷ ls → count < l.number
binary_above count before [] l ls is = absurd cc
binary_above count before (s ∷ ss) l ls is =
    let more = before + (length s.bytes + 1) in
    first_above count (one_lemma (lemma_of_stretch before s)) (binary_proof (count + 1) more ss) l ls (binary_above (count + 1) more ss l ls) is

proof_above : (form : Form) (count before : ℕ) (bytes : List ℕ) (l : NumberedLemma) (ls : List NumberedLemma) → (proof_from form count before bytes).lemmas ≡ l ∷ ls → count < l.number
proof_above Text count before bytes l ls is = text_above count (lines_of bytes) l ls is
proof_above Binary count before bytes l ls is = binary_above count before (stretches bytes) l ls is

-- the next lemma has a greater number than was reached before
pub number_above : (reading : Reading) (more : List ℕ) (l : NumberedLemma) (proof : Proof) → to_come reading more ≡ before_proof l proof → reading.count < l.number
number_above reading more l proof is = proof_above reading.form reading.count reading.before _ l proof.lemmas (ap (λ (p : Proof). p.lemmas) is)
