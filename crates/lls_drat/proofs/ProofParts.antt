-- The proof that bytes write, by its first line or lemma.
use Rattle.std.proofs.Common.{◌≡◌, ℕ, ◌+◌, ◌<◌, true, false, cond, eqb, ◌||◌, List, [], ◌∷◌, ◌++◌, length, refl, ap, arith}
use Rattle.std.specs.Prelude.{map}
use Rattle.std.specs.List.{list_any, onto_first}
use Rattle.std.specs.Str.Lines.{strip_carriage_return}
use Rattle.lls_text.specs.Lines.{line_feed, cut_lines}
use Rattle.lls_prooflog.proofs.FirstLines.{lines_of-first}
use Rattle.lls_drat.specs.declared.form.Form.{Form}
use Rattle.lls_drat.specs.declared.form.Form.TheVariants.{Text, Binary}
use Rattle.lls_drat.specs.Form.{end_byte}
use Rattle.lls_drat.specs.Stretch.{onto_stretch, stretches}
use Rattle.lls_drat.specs.Proof.{no_more, with_next, text_proof, binary_proof, proof_from}
use Rattle.lls_drat.specs.Reading.{has_end}
use Rattle.lls_drat.specs.Piece.{piece, tail}

stretches-first : (front rest : List ℕ) → list_any (λ b. eqb b 0) front ≡ false → stretches (front ++ 0 ∷ rest) ≡ record { bytes = front; ended = true } ∷ stretches rest
stretches-first [] rest none = refl
stretches-first (b ∷ bs) rest none =
    elim (eqb b 0) as (λ v. (v || list_any (λ c. eqb c 0) bs) ≡ false → cond v (record { bytes = []; ended = true } ∷ stretches (bs ++ 0 ∷ rest)) (onto_stretch b (stretches (bs ++ 0 ∷ rest))) ≡ record { bytes = b ∷ bs; ended = true } ∷ stretches rest) [
      | true ↦ λ h. absurd cc
      | false ↦ λ h. ap (onto_stretch b) (stretches-first bs rest h)
    ] none

stretches-last : (b : ℕ) (bs : List ℕ) → list_any (λ c. eqb c 0) (b ∷ bs) ≡ false → stretches (b ∷ bs) ≡ record { bytes = b ∷ bs; ended = false } ∷ []
stretches-last b [] none =
    elim (eqb b 0) as (λ v. (v || false) ≡ false → cond v (record { bytes = []; ended = true } ∷ []) (onto_stretch b []) ≡ record { bytes = b ∷ []; ended = false } ∷ []) [
      | true ↦ λ h. absurd cc
      | false ↦ λ h. refl
    ] none
stretches-last b (c ∷ bs) none =
    elim (eqb b 0) as (λ v. (v || list_any (λ d. eqb d 0) (c ∷ bs)) ≡ false → cond v (record { bytes = []; ended = true } ∷ stretches (c ∷ bs)) (onto_stretch b (stretches (c ∷ bs))) ≡ record { bytes = b ∷ c ∷ bs; ended = false } ∷ []) [
      | true ↦ λ h. absurd cc
      | false ↦ λ h. ap (onto_stretch b) (stretches-last c bs h)
    ] none

cut_lines-last : (b : ℕ) (bs : List ℕ) → list_any (λ c. eqb c 10) (b ∷ bs) ≡ false → cut_lines (b ∷ bs) ≡ (b ∷ bs) ∷ []
cut_lines-last b [] none =
    elim (eqb b 10) as (λ v. (v || false) ≡ false → cond v ([] ∷ []) (onto_first b []) ≡ (b ∷ []) ∷ []) [ true ↦ λ h. absurd cc | false ↦ λ h. refl ] none
cut_lines-last b (c ∷ bs) none =
    elim (eqb b 10) as (λ v. (v || list_any (λ d. eqb d 10) (c ∷ bs)) ≡ false → cond v ([] ∷ cut_lines (c ∷ bs)) (onto_first b (cut_lines (c ∷ bs))) ≡ (b ∷ c ∷ bs) ∷ []) [
      | true ↦ λ h. absurd cc
      | false ↦ λ h. ap (onto_first b) (cut_lines-last c bs h)
    ] none

-- the first line or lemma, and the proof behind it
pub proof_from-first : (form : Form) (count before : ℕ) (front rest : List ℕ) → has_end form front ≡ false → proof_from form count before (front ++ end_byte form ∷ rest) ≡ with_next (count + 1) (piece form (count + 1) before front) (proof_from form (count + 1) (before + (length front + 1)) rest)
proof_from-first Text count before front rest none =
    ap (text_proof count) (lines_of-first (front ++ line_feed ∷ rest) front rest (record { whole = refl; one_line = none }))
proof_from-first Binary count before front rest none = ap (binary_proof count before) (stretches-first front rest none)

-- bytes that have no end
pub proof_from-last : (form : Form) (count before : ℕ) (bytes : List ℕ) → 0 < length bytes → has_end form bytes ≡ false → proof_from form count before bytes ≡ with_next (count + 1) (tail form (count + 1) before bytes) no_more
proof_from-last form count before [] some none = absurd (omega arith)
proof_from-last Text count before (b ∷ bs) some none = ap (λ lines. text_proof count (map strip_carriage_return lines)) (cut_lines-last b bs none)
proof_from-last Binary count before (b ∷ bs) some none = ap (binary_proof count before) (stretches-last b bs none)

pub proof_from-none : (form : Form) (count before : ℕ) → proof_from form count before [] ≡ no_more
proof_from-none Text count before = refl
proof_from-none Binary count before = refl
