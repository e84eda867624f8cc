-- Lemmas that were written are read again.
use Rattle.std.proofs.Common.{◌≡◌, ℕ, ◌+◌, true, false, eqb, List, [], ◌∷◌, ◌++◌, length, None, ap, ◌∙◌, append_assoc}
use Rattle.std.specs.Prelude.{ℤ, Ok}
use Rattle.std.specs.List.{list_all, list_any, flat_map}
use Rattle.std.proofs.lemmas.Bool.{and_parts}
use Rattle.lls_base.specs.Results.{and_then}
use Rattle.lls_text.specs.Lines.{lines_of}
use Rattle.lls_text.proofs.Printed.{lines_of-printed}
use Rattle.lls_lit.specs.Formula.{is_within}
use Rattle.lls_lit.specs.declared.var.TheConstants.Var.{MOST}
use Rattle.lls_drat.specs.declared.form.Form.{Form}
use Rattle.lls_drat.specs.declared.form.Form.TheVariants.{Text, Binary}
use Rattle.lls_drat.specs.declared.kind.Kind.{Kind}
use Rattle.lls_drat.specs.declared.kind.Kind.TheVariants.{Addition, Deletion}
use Rattle.lls_drat.specs.Form.{end_byte}
use Rattle.lls_drat.specs.Lemma.{Lemma}
use Rattle.lls_drat.specs.Stretch.{lemma_of_bytes}
use Rattle.lls_drat.specs.Proof.{before_proof, with_next, on_line, one_lemma, text_proof, proof_from}
use Rattle.lls_drat.specs.Written.{lemma_line, lemma_bytes, body, written, has_literals, numbered}
use Rattle.lls_drat.proofs.ProofParts.{proof_from-first, proof_from-none}
use Rattle.lls_drat.proofs.WrittenLines.{line_again, line_printed}
use Rattle.lls_drat.proofs.WrittenNumbers.{literals_again, literals_no_zero}

abbrev lemma_with : Kind → List ℤ → Lemma
lemma_with kind lits = record { kind = kind; lits = lits }

bytes_again : (before : ℕ) (kind : Kind) (lits : List ℤ) → is_within MOST lits ≡ true → lemma_of_bytes before (lemma_bytes (lemma_with kind lits)) ≡ Ok (lemma_with kind lits)
bytes_again before Addition lits all = ap (λ r. and_then r (λ ls. Ok (lemma_with Addition ls))) (literals_again (before + 2) lits all)
bytes_again before Deletion lits all = ap (λ r. and_then r (λ ls. Ok (lemma_with Deletion ls))) (literals_again (before + 2) lits all)

bytes_no_zero : (kind : Kind) (lits : List ℤ) → is_within MOST lits ≡ true → list_any (λ b. eqb b 0) (lemma_bytes (lemma_with kind lits)) ≡ false
bytes_no_zero Addition lits all = literals_no_zero lits all
bytes_no_zero Deletion lits all = literals_no_zero lits all

-- a written lemma is the first
lemma_again : (form : Form) (count before : ℕ) (kind : Kind) (lits : List ℤ) (rest : List ℕ) → is_within MOST lits ≡ true
    → proof_from form count before (body form (lemma_with kind lits) ++ end_byte form ∷ rest) ≡ before_proof (record { number = count + 1; lemma = lemma_with kind lits }) (proof_from form (count + 1) (before + (length (body form (lemma_with kind lits)) + 1)) rest)
lemma_again Text count before kind lits rest all =
    ap (text_proof count) (lines_of-printed (lemma_line (lemma_with kind lits)) rest (line_printed kind lits all))
    ∙ ap (λ r. with_next (count + 1) (on_line (count + 1) r) (text_proof (count + 1) (lines_of rest))) (line_again kind lits all)
lemma_again Binary count before kind lits rest all =
    proof_from-first Binary count before (lemma_bytes (lemma_with kind lits)) rest (bytes_no_zero kind lits all)
    ∙ ap (λ r. with_next (count + 1) (one_lemma r) (proof_from Binary (count + 1) (before + (length (lemma_bytes (lemma_with kind lits)) + 1)) rest)) (bytes_again before kind lits all)

-- and so is each in its turn
pub written_again : (form : Form) (count before : ℕ) (lemmas : List Lemma) → list_all has_literals lemmas ≡ true → proof_from form count before (flat_map (written form) lemmas) ≡ record { lemmas = numbered count lemmas; fault = None }
written_again form count before [] all = proof_from-none form count before
written_again form count before (lemma ∷ lemmas) all =
    let parts = and_parts (has_literals lemma) (list_all has_literals lemmas) all in
    let rest = flat_map (written form) lemmas in
    ap (proof_from form count before) (append_assoc (body form lemma) (end_byte form ∷ []) rest)
    ∙ lemma_again form count before lemma.kind lemma.lits rest parts.0
    ∙ ap (before_proof (record { number = count + 1; lemma = lemma })) (written_again form (count + 1) (before + (length (body form lemma) + 1)) lemmas parts.1)
