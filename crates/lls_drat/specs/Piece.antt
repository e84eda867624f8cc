-- For private contracts alone: a line or a lemma that has its end.
use Rattle.std.specs.Prelude.{ℕ, List, Option, Result}
use Rattle.std.specs.Str.Lines.{strip_carriage_return}
use Rattle.lls_drat.specs.declared.form.Form.{Form}
use Rattle.lls_drat.specs.declared.form.Form.TheVariants.{Text, Binary}
use Rattle.lls_drat.specs.declared.drat_fault.DratFault.{DratFault}
use Rattle.lls_drat.specs.Lemma.{Lemma}
use Rattle.lls_drat.specs.Line.{lemma_of_line}
use Rattle.lls_drat.specs.Stretch.{lemma_of_bytes, cut_at}
use Rattle.lls_drat.specs.Proof.{on_line, one_lemma}

abbrev pub text_piece : ℕ → List ℕ → Result (Option Lemma) DratFault
text_piece number bytes = on_line number (lemma_of_line (strip_carriage_return bytes))

-- what a line or a lemma writes that has its end
abbrev pub piece : Form → ℕ → ℕ → List ℕ → Result (Option Lemma) DratFault
piece Text number before bytes = text_piece number bytes
piece Binary number before bytes = one_lemma (lemma_of_bytes before bytes)

-- and what the last bytes do, which have none
abbrev pub tail : Form → ℕ → ℕ → List ℕ → Result (Option Lemma) DratFault
tail Text number before bytes = text_piece number bytes
tail Binary number before bytes = one_lemma (cut_at before bytes)
