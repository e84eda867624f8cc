-- A proof that is read as its bytes come.
use Rattle.std.specs.Prelude.{◌≡◌, ◌≤◌, ◌<◌, ◌+◌, ◌^◌, ℕ, ℤ, Bool, List, [], ◌++◌, length}
use Rattle.lls_text.specs.WaitingBytes.{WaitingState, has_byte}
use Rattle.lls_drat.specs.declared.form.Form.{Form}
use Rattle.lls_drat.specs.declared.kind.Kind.{Kind}
use Rattle.lls_drat.specs.declared.drat_fault.DratFault.{DratFault}
use Rattle.lls_drat.specs.Form.{end_byte}
use Rattle.lls_drat.specs.Lemma.{NumberedLemma}
use Rattle.lls_drat.specs.Proof.{Proof, at_fault, before_proof, proof_from}

-- how many lines or lemmas and how many bytes were taken, the bytes that were put and not yet taken, and the literals that were read last
pub record Reading : Type 0 where
  pub form : Form
  pub count : ℕ
  pub before : ℕ
  pub rest : List ℕ
  pub lits : List ℤ

abbrev pub begun : Form → Reading
begun form = record { form = form; count = 0; before = 0; rest = []; lits = [] }

-- what is still to come of a proof of which these bytes are put behind the others
abbrev pub to_come : Reading → List ℕ → Proof
to_come reading more = proof_from reading.form reading.count reading.before (reading.rest ++ more)

-- the lemma that was taken last, of that kind
abbrev pub taken : Kind → Reading → NumberedLemma
taken kind reading = record { number = reading.count; lemma = record { kind = kind; lits = reading.lits } }

-- the first lemma was taken, however the proof goes on
abbrev pub TakesLemma : Kind → Reading → Reading → Type 0
TakesLemma kind reading reading' = (more : List ℕ) → to_come reading more ≡ before_proof (taken kind reading') (to_come reading' more)

-- the same lemmas are still to come
abbrev pub Keeps : Reading → Reading → Type 0
Keeps reading reading' = (more : List ℕ) → to_come reading more ≡ to_come reading' more

-- a fault comes next, however the proof goes on
abbrev pub MeetsFault : DratFault → Reading → Type 0
MeetsFault fault reading = (more : List ℕ) → to_come reading more ≡ at_fault fault

-- whether some line or lemma has its end there
abbrev pub has_end : Form → List ℕ → Bool
has_end form bytes = has_byte (end_byte form) bytes

-- for private contracts alone: a reader of a proof of that form, of which so many lines or lemmas were taken, and so many bytes
pub record IsReader (form : Form) (count before : ℕ) (waiting : WaitingState) : Type 0 where
  pub end : waiting.end ≡ end_byte form
  pub within : count ≤ before
  pub room : before + length waiting.bytes + 1 < 2 ^ 64
