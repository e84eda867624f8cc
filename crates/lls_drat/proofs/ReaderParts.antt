-- What is still to come of a proof, before and after its first line or lemma.
use Rattle.std.proofs.Common.{◌≡◌, ℕ, ◌+◌, ◌<◌, List, [], ◌∷◌, ◌++◌, length, take, drop, Option, Some, None, refl, sym, ap, ◌∙◌, append_assoc, length-take, length-drop, false, append-nil, arith}
use Rattle.std.specs.Prelude.{ℤ, Result, Ok, Err, option_map}
use Rattle.std.specs.Result.{IsErrAnd}
use Rattle.std.proofs.Math.Seq.{drop-length}
use Rattle.lls_drat.specs.declared.form.Form.{Form}
use Rattle.lls_drat.specs.declared.drat_fault.DratFault.{DratFault}
use Rattle.lls_drat.specs.Form.{end_byte}
use Rattle.lls_drat.specs.Lemma.{Lemma}
use Rattle.lls_drat.specs.declared.drat_error.DratError.{DratError}
use Rattle.lls_drat.specs.declared.drat_error.DratError.TheVariants as errors
use Rattle.lls_drat.specs.declared.kind.Kind.{Kind}
use Rattle.lls_drat.specs.declared.reader.Taken.{Taken}
use Rattle.lls_drat.specs.declared.reader.Taken.TheVariants as takings
use Rattle.lls_drat.specs.Proof.{no_more, before_proof, with_next, proof_from}
use Rattle.lls_drat.specs.Reading.{Reading, to_come, taken, has_end, MeetsFault}
use Rattle.lls_text.specs.WaitingBytes.{WaitingState, IsFirstEnd}
use Rattle.lls_drat.specs.Piece.{piece, tail}
use Rattle.lls_drat.specs.Takings.{Came}
use Rattle.lls_drat.proofs.ProofParts.{proof_from-first, proof_from-last, proof_from-none}

abbrev pub at : Form → ℕ → ℕ → List ℕ → List ℤ → Reading
at form count before rest lits = record { form = form; count = count; before = before; rest = rest; lits = lits }

-- where a first line or lemma has its end
split : (form : Form) (bytes more : List ℕ) (len : ℕ) → IsFirstEnd (end_byte form) bytes len → bytes ++ more ≡ take len bytes ++ end_byte form ∷ (drop (len + 1) bytes ++ more)
split form bytes more len h = ap (λ (t : List ℕ). t ++ more) h.whole ∙ append_assoc (take len bytes) (end_byte form ∷ drop (len + 1) bytes) more

pub comes-first : (form : Form) (count before len : ℕ) (rest : List ℕ) (lits lits' : List ℤ) (answer : Result (Option Lemma) DratFault) → IsFirstEnd (end_byte form) rest len → piece form (count + 1) before (take len rest) ≡ answer → (more : List ℕ) → to_come (at form count before rest lits) more ≡ with_next (count + 1) answer (to_come (at form (count + 1) (before + (len + 1)) (drop (len + 1) rest) lits') more)
comes-first form count before len rest lits lits' answer h e more =
    let front : length (take len rest) ≡ len = omega (arith, h.within, length-take len rest) in
    ap (proof_from form count before) (split form rest more len h)
    ∙ proof_from-first form count before (take len rest) (drop (len + 1) rest ++ more) h.none_before
    ∙ rw (front, e) refl

abbrev pub taken_of : Option Kind → Taken
taken_of None = takings.Blank
taken_of (Some kind) = takings.Lemma kind

-- the same as a reader has it: the bytes that wait, as they are when the first is found, and what is left of them
comes : (form : Form) (w w' : WaitingState) (bytes : List ℕ) (count before len : ℕ) (lits lits' : List ℤ) (answer : Result (Option Lemma) DratFault) → w.end ≡ end_byte form → w' ≡ w → bytes ≡ w'.bytes → IsFirstEnd w.end w.bytes len → piece form (count + 1) before (take len bytes) ≡ answer
    → (more : List ℕ) → to_come (at form count before w.bytes lits) more ≡ with_next (count + 1) answer (to_come (at form (count + 1) (before + (len + 1)) (drop (len + 1) w.bytes) lits') more)
comes form w w' bytes count before len lits lits' answer ends same is_bytes h e =
    let b : w.bytes ≡ bytes = sym (is_bytes ∙ ap (λ (v : WaitingState). v.bytes) same) in
    comes-first form count before len w.bytes lits lits' answer (rw (← ends) h) (ap (λ (t : List ℕ). piece form (count + 1) before (take len t)) b ∙ e)

abbrev left : WaitingState → ℕ → WaitingState
left w count = record w { bytes = drop count w.bytes }

pub taken_first : (form : Form) (w w' w'' : WaitingState) (bytes : List ℕ) (count before len : ℕ) (lits lits' : List ℤ) (kind : Option Kind) (came : Taken) → w.end ≡ end_byte form → w' ≡ w → bytes ≡ w'.bytes → w'' ≡ left w' (len + 1) → IsFirstEnd w.end w.bytes len → piece form (count + 1) before (take len bytes) ≡ Ok (option_map (λ k. record { kind = k; lits = lits' }) kind)
    → came ≡ taken_of kind → Came came (at form count before w.bytes lits) (at form (count + 1) (before + (len + 1)) w''.bytes lits')
taken_first form w w' w'' bytes count before len lits lits' None came ends same is_bytes rest h e is =
    let next : w'' ≡ left w (len + 1) = rest ∙ ap (λ (v : WaitingState). left v (len + 1)) same in
    rw (is, next) (record {
      keeps = comes form w w' bytes count before len lits lits' (Ok None) ends same is_bytes h e;
      shorter = omega (arith, h.within, length-drop (len + 1) w.bytes);
    })
taken_first form w w' w'' bytes count before len lits lits' (Some kind) came ends same is_bytes rest h e is =
    let next : w'' ≡ left w (len + 1) = rest ∙ ap (λ (v : WaitingState). left v (len + 1)) same in
    rw (is, next) (comes form w w' bytes count before len lits lits' (Ok (Some (record { kind = kind; lits = lits' }))) ends same is_bytes h e)

-- a fault of the first
pub meets_first : (form : Form) (w w' : WaitingState) (bytes : List ℕ) (count before len : ℕ) (lits : List ℤ) (fault : DratFault) → w.end ≡ end_byte form → w' ≡ w → bytes ≡ w'.bytes → IsFirstEnd w.end w.bytes len → piece form (count + 1) before (take len bytes) ≡ Err fault → MeetsFault fault (at form count before w.bytes lits)
meets_first form w w' bytes count before len lits fault ends same is_bytes h e = comes form w w' bytes count before len lits lits (Err fault) ends same is_bytes h e

-- the error that a call passes on
pub passed_on : {X : Type 0} (result : Result X DratError) (error : DratError) (fault : DratFault) → IsErrAnd result (λ e. e ≡ error) → result ≡ Err (errors.Fault fault) → error ≡ errors.Fault fault
passed_on (Ok value) error fault is e = absurd is
passed_on (Err other) error fault is e = let same : other ≡ errors.Fault fault = cc in sym is ∙ same

-- what has no end, where the proof ends
pub ends : (form : Form) (w : WaitingState) (bytes : List ℕ) (count before : ℕ) (lits : List ℤ) (answer : Result (Option Lemma) DratFault) → bytes ≡ w.bytes → 0 < length bytes → has_end form w.bytes ≡ false → tail form (count + 1) before bytes ≡ answer → to_come (at form count before w.bytes lits) [] ≡ with_next (count + 1) answer no_more
ends form w bytes count before lits answer is_bytes some none e =
    let more : 0 < length w.bytes = rw (← is_bytes) some in
    ap (proof_from form count before) (append-nil w.bytes)
    ∙ proof_from-last form count before w.bytes more none
    ∙ ap (λ a. with_next (count + 1) a no_more) (ap (λ (t : List ℕ). tail form (count + 1) before t) (sym is_bytes) ∙ e)

pub none_left : (form : Form) (w w'' : WaitingState) (bytes : List ℕ) (count before : ℕ) (lits : List ℤ) → bytes ≡ w.bytes → w'' ≡ left w (length bytes) → to_come (at form count before w''.bytes lits) [] ≡ no_more
none_left form w w'' bytes count before lits is_bytes rest =
    let empty : drop (length bytes) w.bytes ≡ [] = ap (λ (t : List ℕ). drop (length t) w.bytes) is_bytes ∙ drop-length w.bytes in
    rw (rest, empty) (proof_from-none form count before)

pub taken_last : (form : Form) (w w'' : WaitingState) (bytes : List ℕ) (count before : ℕ) (lits lits' : List ℤ) (kind : Kind) → bytes ≡ w.bytes → 0 < length bytes → has_end form w.bytes ≡ false → tail form (count + 1) before bytes ≡ Ok (Some (record { kind = kind; lits = lits' })) → w'' ≡ left w (length bytes)
    → to_come (at form count before w.bytes lits) [] ≡ before_proof (taken kind (at form (count + 1) (before + length bytes) w''.bytes lits')) (to_come (at form (count + 1) (before + length bytes) w''.bytes lits') [])
taken_last form w w'' bytes count before lits lits' kind is_bytes some none e rest =
    ends form w bytes count before lits (Ok (Some (record { kind = kind; lits = lits' }))) is_bytes some none e
    ∙ ap (before_proof (record { number = count + 1; lemma = record { kind = kind; lits = lits' } })) (sym (none_left form w w'' bytes (count + 1) (before + length bytes) lits' is_bytes rest))
