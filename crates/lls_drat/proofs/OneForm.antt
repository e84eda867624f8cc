-- Lemmas are written in bytes in one way.
use Rattle.std.proofs.Common.{◌≡◌, ℕ, ◌+◌, Bool, true, false, cond, eqb, ltb, List, [], ◌∷◌, ◌++◌, length, Option, Some, None, refl, sym, ap, ◌∙◌, arith}
use Rattle.std.specs.Prelude.{ℤ, Result, Ok, Err}
use Rattle.std.specs.List.{list_all, flat_map}
use Rattle.std.proofs.lemmas.Bool.{and_parts, eqb-true}
use Rattle.std.proofs.lemmas.Bool.Decides.{nat_tests}
use Rattle.lls_base.specs.Results.{and_then}
use Rattle.lls_drat.specs.declared.form.Form.TheVariants.{Binary}
use Rattle.lls_drat.specs.declared.kind.Kind.{Kind}
use Rattle.lls_drat.specs.declared.kind.Kind.TheVariants.{Addition, Deletion}
use Rattle.lls_drat.specs.declared.drat_fault.DratFault.{DratFault}
use Rattle.lls_drat.specs.declared.drat_fault.DratFault.TheVariants.{Head, Cut}
use Rattle.lls_drat.specs.Lemma.{Lemma, NumberedLemma}
use Rattle.lls_drat.specs.Number.{numbers_from}
use Rattle.lls_drat.specs.Stretch.{Stretch, onto_stretch, stretches, kind_at, literals, lemma_of_bytes, cut_at, lemma_of_stretch}
use Rattle.lls_drat.specs.Proof.{Proof, with_next, one_lemma, binary_proof, proof_of}
use Rattle.lls_drat.specs.Written.{kind_byte, literal_bytes, lemma_bytes, written, numbered, all_lemmas, is_byte}
use Rattle.lls_drat.proofs.OneNumber.{is_some, bytes_of_numbers, are_well, literals_bytes_again}

-- the kind's byte is the first
kind_again : (before b : ℕ) (bs : List ℕ) (kind : Kind) → kind_at before (b ∷ bs) ≡ Ok kind → kind_byte kind ≡ b
kind_again before b bs kind e = elim (eqb b 97) as (λ v. eqb b 97 ≡ v → cond v (Ok Addition) (cond (eqb b 100) (Ok Deletion) (Err (Head (before + 1)))) ≡ Ok kind → kind_byte kind ≡ b) [
  | true ↦ λ is h. let same : Addition ≡ kind = cc in ap kind_byte (sym same) ∙ sym (eqb-true b 97 is)
  | false ↦ λ _. elim (eqb b 100) as (λ v. eqb b 100 ≡ v → cond v (Ok Deletion) (Err (Head (before + 1))) ≡ Ok kind → kind_byte kind ≡ b) [
    | true ↦ λ is h. let same : Deletion ≡ kind = cc in ap kind_byte (sym same) ∙ sym (eqb-true b 100 is)
    | false ↦ λ _ h. absurd cc
  ] refl
] refl e

lemma_again : (before : ℕ) (bytes : List ℕ) (lemma : Lemma) → list_all is_some bytes ≡ true → lemma_of_bytes before bytes ≡ Ok lemma → lemma_bytes lemma ≡ bytes
lemma_again before [] lemma all e = absurd cc
lemma_again before (b ∷ bs) lemma all e =
    let parts = and_parts (is_some b) (list_all is_some bs) all in
    let numbers = numbers_from (before + 2) bs in
    let well = are_well (before + 2) bs parts.1 in
    go (kind_at before (b ∷ bs)) (literals numbers) (λ k h. kind_again before b bs k h) (λ ls h. literals_bytes_again numbers ls well h ∙ bytes_of_numbers (before + 2) bs) e
  where
    go : (k : Result Kind DratFault) (r : Result (List ℤ) DratFault) → ((kind : Kind) → k ≡ Ok kind → kind_byte kind ≡ b) → ((ls : List ℤ) → r ≡ Ok ls → flat_map literal_bytes ls ≡ bs)
        → and_then k (λ kind. and_then r (λ lits. Ok (record { kind = kind; lits = lits }))) ≡ Ok lemma → lemma_bytes lemma ≡ b ∷ bs
    go (Err fault) r first rest h = absurd cc
    go (Ok kind) (Err fault) first rest h = absurd cc
    go (Ok kind) (Ok lits) first rest h = let same : record { kind = kind; lits = lits } ≡ lemma = cc in ap lemma_bytes (sym same) ∙ rw (first kind refl, rest lits refl) refl

no_cut : (before : ℕ) (bytes : List ℕ) (lemma : Lemma) → cut_at before bytes ≡ Ok lemma → ⊥
no_cut before bytes lemma e = go (kind_at before bytes) e where
  go : (k : Result Kind DratFault) → and_then k (λ _. Err (Cut (before + 1))) ≡ Ok lemma → ⊥
  go (Err fault) h = cc
  go (Ok kind) h = cc

-- the bytes of a stretch with the 0 that ends it
abbrev stretch_bytes : Stretch → List ℕ
stretch_bytes s = s.bytes ++ cond s.ended (0 ∷ []) []

stretch_again : (before : ℕ) (s : Stretch) (lemma : Lemma) → list_all is_some s.bytes ≡ true → lemma_of_stretch before s ≡ Ok lemma → stretch_bytes s ≡ written Binary lemma
stretch_again before s lemma all e = elim s.ended as (λ v. cond v (lemma_of_bytes before s.bytes) (cut_at before s.bytes) ≡ Ok lemma → s.bytes ++ cond v (0 ∷ []) [] ≡ lemma_bytes lemma ++ 0 ∷ []) [
  | true ↦ λ h. ap (λ (t : List ℕ). t ++ 0 ∷ []) (sym (lemma_again before s.bytes lemma all h))
  | false ↦ λ h. absurd (no_cut before s.bytes lemma h)
] e

-- all bytes are those of the stretches
bytes_onto : (b : ℕ) (ss : List Stretch) → flat_map stretch_bytes (onto_stretch b ss) ≡ b ∷ flat_map stretch_bytes ss
bytes_onto b [] = refl
bytes_onto b (s ∷ ss) = refl

bytes_of_stretches : (bytes : List ℕ) → flat_map stretch_bytes (stretches bytes) ≡ bytes
bytes_of_stretches [] = refl
bytes_of_stretches (b ∷ bs) = elim (eqb b 0) as (λ v. eqb b 0 ≡ v → flat_map stretch_bytes (cond v (record { bytes = []; ended = true } ∷ stretches bs) (onto_stretch b (stretches bs))) ≡ b ∷ bs) [
  | true ↦ λ is. rw (bytes_of_stretches bs, eqb-true b 0 is) refl
  | false ↦ λ _. bytes_onto b (stretches bs) ∙ ap (λ (t : List ℕ). b ∷ t) (bytes_of_stretches bs)
] refl

abbrev has_some : Stretch → Bool
has_some s = list_all is_some s.bytes

some_onto : (b : ℕ) (ss : List Stretch) → is_some b ≡ true → list_all has_some ss ≡ true → list_all has_some (onto_stretch b ss) ≡ true
some_onto b [] is all = rw is refl
some_onto b (s ∷ ss) is all = rw is all

have_some : (bytes : List ℕ) → list_all is_byte bytes ≡ true → list_all has_some (stretches bytes) ≡ true
have_some [] all = refl
have_some (b ∷ bs) all =
    let parts = and_parts (is_byte b) (list_all is_byte bs) all in
    let rest = have_some bs parts.1 in
    elim (eqb b 0) as (λ v. eqb b 0 ≡ v → list_all has_some (cond v (record { bytes = []; ended = true } ∷ stretches bs) (onto_stretch b (stretches bs))) ≡ true) [
      | true ↦ λ _. rest
      | false ↦ λ is. let some : is_some b ≡ true = nonzero b is parts.0 in some_onto b (stretches bs) some rest
    ] refl
  where
    above_zero : (b : ℕ) → eqb b 0 ≡ false → ltb 0 b ≡ true
    above_zero b is = grind (arith, nat_tests)

    nonzero : (b : ℕ) → eqb b 0 ≡ false → is_byte b ≡ true → is_some b ≡ true
    nonzero b is byte = rw (above_zero b is, byte) refl

proof_again : (count before : ℕ) (ss : List Stretch) (lemmas : List Lemma) → list_all has_some ss ≡ true → binary_proof count before ss ≡ record { lemmas = numbered count lemmas; fault = None } → flat_map stretch_bytes ss ≡ flat_map (written Binary) lemmas
proof_again count before [] [] all e = refl
proof_again count before [] (lemma ∷ lemmas) all e = absurd (let clash : [] ≡ numbered count (lemma ∷ lemmas) = ap (λ (p : Proof). p.lemmas) e in cc)
proof_again count before (s ∷ ss) lemmas all e =
    let parts = and_parts (has_some s) (list_all has_some ss) all in
    let behind = before + (length s.bytes + 1) in
    go (lemma_of_stretch before s) (binary_proof (count + 1) behind ss) lemmas (λ m h. stretch_again before s m parts.0 h) (λ ms h. proof_again (count + 1) behind ss ms parts.1 h) e
  where
    go : (r : Result Lemma DratFault) (p : Proof) (ms : List Lemma) → ((m : Lemma) → r ≡ Ok m → stretch_bytes s ≡ written Binary m) → ((others : List Lemma) → p ≡ record { lemmas = numbered (count + 1) others; fault = None } → flat_map stretch_bytes ss ≡ flat_map (written Binary) others)
        → with_next (count + 1) (one_lemma r) p ≡ record { lemmas = numbered count ms; fault = None } → stretch_bytes s ++ flat_map stretch_bytes ss ≡ flat_map (written Binary) ms
    go (Err fault) p ms first rest h = absurd (let clash : Some fault ≡ None = ap (λ (q : Proof). q.fault) h in cc)
    go (Ok m) p [] first rest h = absurd (let clash : record { number = count + 1; lemma = m } ∷ p.lemmas ≡ [] = ap (λ (q : Proof). q.lemmas) h in cc)
    go (Ok m) p (other ∷ others) first rest h =
        let lists : record { number = count + 1; lemma = m } ∷ p.lemmas ≡ record { number = count + 1; lemma = other } ∷ numbered (count + 1) others = ap (λ (q : Proof). q.lemmas) h in
        let first_one : NumberedLemma = record { number = count + 1; lemma = m } in
        let other_one : NumberedLemma = record { number = count + 1; lemma = other } in
        let head : first_one ≡ other_one = cc in
        let same : m ≡ other = ap (λ (n : NumberedLemma). n.lemma) head in
        let behind : p.lemmas ≡ numbered (count + 1) others = cc in
        let none : p.fault ≡ None = ap (λ (q : Proof). q.fault) h in
        let left : p ≡ record { lemmas = numbered (count + 1) others; fault = None } = ap (λ (ls : List NumberedLemma). record p { lemmas = ls }) behind ∙ ap (λ (f : Option DratFault). record { lemmas = numbered (count + 1) others; fault = f }) none in
        rw (first m refl, rest others left, same) refl

-- bytes that write lemmas and no fault are those lemmas as they are written
pub bytes_again : (bytes : List ℕ) (lemmas : List Lemma) → list_all is_byte bytes ≡ true → proof_of Binary bytes ≡ all_lemmas lemmas → bytes ≡ flat_map (written Binary) lemmas
bytes_again bytes lemmas all e = sym (bytes_of_stretches bytes) ∙ proof_again 0 0 (stretches bytes) lemmas (have_some bytes all) e
