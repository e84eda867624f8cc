-- For private contracts alone: how far the file of a proof was read.
use Rattle.std.specs.Prelude.{◌≡◌, ◌⊎◌, ◌≤◌, ◌<◌, ◌+◌, ◌++◌, ℕ, List, [], ◌∷◌, length, take, Option, None, Some, Result, Ok, Err, IfSome}
use Rattle.lls_drat.specs.declared.drat_fault.DratFault.{DratFault}
use Rattle.lls_drat.specs.Lemma.{NumberedLemma}
use Rattle.lls_drat.specs.Proof.{Proof, at_fault, before_proof, no_more}
use Rattle.lls_drat.specs.Reading.{Keeps, MeetsFault, Reading, TakesLemma, taken, to_come}
use Rattle.lls_hinting.specs.declared.fault.Fault.{Fault}
use Rattle.lls_hinting.specs.declared.fault.Fault.TheVariants as faults
use Rattle.lls_hinting.specs.declared.proof_file.Next.{Next}
use Rattle.lls_hinting.specs.declared.proof_file.ProofFile.{ProofFile}
use Rattle.lls_hinting.specs.Asked.{proof_limit}

-- a proof at a moment of its reading: what was read of it, how many bytes, and what is left of its file
pub record Place : Type 0 where
  pub reading : Reading
  pub taken : ℕ
  pub rest : Option (List ℕ)

-- so many bytes of a file came between two moments
pub record Left (before after : Place) (left : List ℕ) : Type 0 where
  pub bytes : List ℕ
  pub rest : after.rest ≡ Some bytes
  pub same_length : after.taken + length bytes ≡ before.taken + length left

abbrev pub to_come_at : Place → List ℕ → Proof
to_come_at place left = to_come place.reading left

-- the lemmas before others
abbrev pub with_front : List NumberedLemma → Proof → Proof
with_front front proof = record proof { lemmas = front ++ proof.lemmas }

-- these lemmas were read between two moments
pub record Passed (front : List NumberedLemma) (before after : Place) (left : List ℕ) : Type 0 where
  pub left_then : Left before after left
  pub lemmas : to_come_at before left ≡ with_front front (to_come_at after left_then.bytes)

abbrev pub Passes : List NumberedLemma → Place → Place → Type 0
Passes front before after = IfSome before.rest (Passed front before after)

-- the proof has these lemmas and no fault, and isn't too long
pub record Ended (front : List NumberedLemma) (before : Place) (left : List ℕ) : Type 0 where
  pub lemmas : to_come_at before left ≡ with_front front no_more
  pub fits : before.taken + length left ≤ proof_limit

abbrev pub EndsBehind : List NumberedLemma → Place → Type 0
EndsBehind front before = IfSome before.rest (Ended front before)

-- the proof has these lemmas before its fault
pub record Faulty (front : List NumberedLemma) (fault : DratFault) (before after : Place) (left : List ℕ) : Type 0 where
  pub left_then : Left before after left
  pub lemmas : to_come_at before left ≡ with_front front (at_fault fault)

abbrev pub FaultBehind : List NumberedLemma → DratFault → Place → Place → Type 0
FaultBehind front fault before after = IfSome before.rest (Faulty front fault before after)

-- it has more bytes than a proof may have
abbrev pub IsTooLong : Place → Type 0
IsTooLong before = IfSome before.rest (λ left. proof_limit < before.taken + length left)

-- why no lemma was read behind these
abbrev pub StopsBehind : List NumberedLemma → Place → Place → Fault → Type 0
StopsBehind front before after (faults.Proof fault) = FaultBehind front fault before after
StopsBehind front before after (faults.TooLong limit) = (limit ≡ proof_limit) × IsTooLong before
StopsBehind front before after fault = ⊥

abbrev pub place_at : ProofFile → Option (List ℕ) → Place
place_at proof rest = record { reading = proof.reader; taken = proof.taken; rest = rest }

-- the bytes that a read took: the first of a buffer, and none only at the end
pub record PieceRead (n : ℕ) (buffer : List ℕ) (rest : Option (List ℕ)) (left : List ℕ) : Type 0 where
  pub bytes : List ℕ
  pub rest_is : rest ≡ Some bytes
  pub front : left ≡ take n buffer ++ bytes
  pub end : n ≡ 0 → 0 < length buffer → left ≡ []

-- what a read says of what was left before it and is left behind it, where so many bytes were read before
abbrev pub PieceSays : ℕ → List ℕ → Option (List ℕ) → Option (List ℕ) → Result ℕ Fault → Type 0
PieceSays count buffer before after (Ok n) = IfSome before (PieceRead n buffer after)
PieceSays count buffer before after (Err (faults.TooLong limit)) = (limit ≡ proof_limit) × IfSome before (λ left. proof_limit < count + length left)
PieceSays count buffer before after (Err fault) = ⊥

-- bytes came between two moments, and no lemma was read
pub record Came (before after : Place) : Type 0 where
  pub bytes : List ℕ
  pub keeps : (more : List ℕ) → to_come before.reading (bytes ++ more) ≡ to_come after.reading more
  pub taken_then : after.taken ≡ before.taken + length bytes
  pub rest : IfSome before.rest (λ left. (behind : List ℕ) × (after.rest ≡ Some behind) × (left ≡ bytes ++ behind))

abbrev pub IsAtEnd : Place → Type 0
IsAtEnd place = IfSome place.rest (λ left. left ≡ [])

abbrev pub FillSays : Place → Place → Result ℕ Fault → Type 0
FillSays before after (Ok n) = Came before after × (n ≡ 0 → IsAtEnd before)
FillSays before after (Err fault) = StopsBehind [] before after fault

-- the next lemma that has come whole
abbrev pub WholeSays : Reading → Reading → Result (Option Next) Fault → Type 0
WholeSays before after (Ok (Some next)) = (next.number ≡ after.count) × TakesLemma next.kind before after
WholeSays before after (Ok None) = Keeps before after
WholeSays before after (Err (faults.Proof fault)) = MeetsFault fault before
WholeSays before after (Err faults.Memory) = Unit {0}
WholeSays before after (Err fault) = ⊥

-- and the next one where no more bytes come
abbrev pub LastSays : Reading → Reading → Result (Option Next) Fault → Type 0
LastSays before after (Ok (Some next)) = (next.number ≡ after.count) × (to_come before [] ≡ before_proof (taken next.kind after) (to_come after []))
LastSays before after (Ok None) = to_come before [] ≡ no_more
LastSays before after (Err (faults.Proof fault)) = to_come before [] ≡ at_fault fault
LastSays before after (Err faults.Memory) = Unit {0}
LastSays before after (Err fault) = ⊥

abbrev pub NextSays : Place → Place → Result (Option Next) Fault → Type 0
NextSays before after (Ok (Some next)) = (next.number ≡ after.reading.count) × Passes (taken next.kind after.reading ∷ []) before after
NextSays before after (Ok None) = EndsBehind [] before
NextSays before after (Err fault) = StopsBehind [] before after fault

-- whether what is left isn't too long
abbrev pub RestSays : Place → Result (Unit {0}) Fault → Type 0
RestSays before (Ok done) = IfSome before.rest (λ left. before.taken + length left ≤ proof_limit)
RestSays before (Err (faults.TooLong limit)) = (limit ≡ proof_limit) × IsTooLong before
RestSays before (Err fault) = ⊥

-- the first bytes of what was left, at least so many where it has them
pub record HasStart (most : ℕ) (start left : List ℕ) : Type 0 where
  pub behind : List ℕ
  pub front : left ≡ start ++ behind
  pub enough : (most ≤ length start) ⊎ (behind ≡ [])

abbrev pub StartSays : ℕ → Option (List ℕ) → List ℕ → Result (Unit {0}) Fault → Type 0
StartSays most rest start (Ok done) = IfSome rest (HasStart most start)
StartSays most rest start (Err (faults.TooLong limit)) = (limit ≡ proof_limit) × IfSome rest (λ left. proof_limit < length left)
StartSays most rest start (Err fault) = ⊥
