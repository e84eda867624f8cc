-- The lemma that a stretch of bytes writes.
use Rattle.std.specs.Prelude.{ℕ, ◌+◌, ◌==◌, ℤ, Bool, true, false, List, [], ◌∷◌, drop, Option, Some, None, Result, Ok, Err, if◌then◌else◌}
use Rattle.lls_base.specs.Results.{and_then}
use Rattle.lls_drat.specs.declared.kind.Kind.{Kind}
use Rattle.lls_drat.specs.declared.kind.Kind.TheVariants.{Addition, Deletion}
use Rattle.lls_drat.specs.declared.drat_fault.DratFault.{DratFault}
use Rattle.lls_drat.specs.declared.drat_fault.DratFault.TheVariants.{Head, Range, Cut}
use Rattle.lls_drat.specs.Lemma.{Lemma}
use Rattle.lls_drat.specs.Number.{PlacedNumber, numbers_from, literal_in_bytes}

-- bytes up to a 0, which isn't one of them, or up to the end of the proof
pub record Stretch : Type 0 where
  pub bytes : List ℕ
  pub ended : Bool

abbrev pub onto_stretch : ℕ → List Stretch → List Stretch
onto_stretch b [] = record { bytes = b ∷ []; ended = false } ∷ []
onto_stretch b (s ∷ ss) = record s { bytes = b ∷ s.bytes } ∷ ss

abbrev pub stretches : List ℕ → List Stretch
stretches [] = []
stretches (b ∷ bs) = if b == 0 then record { bytes = []; ended = true } ∷ stretches bs else onto_stretch b (stretches bs)

-- a lemma begins with a or d. So many bytes stand before it
abbrev pub kind_at : ℕ → List ℕ → Result Kind DratFault
kind_at before [] = Err (Head (before + 1))
kind_at before (b ∷ bs) = if b == 97 then Ok Addition else if b == 100 then Ok Deletion else Err (Head (before + 1))

abbrev pub in_range : ℕ → Option ℤ → Result ℤ DratFault
in_range place None = Err (Range place)
in_range place (Some l) = Ok l

-- the literals of all numbers, or the first that is out of range
abbrev pub literals : List PlacedNumber → Result (List ℤ) DratFault
literals [] = Ok []
literals (number ∷ numbers) =
    and_then (in_range number.place (literal_in_bytes number.bytes)) (λ l. and_then (literals numbers) (λ ls. Ok (l ∷ ls)))

-- the lemma of bytes before which so many stand, and behind which a 0
abbrev pub lemma_of_bytes : ℕ → List ℕ → Result Lemma DratFault
lemma_of_bytes before bytes =
    and_then (kind_at before bytes) (λ kind.
    and_then (literals (numbers_from (before + 2) (drop 1 bytes))) (λ lits. Ok (record { kind = kind; lits = lits })))

-- a lemma that no 0 ends is cut
abbrev pub cut_at : ℕ → List ℕ → Result Lemma DratFault
cut_at before bytes = and_then (kind_at before bytes) (λ _. Err (Cut (before + 1)))

abbrev pub lemma_of_stretch : ℕ → Stretch → Result Lemma DratFault
lemma_of_stretch before s = if s.ended then lemma_of_bytes before s.bytes else cut_at before s.bytes
