-- The pieces of a buffer: how many they are, the one at a place, and one more.
use Rattle.std.proofs.Common.{◌≡◌, ℕ, zero, suc, ◌+◌, ◌-◌, ◌<◌, ◌≤◌, List, [], ◌∷◌, ◌++◌, length, get_or, take, drop, Some, refl, sym, ap, ◌∙◌, arith}
use Rattle.std.specs.Prelude.{ℤ, slice_get}
use Rattle.std.proofs.lemmas.List.{take-append-le, drop-append-le, drop_at, drop-take, take_all, take-take, length-drop}
use Rattle.lls_cnf.specs.Pieces.{pieces, AreEnds}

pub length-pieces : (from : ℕ) (ends : List ℕ) (buffer : List ℤ) → length (pieces from ends buffer) ≡ length ends
length-pieces from [] buffer = refl
length-pieces from (e ∷ es) buffer = ap suc (length-pieces e es buffer)

-- the last end is no less than the first place
pub from_le : (from : ℕ) (ends : List ℕ) (total : ℕ) → AreEnds from ends total → from ≤ total
from_le from [] total h = omega arith
from_le from (e ∷ es) total h = omega (arith, from_le e es total h.1)

-- a piece begins at or before its end, and ends within the buffer
pub bounds : (from : ℕ) (ends : List ℕ) (total k : ℕ) → AreEnds from ends total → k < length ends → (get_or (from ∷ ends) k 0 ≤ get_or ends k 0) × (get_or ends k 0 ≤ total)
bounds from [] total k h lt = absurd (omega arith)
bounds from (e ∷ es) total zero h lt = (h.0, from_le e es total h.1)
bounds from (e ∷ es) total (suc k) h lt = bounds e es total k h.1 (omega arith)

pub slice_get-pieces : (from : ℕ) (ends : List ℕ) (buffer : List ℤ) (k : ℕ) → k < length ends → slice_get (pieces from ends buffer) k ≡ Some (take (get_or ends k 0 - get_or (from ∷ ends) k 0) (drop (get_or (from ∷ ends) k 0) buffer))
slice_get-pieces from [] buffer k lt = absurd (omega arith)
slice_get-pieces from (e ∷ es) buffer zero lt = refl
slice_get-pieces from (e ∷ es) buffer (suc k) lt = slice_get-pieces e es buffer k (omega arith)

last_piece : (from : ℕ) (buffer more : List ℤ) → from ≡ length buffer → take (length buffer + length more - from) (drop from (buffer ++ more)) ≡ more
last_piece from buffer more e =
    let all : take (length buffer + length more - from) more ≡ more = take_all _ more (omega arith) in
    rw (drop_at buffer more from (sym e)) all

kept_piece : (from e : ℕ) (buffer more : List ℤ) → from ≤ e → e ≤ length buffer → take (e - from) (drop from (buffer ++ more)) ≡ take (e - from) (drop from buffer)
kept_piece from e buffer more le lt =
    rw (drop-append-le from buffer more (omega arith), take-append-le (e - from) (drop from buffer) more (omega (arith, length-drop from buffer))) refl

-- one more piece
pub pieces-push : (from : ℕ) (ends : List ℕ) (buffer more : List ℤ) → AreEnds from ends (length buffer) → pieces from (ends ++ (length buffer + length more) ∷ []) (buffer ++ more) ≡ pieces from ends buffer ++ more ∷ []
pieces-push from [] buffer more h = ap (λ (p : List ℤ). p ∷ []) (last_piece from buffer more h)
pieces-push from (e ∷ es) buffer more h =
    rw (kept_piece from e buffer more h.0 (from_le e es (length buffer) h.1), pieces-push e es buffer more h.1) refl

pub AreEnds-push : (from : ℕ) (ends : List ℕ) (total more : ℕ) → AreEnds from ends total → AreEnds from (ends ++ (total + more) ∷ []) (total + more)
AreEnds-push from [] total more h = (omega arith, refl)
AreEnds-push from (e ∷ es) total more h = (h.0, AreEnds-push e es total more h.1)

-- the first pieces, of a buffer that ends with them
kept_front : (from e end : ℕ) (buffer : List ℤ) → from ≤ e → e ≤ end → take (e - from) (drop from (take end buffer)) ≡ take (e - from) (drop from buffer)
kept_front from e end buffer le lt =
    let whole : end ≡ from + (end - from) = omega arith in
    let rest : drop from (take end buffer) ≡ take (end - from) (drop from buffer) = ap (λ n. drop from (take n buffer)) whole ∙ drop-take from (end - from) buffer in
    let less : e - from ≤ end - from = omega arith in
    rw rest (take-take (e - from) (end - from) (drop from buffer) less)

from_le_end : (from : ℕ) (ends : List ℕ) (total n : ℕ) → AreEnds from ends total → n ≤ length ends → from ≤ get_or (from ∷ ends) n 0
from_le_end from ends total zero h le = omega arith
from_le_end from [] total (suc n) h le = absurd (omega arith)
from_le_end from (e ∷ es) total (suc n) h le = omega (arith, h.0, from_le_end e es total n h.1 (omega arith))

pub end_within : (from : ℕ) (ends : List ℕ) (total n : ℕ) → AreEnds from ends total → n ≤ length ends → get_or (from ∷ ends) n 0 ≤ total
end_within from ends total zero h le = from_le from ends total h
end_within from [] total (suc n) h le = absurd (omega arith)
end_within from (e ∷ es) total (suc n) h le = end_within e es total n h.1 (omega arith)

pub pieces-take : (from : ℕ) (ends : List ℕ) (buffer : List ℤ) (total n : ℕ) → AreEnds from ends total → n ≤ length ends → pieces from (take n ends) (take (get_or (from ∷ ends) n 0) buffer) ≡ take n (pieces from ends buffer)
pieces-take from ends buffer total zero h le = refl
pieces-take from [] buffer total (suc n) h le = absurd (omega arith)
pieces-take from (e ∷ es) buffer total (suc n) h le =
    let within : e ≤ get_or (e ∷ es) n 0 = from_le_end e es total n h.1 (omega arith) in
    rw (kept_front from e (get_or (e ∷ es) n 0) buffer h.0 within, pieces-take e es buffer total n h.1 (omega arith)) refl

pub AreEnds-take : (from : ℕ) (ends : List ℕ) (total n : ℕ) → AreEnds from ends total → n ≤ length ends → AreEnds from (take n ends) (get_or (from ∷ ends) n 0)
AreEnds-take from ends total zero h le = refl
AreEnds-take from [] total (suc n) h le = absurd (omega arith)
AreEnds-take from (e ∷ es) total (suc n) h le = (h.0, AreEnds-take e es total n h.1 (omega arith))
