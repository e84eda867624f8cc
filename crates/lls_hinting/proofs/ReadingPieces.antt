-- A piece of a proof that is read.
use Rattle.std.proofs.Common.{◌≡◌, ◌≤◌, ◌<◌, ◌+◌, ℕ, List, [], ◌++◌, length, take, Option, Some, Ok, sym, arith}
use Rattle.std.proofs.lemmas.List.{length-take-le}
use Rattle.lls_drat.specs.Reading.{to_come}
use Rattle.lls_hinting.specs.Place.{FillSays, PieceRead, PieceSays, Place}
use Rattle.lls_hinting.proofs.Passing.{at, known}

-- it was put behind the others
pub filled : (place after : Place) (buffer : List ℕ) (n : ℕ) → PieceSays place.taken buffer place.rest after.rest (Ok n) → ((more : List ℕ) → to_come after.reading more ≡ to_come place.reading (take n buffer ++ more))
    → after.taken ≡ place.taken + n → n ≤ length buffer → 0 < length buffer → FillSays place after (Ok n)
filled place after buffer n piece puts taken within room = (
  record {
    bytes = take n buffer;
    keeps = λ more. sym (puts more);
    taken_then = omega (arith, taken, length-take-le n buffer within);
    rest = known (λ left. (behind : List ℕ) × (after.rest ≡ Some behind) × (left ≡ take n buffer ++ behind)) place.rest (λ left is.
        let p = at (PieceRead n buffer after.rest) place.rest left is piece in (p.bytes, p.rest_is, p.front));
  },
  λ zero. known (λ left. left ≡ []) place.rest (λ left is. let p = at (PieceRead n buffer after.rest) place.rest left is piece in p.end zero room),
)

-- what was left of a proof, of which so many bytes were read then, and what is left now
pub record LeftOf (taken taken' : ℕ) (now : Option (List ℕ)) (left : List ℕ) : Type 0 where
  pub behind : List ℕ
  pub rest : now ≡ Some behind
  pub same_length : taken' + length behind ≡ taken + length left
