-- The bytes of an input.
use Rattle.std.proofs.Common.{◌≡◌, ◌≤◌, ℕ, List, length, Option, Some, Ok, refl, arith, nat_lt, false}
use Rattle.std.proofs.lemmas.Bool.Decides.{nat_tests}
use Rattle.lls_hinting.specs.Asked.{input_from}

-- an input that is there, and isn't too long
pub input_some : (limit : ℕ) (o : Option (List ℕ)) (bytes : List ℕ) → o ≡ Some bytes → length bytes ≤ limit → input_from limit o ≡ Ok bytes
input_some limit o bytes is fits = let short : nat_lt limit (length bytes) ≡ false = grind (arith, nat_tests, fits) in rw (is, short) refl
