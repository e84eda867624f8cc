-- Faults that a whole has from its parts.
use Rattle.std.proofs.Common.{◌≡◌, Result, Ok, Err, ap}
use Rattle.lls_base.specs.Results.{and_then}

-- the fault of a part is the fault of what follows from it
pub and_then-err : {A B E : Type 0} (part : Result A E) (more : A → Result B E) (fault : E) → part ≡ Err fault → and_then part more ≡ Err fault
and_then-err part more fault e = ap (λ p. and_then p more) e

-- what follows from the value of a part
pub and_then-ok : {A B E : Type 0} (part : Result A E) (more : A → Result B E) (value : A) → part ≡ Ok value → and_then part more ≡ more value
and_then-ok part more value e = ap (λ p. and_then p more) e
