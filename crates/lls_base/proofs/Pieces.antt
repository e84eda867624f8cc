-- Known bytes that grow by a list, piece by piece.
use Rattle.std.proofs.Common.{◌≡◌, ℕ, ◌+◌, List, ◌++◌, Option, Some, None, take, drop, refl, sym, ap, ◌∙◌, append_assoc}
use Rattle.std.proofs.Math.Seq.{take-add}
use Rattle.std.specs.Io.KnownBytes.{append_known}

pub append_known-append : (known : Option (List ℕ)) (xs ys : List ℕ) → append_known (append_known known xs) ys ≡ append_known known (xs ++ ys)
append_known-append None xs ys = refl
append_known-append (Some bytes) xs ys = ap Some (append_assoc bytes xs ys)

-- the first n bytes were taken, and then k more
pub append_known-take : (before now after : Option (List ℕ)) (bytes : List ℕ) (n k : ℕ)
    → now ≡ append_known before (take n bytes) → after ≡ append_known now (take k (drop n bytes)) → after ≡ append_known before (take (n + k) bytes)
append_known-take before now after bytes n k first next =
    next ∙ ap (λ known. append_known known (take k (drop n bytes))) first
    ∙ append_known-append before (take n bytes) (take k (drop n bytes))
    ∙ ap (append_known before) (sym (take-add n k bytes))
