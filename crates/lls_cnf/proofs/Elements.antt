-- Tests of each element of a list, by the element at a place.
use Rattle.std.proofs.Common.{◌≡◌, ℕ, zero, suc, ◌+◌, Bool, true, false, ◌&&◌, List, [], ◌∷◌, ◌++◌, take, Some, refl, ap, arith}
use Rattle.std.specs.Prelude.{slice_get}
use Rattle.std.specs.List.{list_all}
use Rattle.std.proofs.lemmas.Bool.{and_parts}
use Rattle.std.proofs.lemmas.Option.{same_Some}

and_true : (a : Bool) → (a && true) ≡ a
and_true true = refl
and_true false = refl

and_false : (a : Bool) → (a && false) ≡ false
and_false true = refl
and_false false = refl

-- what each of a list passes, the one at a place passes
pub passes_at : {X : Type 0} (p : X → Bool) (xs : List X) (k : ℕ) (x : X) → list_all p xs ≡ true → slice_get xs k ≡ Some x → p x ≡ true
passes_at p [] k x h e = absurd cc
passes_at p (y ∷ ys) zero x h e = let same : y ≡ x = same_Some y x e in rw (← same) ((and_parts (p y) (list_all p ys) h).0)
passes_at p (y ∷ ys) (suc k) x h e = passes_at p ys k x ((and_parts (p y) (list_all p ys) h).1) e

-- where the one at a place doesn't pass, not all do
pub list_all-fails : {X : Type 0} (p : X → Bool) (xs : List X) (k : ℕ) (x : X) → slice_get xs k ≡ Some x → p x ≡ false → list_all p xs ≡ false
list_all-fails p [] k x e h = absurd cc
list_all-fails p (y ∷ ys) zero x e h = let same : y ≡ x = same_Some y x e in rw (same, h) refl
list_all-fails p (y ∷ ys) (suc k) x e h = rw (list_all-fails p ys k x e h) (and_false (p y))

-- where those before a place pass, it is the turn of the one at the place
pub list_all-next : {X : Type 0} (p : X → Bool) (xs : List X) (k : ℕ) (x : X) → slice_get xs k ≡ Some x → list_all p (take k xs) ≡ true → list_all p (take (k + 1) xs) ≡ p x
list_all-next p [] k x e h = absurd cc
list_all-next p (y ∷ ys) zero x e h = let same : y ≡ x = same_Some y x e in rw same (and_true (p x))
list_all-next p (y ∷ ys) (suc k) x e h =
    let next : suc k + 1 ≡ suc (k + 1) = omega arith in
    let parts = and_parts (p y) (list_all p (take k ys)) h in
    rw (next, parts.0) (list_all-next p ys k x e parts.1)

-- the first elements, and the one at the place behind them
pub take-next : {X : Type 0} (xs : List X) (k : ℕ) (x : X) → slice_get xs k ≡ Some x → take (k + 1) xs ≡ take k xs ++ x ∷ []
take-next [] k x e = absurd cc
take-next (y ∷ ys) zero x e = ap (λ (z : _). z ∷ []) (same_Some y x e)
take-next (y ∷ ys) (suc k) x e =
    let next : suc k + 1 ≡ suc (k + 1) = omega arith in
    rw next (ap (λ (zs : List _). y ∷ zs) (take-next ys k x e))
