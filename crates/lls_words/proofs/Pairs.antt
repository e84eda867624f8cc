-- Two lists that are mapped to the same.
use Rattle.std.proofs.Common.{◌≡◌, ◌<◌, ℕ, zero, suc, All, List, [], ◌∷◌, map, length, drop, get_or, ap, arith, subst}
use Rattle.std.proofs.lemmas.List.{get_or-map, length-map}

pub same_at : {X Y Z W : Type 0} (f : Y → Z) (h : X → Y) (g : W → Z) (xs : List X) (ws : List W) (i : ℕ) (d : X) (e : W) → map f (map h xs) ≡ map g ws → i < length ws
    → f (h (get_or xs i d)) ≡ g (get_or ws i e)
same_at f h g xs [] i d e same inside = absurd (omega (arith, inside))
same_at f h g [] (w ∷ ws) i d e same inside = let bad = ap length same in absurd (omega (arith, bad))
same_at f h g (x ∷ xs) (w ∷ ws) zero d e same inside = ap (λ zs. get_or zs 0 (f (h x))) same
same_at f h g (x ∷ xs) (w ∷ ws) (suc i) d e same inside = same_at f h g xs ws i d e (ap (drop 1) same) (omega (arith, inside))

-- what holds of each of a mapped list
pub all-unmapped : {X Y : Type 0} (P : Y → Type 0) (f : X → Y) (xs : List X) → All P (map f xs) → All (λ x. P (f x)) xs
all-unmapped P f xs all k d inside =
    subst P (get_or-map f xs k d (f d) inside) (all k (f d) (let same = length-map xs f in omega (arith, inside, same)))
