-- Clauses of each element of a list.
use Rattle.std.proofs.Common.{◌≡◌, ◌<◌, ℕ, Bool, true, List, [], ◌∷◌, refl, sym, ◌∙◌}
use Rattle.std.specs.List.{AllByRecursion as Each, flat_map}
use Rattle.std.proofs.lemmas.Bool.{and_parts, and_from}
use Rattle.lls_lit.specs.Formula.{Clause, satisfies}
use Rattle.lls_symmetry.proofs.Everywhere.{Each-append, Each-front, Each-back}
use Rattle.lls_encode.proofs.Parts.{satisfies-append}

-- what each element's clauses say holds of each element, and the other way round
pub Each-satisfied : {X : Type 0} (values : List Bool) (f : X → List Clause) (P : X → Type 0) → ((x : X) → satisfies values (f x) ≡ true → P x)
    → (xs : List X) → satisfies values (flat_map f xs) ≡ true → Each P xs
Each-satisfied values f P says [] satisfied = tt
Each-satisfied values f P says (x ∷ xs) satisfied =
    let parts = and_parts _ _ (sym (satisfies-append values (f x) (flat_map f xs)) ∙ satisfied) in
    (says x parts.0, Each-satisfied values f P says xs parts.1)

pub satisfies-each : {X : Type 0} (values : List Bool) (f : X → List Clause) (P : X → Type 0) → ((x : X) → P x → satisfies values (f x) ≡ true)
    → (xs : List X) → Each P xs → satisfies values (flat_map f xs) ≡ true
satisfies-each values f P said [] each = refl
satisfies-each values f P said (x ∷ xs) each =
    satisfies-append values (f x) (flat_map f xs) ∙ and_from _ _ (said x each.0) (satisfies-each values f P said xs each.1)

-- of lists that are joined end to end
pub Each-joined : {X Y : Type 0} (P : Y → Type 0) (f : X → List Y) (xs : List X) → Each (λ x. Each P (f x)) xs → Each P (flat_map f xs)
Each-joined P f [] each = tt
Each-joined P f (x ∷ xs) each = Each-append P (f x) (flat_map f xs) each.0 (Each-joined P f xs each.1)

pub joined-each : {X Y : Type 0} (P : Y → Type 0) (f : X → List Y) (xs : List X) → Each P (flat_map f xs) → Each (λ x. Each P (f x)) xs
joined-each P f [] each = tt
joined-each P f (x ∷ xs) each = (Each-front P (f x) (flat_map f xs) each, joined-each P f xs (Each-back P (f x) (flat_map f xs) each))

-- of each number below n
pub Each-below : {X : Type 0} (P : ℕ → X → Type 0) (n : ℕ) (xs : List X) → ((t : ℕ) → t < n → Each (P t) xs) → Each (λ x. (t : ℕ) → t < n → P t x) xs
Each-below P n [] each = tt
Each-below P n (x ∷ xs) each = (λ t below. (each t below).0, Each-below P n xs (λ t below. (each t below).1))
