-- Sound reasons, entry by entry.
use Rattle.std.proofs.Common.{◌≡◌, ℕ, List, [], ◌∷◌, ◌++◌, Some, sym, ap, subst, ◌∙◌, append_assoc}
use Rattle.std.proofs.lemmas.List.{append-nil}
use Rattle.lls_store.specs.Trail.{Entry}
use Rattle.lls_store.specs.Clauses.{LiveClause}
use Rattle.lls_store.specs.Sound.{IsForced}

-- each entry that has a reason is forced by it, behind those before it
abbrev pub AreForced : List LiveClause → List Entry → List Entry → Type 0
AreForced live before [] = Unit {0}
AreForced live before (e ∷ es) = ((reason : ℕ) → e.reason ≡ Some reason → IsForced live before e.lit reason) × AreForced live (before ++ e ∷ []) es

-- equal lists have equal heads and equal tails
pub heads : (x y : Entry) (xs ys : List Entry) → x ∷ xs ≡ y ∷ ys → (x ≡ y) × (xs ≡ ys)
heads x y xs ys h = (cc, cc)

forced_behind : (live : List LiveClause) (before es : List Entry) → AreForced live before es → (between after : List Entry) (e : Entry) (reason : ℕ) → es ≡ between ++ e ∷ after → e.reason ≡ Some reason → IsForced live (before ++ between) e.lit reason
forced_behind live before [] forced [] after e reason splits is = absurd cc
forced_behind live before [] forced (y ∷ between) after e reason splits is = absurd cc
forced_behind live before (x ∷ es) forced [] after e reason splits is =
    let P : Entry → Type 0 = λ y. IsForced live (before ++ []) y.lit reason in
    let same = (heads x e es after splits).0 in
    let Q : List Entry → Type 0 = λ all. IsForced live all x.lit reason in
    subst P same (subst Q (sym (append-nil before)) (forced.0 reason (ap (λ (y : Entry). y.reason) same ∙ is)))
forced_behind live before (x ∷ es) forced (y ∷ between) after e reason splits is =
    let parts = heads x y es (between ++ e ∷ after) splits in
    let P : List Entry → Type 0 = λ all. IsForced live all e.lit reason in
    subst P (append_assoc before (x ∷ []) between ∙ ap (λ z. before ++ z ∷ between) parts.0) (forced_behind live (before ++ x ∷ []) es forced.1 between after e reason parts.1 is)

pub IsSound-from_each : (live : List LiveClause) (es : List Entry) → AreForced live [] es → (before after : List Entry) (e : Entry) (reason : ℕ) → es ≡ before ++ e ∷ after → e.reason ≡ Some reason → IsForced live before e.lit reason
IsSound-from_each live es forced before after e reason splits is = forced_behind live [] es forced before after e reason splits is
