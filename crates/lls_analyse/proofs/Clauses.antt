-- The literals of a learnt clause, as they are gathered.
use Rattle.std.proofs.Common.{◌≡◌, ℕ, zero, suc, ◌+◌, ◌<◌, Bool, true, false, not, ◌||◌, cond, List, [], ◌∷◌, ◌++◌, length, get_or, take, All, refl, sym, ap, ◌∙◌, arith}
use Rattle.std.specs.Prelude.{ℤ, count_by, filter, ◌==◌}
use Rattle.std.specs.List.{list_any}
use Rattle.std.proofs.lemmas.List.{take_more}
use Rattle.std.proofs.lemmas.List.Elements.{All-append}
use Rattle.std.proofs.lemmas.List.Sums.{length-filter, count_by_more_yes, sum_by-take-le}
use Rattle.std.proofs.lemmas.Bool.{and_parts, eq-eqb, ne_eqb}
use Rattle.std.proofs.lemmas.List.Folds.{list_any_at}
use Rattle.lls_lit.specs.Literal.{variable_of}
use Rattle.lls_prooflog.specs.Spent.{has_variables_once}
use Rattle.lls_store.specs.Store.{IsNewVariable}
use Rattle.lls_analyse.proofs.Visits.{unlike}

-- one more element
pub All-take_more : {X : Type 0} (P : X → Type 0) (xs : List X) (i : ℕ) (x : X) → i < length xs → x ≡ get_or xs i x → All P (take i xs) → P x → All P (take (i + 1) xs)
All-take_more P xs i x lt is all one =
    let more : take (i + 1) xs ≡ take i xs ++ x ∷ [] = take_more xs i x lt ∙ ap (λ y. take i xs ++ y ∷ []) (sym is) in
    rw more (All-append P (take i xs) (x ∷ []) all (single P x one)) where
      single : {X : Type 0} (P : X → Type 0) (x : X) → P x → All P (x ∷ [])
      single P x one zero d lt = one
      single P x one (suc k) d lt = absurd (omega (arith, lt))

-- fewer pass so far than pass in all, where the next one passes
pub fewer_so_far : (p : ℤ → Bool) (xs : List ℤ) (i : ℕ) (x : ℤ) → i < length xs → x ≡ get_or xs i x → p x ≡ true → length (filter p (take i xs)) < count_by p xs
fewer_so_far p xs i x lt is passes =
    omega (arith, length-filter p (take i xs), count_by_more_yes p xs i x lt (ap p (sym is) ∙ passes), sum_by-take-le (λ (y : ℤ). cond (p y) 1 0) xs (i + 1))

-- where no variable stands twice, the next one's is new
pub new_variable : (xs : List ℤ) (i : ℕ) (x : ℤ) → has_variables_once xs ≡ true → i < length xs → x ≡ get_or xs i x → IsNewVariable (take i xs) x
new_variable [] i x once lt is = absurd (omega (arith, lt))
new_variable (y ∷ ys) zero x once lt is = refl
new_variable (y ∷ ys) (suc i) x once lt is =
    let parts = and_parts (not (list_any (λ m. variable_of m == variable_of y) ys)) (has_variables_once ys) once in
    let rest = new_variable ys i x parts.1 (omega (arith, lt)) is in
    let apart : (variable_of y == variable_of x) ≡ false = ne_eqb (variable_of y) (variable_of x) (λ same. none_there ys i (omega (arith, lt)) is (sym same) parts.0) in
    ap (λ b. b || list_any (λ m. variable_of m == variable_of x) (take i ys)) apart ∙ rest where
      opposite : (b : Bool) → not b ≡ true → b ≡ false
      opposite true is' = absurd cc
      opposite false is' = refl

      none_there : (ys : List ℤ) (i : ℕ) → i < length ys → x ≡ get_or ys i x → variable_of x ≡ variable_of y → not (list_any (λ m. variable_of m == variable_of y) ys) ≡ true → ⊥
      none_there ys i lt is same none = unlike (list_any_at (λ m. variable_of m == variable_of y) ys i x lt (ap (λ m. variable_of m == variable_of y) (sym is) ∙ eq-eqb (variable_of x) (variable_of y) same)) (opposite (list_any (λ m. variable_of m == variable_of y) ys) none)
