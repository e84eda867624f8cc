-- The bytes of a side before its first digit, and those from it on.
use Rattle.std.proofs.Common.{◌≡◌, ℕ, zero, suc, Bool, true, false, cond, not, List, [], ◌∷◌, length, take, drop, refl, ap, ◌∙◌, sym}
use Rattle.std.specs.List.{take_while}
use Rattle.std.proofs.lemmas.List.Sums.{take_while-cons}
use Rattle.lls_hensel.specs.Reading.{cut, cut_before, before_digit, is_count}

take-length-take : {X : Type 0} (n : ℕ) (xs : List X) → take (length (take n xs)) xs ≡ take n xs
take-length-take zero xs = refl
take-length-take (suc n) [] = refl
take-length-take (suc n) (x ∷ xs) = ap (λ ys. x ∷ ys) (take-length-take n xs)

-- what a test passes at the front, by how many it is
pub take-length-take_while : {X : Type 0} (p : X → Bool) (xs : List X) → take (length (take_while p xs)) xs ≡ take_while p xs
take-length-take_while p xs = take-length-take _ xs

pub before_digit-take_while : (bytes : List ℕ) → before_digit bytes ≡ take_while (λ byte. not (is_count byte)) bytes
before_digit-take_while [] = refl
before_digit-take_while (byte ∷ rest) =
    let more = before_digit-take_while rest in
    (elim (is_count byte) as (λ b. (cut_before b byte (cut rest)).0 ≡ cond (not b) (byte ∷ take_while (λ byte. not (is_count byte)) rest) []) [
      | true ↦ refl
      | false ↦ ap (λ bytes. byte ∷ bytes) more
    ]) ∙ sym (take_while-cons (λ byte. not (is_count byte)) byte rest)

-- a side from its first digit on has no byte before its first digit
pub cut-drop : (bytes : List ℕ) → cut (drop (length (before_digit bytes)) bytes) ≡ ([], (cut bytes).1)
cut-drop [] = refl
cut-drop (byte ∷ rest) =
    elim (is_count byte) as (λ b. is_count byte ≡ b → cut (drop (length (cut_before b byte (cut rest)).0) (byte ∷ rest)) ≡ ([], (cut_before b byte (cut rest)).1)) [
      | true ↦ λ e. ap (λ b. cut_before b byte (cut rest)) e
      | false ↦ λ e. cut-drop rest
    ] refl

-- a side that has no byte before its first digit, at that digit
pub cut_at_digit : (digit : ℕ) (rest : List ℕ) → (cut (digit ∷ rest)).0 ≡ [] → (is_count digit ≡ true) × (cut (digit ∷ rest) ≡ ([], (digit, before_digit rest) ∷ (cut rest).1))
cut_at_digit digit rest =
    elim (is_count digit) as (λ b. is_count digit ≡ b → (cut_before b digit (cut rest)).0 ≡ [] → (b ≡ true) × (cut_before b digit (cut rest) ≡ ([], (digit, before_digit rest) ∷ (cut rest).1))) [
      | true ↦ λ e h. (refl, refl)
      | false ↦ λ e h. cc
    ] refl
