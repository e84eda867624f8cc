-- Cutting off the first line of a text.
use Rattle.std.proofs.Common.{◌≡◌, ◌<◌, ℕ, suc, ◌+◌, eqb, true, false, cond, not, List, [], ◌∷◌, length, take, drop, refl, ap, arith}
use Rattle.std.specs.List.{position_or_len, onto_first}
use Rattle.lls_text.specs.Lines.{cut_lines, is_line_feed}

-- how many bytes stand before the first line feed
abbrev pub line_end : List ℕ → ℕ
line_end bytes = position_or_len is_line_feed bytes

behind : (b m : ℕ) (xs : List ℕ) (lines : List (List ℕ)) → lines ≡ take m xs ∷ cut_lines (drop (m + 1) xs)
    → onto_first b lines ≡ take (1 + m) (b ∷ xs) ∷ cut_lines (drop ((1 + m) + 1) (b ∷ xs))
behind b m xs lines e =
    let one : 1 + m ≡ suc m = omega arith in
    let two : (1 + m) + 1 ≡ suc (m + 1) = omega arith in
    let front : take (1 + m) (b ∷ xs) ≡ b ∷ take m xs = ap (λ k. take k (b ∷ xs)) one in
    let rest : drop ((1 + m) + 1) (b ∷ xs) ≡ drop (m + 1) xs = ap (λ k. drop k (b ∷ xs)) two in
    rw (e, front, rest) refl

IsCut : List ℕ → Type 0
IsCut bytes = cut_lines bytes ≡ take (line_end bytes) bytes ∷ cut_lines (drop (line_end bytes + 1) bytes)

cut_step : (b : ℕ) (bytes : List ℕ) → (0 < length bytes → IsCut bytes) → IsCut (b ∷ bytes)
unfolding IsCut
cut_step b [] more =
    elim (eqb b 10) as (λ v. cond v ([] ∷ []) ((b ∷ []) ∷ []) ≡ take (cond (not v) 1 0) (b ∷ []) ∷ cut_lines (drop (cond (not v) 1 0 + 1) (b ∷ []))) [ true ↦ refl | false ↦ refl ]
cut_step b (c ∷ bytes) more =
    let m = line_end (c ∷ bytes) in
    let rest = c ∷ bytes in
    let later = behind b m rest (cut_lines rest) (more (omega arith)) in
    elim (eqb b 10) as (λ v. cond v ([] ∷ cut_lines rest) (onto_first b (cut_lines rest)) ≡ take (cond (not v) (1 + m) 0) (b ∷ rest) ∷ cut_lines (drop (cond (not v) (1 + m) 0 + 1) (b ∷ rest))) [ true ↦ refl | false ↦ later ]

first_cut : (bytes : List ℕ) → 0 < length bytes → IsCut bytes
first_cut [] some = absurd (omega arith)
first_cut (b ∷ bytes) some = cut_step b bytes (first_cut bytes)

-- the first line stands before the first line feed, and the others behind it
pub cut_first : (bytes : List ℕ) → 0 < length bytes → cut_lines bytes ≡ take (line_end bytes) bytes ∷ cut_lines (drop (line_end bytes + 1) bytes)
unfolding IsCut
cut_first bytes some = first_cut bytes some
