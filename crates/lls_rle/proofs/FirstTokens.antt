-- The blanks and the token that stand first in a text.
use Rattle.std.proofs.Common.{◌≡◌, ◌<◌, ◌≤◌, ◌+◌, ◌-◌, ℕ, suc, Bool, true, false, not, cond, max, List, [], ◌∷◌, ◌++◌, length, take, drop, refl, sym, ap, ◌∙◌, arith, subst, length-drop}
use Rattle.std.specs.Prelude.{◌&&◌}
use Rattle.std.specs.List.{position_or_len, list_all}
use Rattle.std.proofs.lemmas.Bool.{and_parts}
use Rattle.std.specs.Char.{is_ascii_digit}
use Rattle.std.proofs.lemmas.Bool.Decides.{nat_tests}
use Rattle.std.proofs.Math.Seq.{take-append_seam, drop-append_seam}
use Rattle.std.proofs.lemmas.List.Sums.{prefix_len-le-length}
use Rattle.lls_text.specs.Words.{is_blank, is_solid, begins_solid}
use Rattle.lls_rle.specs.Header.{digits}
use Rattle.lls_rle.specs.Tokens.{PlacedToken, before_token, begins_digit, tokens_from}

-- how many blanks stand first
abbrev pub blanks : List ℕ → ℕ
blanks text = position_or_len is_solid text

next : (n : ℕ) → 1 + n ≡ suc n
next n = omega arith

-- blanks at the begin are no tokens
tokens_from-blanks : (line column : ℕ) (text : List ℕ) → tokens_from line column text ≡ tokens_from line (column + blanks text) (drop (blanks text) text)
tokens_from-blanks line column [] = refl
tokens_from-blanks line column (b ∷ bs) =
    let rest = tokens_from line (column + 1) bs in
    elim (is_blank b) as (λ v. is_blank b ≡ v → cond v rest (cond (is_ascii_digit b && begins_digit bs) (before_token line column b rest) (record { line = line; column = column; text = b ∷ [] } ∷ rest))
    ≡ tokens_from line (column + cond (not (not v)) (1 + blanks bs) 0) (drop (cond (not (not v)) (1 + blanks bs) 0) (b ∷ bs))) [
      | true ↦ λ is. tokens_from-blanks line (column + 1) bs ∙ (let sum : (column + 1) + blanks bs ≡ column + (1 + blanks bs) = omega arith in rw (sum, next (blanks bs)) refl)
      | false ↦ λ is. let none : column + 0 ≡ column = omega arith in rw (none, is) refl
    ] refl

-- the same, by how much is left behind them
pub tokens_from-behind : (line column : ℕ) (text : List ℕ)
    → tokens_from line column text ≡ tokens_from line (column + (length text - length (drop (blanks text) text))) (drop (blanks text) text)
tokens_from-behind line column text =
    let within : blanks text ≤ length text = prefix_len-le-length _ text in
    let many : length text - length (drop (blanks text) text) ≡ blanks text = omega (arith, within, length-drop (blanks text) text) in
    rw many (tokens_from-blanks line column text)

-- no blank stands first behind them
pub begins_solid-behind : (text : List ℕ) → 0 < length (drop (blanks text) text) → begins_solid (drop (blanks text) text) ≡ true
begins_solid-behind [] some = absurd (omega arith)
begins_solid-behind (b ∷ bs) some =
    elim (is_blank b) as (λ v. is_blank b ≡ v → 0 < length (drop (cond (not (not v)) (1 + blanks bs) 0) (b ∷ bs)) → begins_solid (drop (cond (not (not v)) (1 + blanks bs) 0) (b ∷ bs)) ≡ true) [
      | true ↦ λ is. rw (next (blanks bs)) (begins_solid-behind bs)
      | false ↦ λ is _. rw is refl
    ] refl some

not_blank : (b : ℕ) → is_solid b ≡ true → is_blank b ≡ false
not_blank b e = elim (is_blank b) as (λ v. not v ≡ true → v ≡ false) [ true ↦ λ h. cc | false ↦ λ h. refl ] e

pub digit_not_blank : (b : ℕ) → is_ascii_digit b ≡ true → is_blank b ≡ false
digit_not_blank b e = grind (arith, nat_tests)

and_false : (x y : Bool) → y ≡ false → (x && y) ≡ false
and_false true y e = e
and_false false y e = refl

and_none : (x y : Bool) → x ≡ false → (x && y) ≡ false
and_none true y e = absurd cc
and_none false y e = refl

-- the token of the first n bytes stands first
IsFirst : ℕ → ℕ → List ℕ → ℕ → Type 0
IsFirst line column text n = tokens_from line column text ≡ record { line = line; column = column; text = take n text } ∷ tokens_from line (column + n) (drop n text)

-- a byte that no digit follows at once, or that is none
alone : (line column b : ℕ) (bs : List ℕ) → is_blank b ≡ false → (is_ascii_digit b && begins_digit bs) ≡ false → IsFirst line column (b ∷ bs) 1
unfolding IsFirst
alone line column b bs solid none = rw (solid, none) refl

none_digit : (bs : List ℕ) → begins_digit bs ≡ false → digits bs ≡ 0
none_digit [] e = refl
none_digit (b ∷ bs) e = elim (is_ascii_digit b) as (λ v. v ≡ false → cond (not (not v)) (1 + digits bs) 0 ≡ 0) [ true ↦ λ h. cc | false ↦ λ h. refl ] e

some_digit : (b : ℕ) (bs : List ℕ) → is_ascii_digit b ≡ true → digits (b ∷ bs) ≡ suc (digits bs)
some_digit b bs e = rw e (next (digits bs))

joined : (line column b : ℕ) (bs text : List ℕ) (tokens : List PlacedToken) → is_ascii_digit b ≡ true → begins_digit bs ≡ true
    → tokens_from line (column + 1) bs ≡ record { line = line; column = column + 1; text = text } ∷ tokens
    → tokens_from line column (b ∷ bs) ≡ record { line = line; column = column; text = b ∷ text } ∷ tokens
joined line column b bs text tokens digit follows e = rw (e, digit_not_blank b digit, digit, follows) refl

digits_first : (line column b : ℕ) (bs : List ℕ) → is_ascii_digit b ≡ true → IsFirst line column (b ∷ bs) (suc (digits bs))
unfolding IsFirst
digits_first line column b [] digit = alone line column b [] (digit_not_blank b digit) (rw digit refl)
digits_first line column b (c ∷ cs) digit =
    elim (is_ascii_digit c) as (λ v. is_ascii_digit c ≡ v → IsFirst line column (b ∷ c ∷ cs) (suc (digits (c ∷ cs)))) [
      | true ↦ λ is.
          let n = suc (digits cs) in
          let sum : (column + 1) + n ≡ column + suc n = omega arith in
          let whole : IsFirst line column (b ∷ c ∷ cs) (suc n) =
          joined line column b (c ∷ cs) (take n (c ∷ cs)) (tokens_from line ((column + 1) + n) (drop n (c ∷ cs))) digit is (digits_first line (column + 1) c cs is)
          ∙ ap (λ k. record { line = line; column = column; text = b ∷ take n (c ∷ cs) } ∷ tokens_from line k (drop n (c ∷ cs))) sum in
          subst (λ k. IsFirst line column (b ∷ c ∷ cs) (suc k)) (sym (some_digit c cs is)) whole
      | false ↦ λ is.
          let whole : IsFirst line column (b ∷ c ∷ cs) 1 = alone line column b (c ∷ cs) (digit_not_blank b digit) (and_false (is_ascii_digit b) (is_ascii_digit c) is) in
          subst (λ k. IsFirst line column (b ∷ c ∷ cs) (suc k)) (sym (none_digit (c ∷ cs) is)) whole
    ] refl

pub tokens_from-first : (line column : ℕ) (text : List ℕ) → begins_solid text ≡ true
    → tokens_from line column text ≡ record { line = line; column = column; text = take (max (digits text) 1) text } ∷ tokens_from line (column + max (digits text) 1) (drop (max (digits text) 1) text)
unfolding IsFirst
tokens_from-first line column [] solid = absurd cc
tokens_from-first line column (b ∷ bs) solid =
    elim (is_ascii_digit b) as (λ v. is_ascii_digit b ≡ v → IsFirst line column (b ∷ bs) (max (digits (b ∷ bs)) 1)) [
      | true ↦ λ is.
          let n : suc (digits bs) ≡ max (digits (b ∷ bs)) 1 = omega (arith, some_digit b bs is) in
          subst (IsFirst line column (b ∷ bs)) n (digits_first line column b bs is)
      | false ↦ λ is.
          let n : 1 ≡ max (digits (b ∷ bs)) 1 = omega (arith, none_digit (b ∷ bs) is) in
          subst (IsFirst line column (b ∷ bs)) n (alone line column b bs (not_blank b solid) (and_none (is_ascii_digit b) (begins_digit bs) is))
    ] refl

pub digits-front : (ds rest : List ℕ) → list_all is_ascii_digit ds ≡ true → begins_digit rest ≡ false → digits (ds ++ rest) ≡ length ds
digits-front [] rest all ends = none_digit rest ends
digits-front (b ∷ bs) rest all ends =
    let parts = and_parts (is_ascii_digit b) (list_all is_ascii_digit bs) all in
    some_digit b (bs ++ rest) parts.0 ∙ ap suc (digits-front bs rest parts.1 ends)

-- digits that stand first are one token
pub tokens_from-digits : (line column : ℕ) (ds rest : List ℕ) → 0 < length ds → list_all is_ascii_digit ds ≡ true → begins_digit rest ≡ false
    → tokens_from line column (ds ++ rest) ≡ record { line = line; column = column; text = ds } ∷ tokens_from line (column + length ds) rest
unfolding IsFirst
tokens_from-digits line column [] rest some all ends = absurd (omega arith)
tokens_from-digits line column (b ∷ bs) rest some all ends =
    let parts = and_parts (is_ascii_digit b) (list_all is_ascii_digit bs) all in
    let n : digits (bs ++ rest) ≡ length bs = digits-front bs rest parts.1 ends in
    digits_first line column b (bs ++ rest) parts.0
    ∙ ap (λ k. record { line = line; column = column; text = b ∷ take k (bs ++ rest) } ∷ tokens_from line (column + suc k) (drop k (bs ++ rest))) n
    ∙ ap (λ front. record { line = line; column = column; text = b ∷ front } ∷ tokens_from line (column + suc (length bs)) (drop (length bs) (bs ++ rest))) (take-append_seam bs rest)
    ∙ ap (λ behind. record { line = line; column = column; text = b ∷ bs } ∷ tokens_from line (column + suc (length bs)) behind) (drop-append_seam bs rest)
