-- The blanks and the word that stand first in a text.
use Rattle.std.proofs.Common.{◌≡◌, ◌<◌, ◌≤◌, ◌+◌, ◌-◌, ℕ, suc, true, false, not, cond, List, [], ◌∷◌, length, take, drop, refl, sym, ◌∙◌, arith, subst, length-drop}
use Rattle.std.specs.List.{position_or_len}
use Rattle.std.proofs.lemmas.List.Sums.{prefix_len-le-length}
use Rattle.lls_text.specs.Words.{is_blank, is_solid, begins_solid, PlacedWord, before_word, words_from}

-- how many blanks stand first, and how many bytes before the first blank
abbrev pub blanks : List ℕ → ℕ
blanks text = position_or_len is_solid text

abbrev pub solids : List ℕ → ℕ
solids text = position_or_len is_blank text

next : (n : ℕ) → 1 + n ≡ suc n
next n = omega arith

-- blanks at the begin are no words
pub words_from-blanks : (column : ℕ) (text : List ℕ) → words_from column text ≡ words_from (column + blanks text) (drop (blanks text) text)
words_from-blanks column [] = refl
words_from-blanks column (b ∷ bs) =
    elim (is_blank b) as (λ v. is_blank b ≡ v → cond v (words_from (column + 1) bs) (cond (begins_solid bs) (before_word column b (words_from (column + 1) bs)) (record { column = column; text = b ∷ [] } ∷ words_from (column + 1) bs))
    ≡ words_from (column + cond (not (not v)) (1 + blanks bs) 0) (drop (cond (not (not v)) (1 + blanks bs) 0) (b ∷ bs))) [
      | true ↦ λ is. words_from-blanks (column + 1) bs ∙ (let sum : (column + 1) + blanks bs ≡ column + (1 + blanks bs) = omega arith in rw (sum, next (blanks bs)) refl)
      | false ↦ λ is. let none : column + 0 ≡ column = omega arith in rw (none, is) refl
    ] refl

-- the same, by how much is left behind them
pub words_from-behind : (column : ℕ) (text : List ℕ) → words_from column text ≡ words_from (column + (length text - length (drop (blanks text) text))) (drop (blanks text) text)
words_from-behind column text =
    let within : blanks text ≤ length text = prefix_len-le-length _ text in
    let many : length text - length (drop (blanks text) text) ≡ blanks text = omega (arith, within, length-drop (blanks text) text) in
    rw many (words_from-blanks column text)

-- no blank stands first behind them
pub begins_solid-blanks : (text : List ℕ) → 0 < length (drop (blanks text) text) → begins_solid (drop (blanks text) text) ≡ true
begins_solid-blanks [] some = absurd (omega arith)
begins_solid-blanks (b ∷ bs) some =
    elim (is_blank b) as (λ v. is_blank b ≡ v → 0 < length (drop (cond (not (not v)) (1 + blanks bs) 0) (b ∷ bs)) → begins_solid (drop (cond (not (not v)) (1 + blanks bs) 0) (b ∷ bs)) ≡ true) [
      | true ↦ λ is. rw (next (blanks bs)) (begins_solid-blanks bs)
      | false ↦ λ is _. rw is refl
    ] refl some

-- a byte before a word that follows at once
joined : (column b : ℕ) (bs word : List ℕ) (words : List PlacedWord) → is_blank b ≡ false → begins_solid bs ≡ true
    → words_from (column + 1) bs ≡ record { column = column + 1; text = word } ∷ words
    → words_from column (b ∷ bs) ≡ record { column = column; text = b ∷ word } ∷ words
joined column b bs word words solid follows e = rw (e, solid, follows) refl

not_blank : (b : ℕ) → is_solid b ≡ true → is_blank b ≡ false
not_blank b e = elim (is_blank b) as (λ v. not v ≡ true → v ≡ false) [ true ↦ λ h. cc | false ↦ λ h. refl ] e

-- no byte stands before a blank that stands first
pub solids-none : (text : List ℕ) → begins_solid text ≡ false → solids text ≡ 0
solids-none [] e = refl
solids-none (b ∷ bs) e = elim (is_blank b) as (λ v. not v ≡ false → cond (not v) (1 + solids bs) 0 ≡ 0) [ true ↦ λ h. refl | false ↦ λ h. cc ] e

solids-suc : (b : ℕ) (bs : List ℕ) → is_blank b ≡ false → solids (b ∷ bs) ≡ suc (solids bs)
solids-suc b bs is = rw is (next (solids bs))

-- the word of the first n bytes stands first
IsWord : ℕ → List ℕ → ℕ → Type 0
IsWord column text n = words_from column text ≡ record { column = column; text = take n text } ∷ words_from (column + n) (drop n text)

alone : (column b : ℕ) (bs : List ℕ) → is_blank b ≡ false → begins_solid bs ≡ false → IsWord column (b ∷ bs) (suc (solids bs))
unfolding IsWord
alone column b bs is follows = let one : column + suc 0 ≡ column + 1 = omega arith in rw (solids-none bs follows, is, follows, one) refl

longer : (column b : ℕ) (bs : List ℕ) → is_blank b ≡ false → begins_solid bs ≡ true → IsWord (column + 1) bs (solids bs) → IsWord column (b ∷ bs) (suc (solids bs))
unfolding IsWord
longer column b bs is follows more =
    let sum : (column + 1) + solids bs ≡ column + suc (solids bs) = omega arith in
    joined column b bs (take (solids bs) bs) (words_from ((column + 1) + solids bs) (drop (solids bs) bs)) is follows more ∙ rw sum refl

word_first : (column : ℕ) (text : List ℕ) → begins_solid text ≡ true → IsWord column text (solids text)
word_first column [] solid = absurd cc
word_first column (b ∷ bs) solid =
    let is = not_blank b solid in
    subst (IsWord column (b ∷ bs)) (sym (solids-suc b bs is))
    (elim (begins_solid bs) as (λ v. begins_solid bs ≡ v → IsWord column (b ∷ bs) (suc (solids bs))) [
      | true ↦ λ follows. longer column b bs is follows (word_first (column + 1) bs follows)
      | false ↦ λ none. alone column b bs is none
    ] refl)

-- the word that stands first
pub words_from-word : (column : ℕ) (text : List ℕ) → begins_solid text ≡ true
    → words_from column text ≡ record { column = column; text = take (solids text) text } ∷ words_from (column + solids text) (drop (solids text) text)
unfolding IsWord
words_from-word column text solid = word_first column text solid
