-- The words that are left of a line, where the first is looked at.
use Rattle.std.proofs.Common.{◌≡◌, ℕ, suc, ◌+◌, ◌-◌, ◌<◌, ◌≤◌, true, false, not, cond, ◌&&◌, eqb, eqb-true, ltb, List, [], ◌∷◌, length, take, drop, Some, None, refl, sym, ap, ◌∙◌, arith, length-drop}
use Rattle.std.specs.Prelude.{ℤ, Ok, Err, codes}
use Rattle.std.specs.Str.{bytes_eq}
use Rattle.std.proofs.lemmas.Bool.{and_parts, not-true}
use Rattle.std.proofs.lemmas.Bool.Decides.{nat_tests}
use Rattle.std.proofs.lemmas.List.Sums.{prefix_len-le-length}
use Rattle.lls_text.specs.Words.{PlacedWord, is_blank, is_solid, begins_solid, words_from}
use Rattle.lls_text.proofs.Fronts.{blanks, solids, solids-none, words_from-behind, begins_solid-blanks, words_from-word}
use Rattle.lls_prooflog.specs.declared.line_fault.LineFault.{LineFault}
use Rattle.lls_prooflog.specs.Number.{item}
use Rattle.lls_prooflog.specs.Line.{begins_d}
use Rattle.lls_prooflog.specs.Fronts.{behind_blanks, first_word, behind_word, is_d_first, behind_d}
use Rattle.lls_prooflog.specs.Numeral.{value_in, first_numeral}

-- the column at which the rest of a line of that length begins, and the words of the rest
abbrev pub column_at : ℕ → List ℕ → ℕ
column_at len rest = len - length rest + 1

abbrev pub words_at : ℕ → List ℕ → List PlacedWord
words_at len rest = words_from (column_at len rest) rest

length-behind : (text : List ℕ) → length (behind_blanks text) ≤ length text
length-behind text = omega (arith, length-drop (blanks text) text)

pub words_at-blanks : (len : ℕ) (rest : List ℕ) → length rest ≤ len → words_at len rest ≡ words_at len (behind_blanks rest)
words_at-blanks len rest le =
    let part = length-behind rest in
    let sum : column_at len rest + (length rest - length (behind_blanks rest)) ≡ column_at len (behind_blanks rest) = omega (arith, part, le) in
    words_from-behind (column_at len rest) rest ∙ rw sum refl

none : (text : List ℕ) → length text ≡ 0 → text ≡ []
none [] e = refl
none (b ∷ bs) e = absurd (omega arith)

-- behind the blanks nothing is left
pub words_at-none : (len : ℕ) (rest : List ℕ) → length rest ≤ len → length (behind_blanks rest) ≡ 0 → words_at len rest ≡ []
words_at-none len rest le e = words_at-blanks len rest le ∙ rw (none (behind_blanks rest) e) refl

-- the first word, and the words behind it
pub words_at-first : (len : ℕ) (rest : List ℕ) → length rest ≤ len → 0 < length (behind_blanks rest)
    → words_at len rest ≡ record { column = column_at len (behind_blanks rest); text = first_word (behind_blanks rest) } ∷ words_at len (behind_word (behind_blanks rest))
words_at-first len rest le some =
    let text = behind_blanks rest in
    let within : solids text ≤ length text = prefix_len-le-length _ text in
    let part : length text ≤ len = omega (arith, length-behind rest, le) in
    let sum : column_at len text + solids text ≡ column_at len (behind_word text) = omega (arith, within, part, length-drop (solids text) text) in
    words_at-blanks len rest le ∙ words_from-word (column_at len text) text (begins_solid-blanks rest some) ∙ rw sum refl

-- the value of the first word, or its fault
pub first_numeral-value : (len : ℕ) (rest : List ℕ) (value : ℤ) → length rest ≤ len → 0 < length (behind_blanks rest) → item value_in (record { column = column_at len (behind_blanks rest); text = first_word (behind_blanks rest) }) ≡ Ok value → first_numeral (words_at len rest) ≡ Ok (Some (record { column = column_at len (behind_blanks rest); value = value }))
first_numeral-value len rest value le some e = ap first_numeral (words_at-first len rest le some) ∙ rw e refl

pub first_numeral-fault : (len : ℕ) (rest : List ℕ) (fault : LineFault) → length rest ≤ len → 0 < length (behind_blanks rest) → item value_in (record { column = column_at len (behind_blanks rest); text = first_word (behind_blanks rest) }) ≡ Err fault → first_numeral (words_at len rest) ≡ Err fault
first_numeral-fault len rest fault le some e = ap first_numeral (words_at-first len rest le some) ∙ rw e refl

pub behind-first : (len : ℕ) (rest behind : List ℕ) → length rest ≤ len → 0 < length (behind_blanks rest) → behind ≡ behind_word (behind_blanks rest) → words_at len behind ≡ drop 1 (words_at len rest)
behind-first len rest behind le some e = rw (words_at-first len rest le some, e) refl

-- what a test for an empty text tells
pub empty_if : (text : List ℕ) → eqb (length text) 0 ≡ true → length text ≡ 0
empty_if text e = eqb-true (length text) 0 e

pub some_if : (text : List ℕ) → eqb (length text) 0 ≡ false → 0 < length text
some_if text e = grind (arith, nat_tests)

suc_of : (n : ℕ) → 1 + n ≡ suc n
suc_of n = omega arith

-- a word is at its end where no more of it follows
word_end : (text : List ℕ) → bytes_eq (first_word text) [] ≡ not (begins_solid text)
word_end [] = refl
word_end (b ∷ bs) = elim (is_blank b) as (λ v. bytes_eq (take (cond (not v) (1 + solids bs) 0) (b ∷ bs)) [] ≡ not (not v)) [
  | true ↦ refl
  | false ↦ rw (suc_of (solids bs)) refl
]

solids-word : (b : ℕ) (bs : List ℕ) → is_solid b ≡ true → solids (b ∷ bs) ≡ suc (solids bs)
solids-word b bs solid = elim (is_blank b) as (λ v. not v ≡ true → cond (not v) (1 + solids bs) 0 ≡ suc (solids bs)) [ true ↦ λ h. absurd cc | false ↦ λ _. suc_of (solids bs) ] solid

is_d_first-cons : (b : ℕ) (bs : List ℕ) → is_d_first (b ∷ bs) ≡ (eqb b 100 && not (begins_solid bs))
is_d_first-cons b bs = ap (λ v. v && (eqb b 100 && not (begins_solid bs))) (longer bs) where
  longer : (rest : List ℕ) → ltb 0 (length (b ∷ rest)) ≡ true
  longer rest = grind (arith, nat_tests)

first-d : (text : List ℕ) → begins_solid text ≡ true → bytes_eq (first_word text) (codes "d") ≡ is_d_first text
first-d [] solid = absurd cc
first-d (b ∷ bs) solid = rw (solids-word b bs solid, is_d_first-cons b bs) (ap (λ v. eqb b 100 && v) (word_end bs))

behind-d : (text : List ℕ) → begins_solid text ≡ true → is_d_first text ≡ true → drop 1 text ≡ behind_word text
behind-d [] solid e = absurd cc
behind-d (b ∷ bs) solid e =
    let parts = and_parts (eqb b 100) (not (begins_solid bs)) (sym (is_d_first-cons b bs) ∙ e) in
    rw (solids-word b bs solid, solids-none bs (not-true (begins_solid bs) parts.1)) refl

some-d : (text : List ℕ) → is_d_first text ≡ true → 0 < length text
some-d [] e = absurd cc
some-d (b ∷ bs) e = omega arith

begins_d-at : (len : ℕ) (rest : List ℕ) → length rest ≤ len → 0 < length (behind_blanks rest) → begins_d (words_at len rest) ≡ is_d_first (behind_blanks rest)
begins_d-at len rest le some = ap begins_d (words_at-first len rest le some) ∙ first-d (behind_blanks rest) (begins_solid-blanks rest some)

is_first : (text behind : List ℕ) → Some behind ≡ behind_d text → (is_d_first text ≡ true) × (behind ≡ drop 1 text)
is_first text behind e = elim (is_d_first text) as (λ v. Some behind ≡ cond v (Some (drop 1 text)) None → (v ≡ true) × (behind ≡ drop 1 text)) [
  | true ↦ λ h. (refl, cc)
  | false ↦ λ h. absurd cc
] e

pub d-first : (len : ℕ) (rest behind : List ℕ) → length rest ≤ len → Some behind ≡ behind_d (behind_blanks rest) → begins_d (words_at len rest) ≡ true
d-first len rest behind le e =
    let first = is_first (behind_blanks rest) behind e in
    begins_d-at len rest le (some-d (behind_blanks rest) first.0) ∙ first.0

pub d-behind : (len : ℕ) (rest behind : List ℕ) → length rest ≤ len → Some behind ≡ behind_d (behind_blanks rest) → words_at len behind ≡ drop 1 (words_at len rest)
d-behind len rest behind le e =
    let first = is_first (behind_blanks rest) behind e in
    let some = some-d (behind_blanks rest) first.0 in
    behind-first len rest behind le some (first.1 ∙ behind-d (behind_blanks rest) (begins_solid-blanks rest some) first.0)

pub d-none : (len : ℕ) (rest : List ℕ) → length rest ≤ len → None ≡ behind_d (behind_blanks rest) → begins_d (words_at len rest) ≡ false
d-none len rest le e =
    let text = behind_blanks rest in
    let not_d : is_d_first text ≡ false = elim (is_d_first text) as (λ v. None ≡ cond v (Some (drop 1 text)) None → v ≡ false) [ true ↦ λ h. absurd cc | false ↦ λ _. refl ] e in
    elim (eqb (length text) 0) as (λ v. eqb (length text) 0 ≡ v → begins_d (words_at len rest) ≡ false) [
      | true ↦ λ h. ap begins_d (words_at-none len rest le (empty_if text h))
      | false ↦ λ h. begins_d-at len rest le (some_if text h) ∙ not_d
    ] refl
