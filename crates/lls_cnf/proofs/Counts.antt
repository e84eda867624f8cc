-- How many words the lines of a text have: no more than bytes.
use Rattle.std.proofs.Common.{◌≡◌, ℕ, ◌+◌, ◌-◌, ◌≤◌, true, false, cond, eqb, get_or, List, [], ◌∷◌, length, map, take, refl, arith}
use Rattle.std.specs.List.{flat_map, onto_first}
use Rattle.std.specs.Str.Lines.{strip_carriage_return}
use Rattle.std.proofs.lemmas.List.{length-append, length-map, length-take}
use Rattle.lls_text.specs.Lines.{cut_lines, lines_of}
use Rattle.lls_text.specs.Words.{PlacedWord, is_blank, begins_solid, before_word, words_from}
use Rattle.lls_cnf.specs.Dimacs.{Numbered, is_counted, counted_from, counted_lines, words_on}

-- the bytes of all lines
bytes_in : List (List ℕ) → ℕ
bytes_in [] = 0
bytes_in (line ∷ lines) = length line + bytes_in lines

bytes_in-onto_first : (b : ℕ) (lines : List (List ℕ)) → bytes_in (onto_first b lines) ≡ 1 + bytes_in lines
unfolding bytes_in
bytes_in-onto_first b [] = refl
bytes_in-onto_first b (line ∷ lines) = omega arith

bytes_in-cut_lines : (text : List ℕ) → bytes_in (cut_lines text) ≤ length text
unfolding bytes_in
bytes_in-cut_lines [] = omega arith
bytes_in-cut_lines (b ∷ bs) =
    elim (eqb b 10) as (λ v. bytes_in (cond v ([] ∷ cut_lines bs) (onto_first b (cut_lines bs))) ≤ length (b ∷ bs)) [
      | true ↦ omega (arith, bytes_in-cut_lines bs)
      | false ↦ omega (arith, bytes_in-onto_first b (cut_lines bs), bytes_in-cut_lines bs)
    ]

length-strip : (line : List ℕ) → length (strip_carriage_return line) ≤ length line
length-strip line =
    elim (eqb (get_or line (length line - 1) 0) 13) as (λ v. length (cond v (take (length line - 1) line) line) ≤ length line) [
      | true ↦ omega (arith, length-take (length line - 1) line)
      | false ↦ omega arith
    ]

bytes_in-strip : (lines : List (List ℕ)) → bytes_in (map strip_carriage_return lines) ≤ bytes_in lines
unfolding bytes_in
bytes_in-strip [] = omega arith
bytes_in-strip (line ∷ lines) = omega (arith, length-strip line, bytes_in-strip lines)

length-before_word : (column b : ℕ) (words : List PlacedWord) → length (before_word column b words) ≤ 1 + length words
length-before_word column b [] = omega arith
length-before_word column b (word ∷ words) = omega arith

length-words_from : (column : ℕ) (line : List ℕ) → length (words_from column line) ≤ length line
length-words_from column [] = omega arith
length-words_from column (b ∷ bs) =
    let words = words_from (column + 1) bs in
    let rest = length-words_from (column + 1) bs in
    elim (is_blank b) as (λ v. length (cond v words (cond (begins_solid bs) (before_word column b words) (record { column = column; text = b ∷ [] } ∷ words))) ≤ length (b ∷ bs)) [
      | true ↦ omega (arith, rest)
      | false ↦ elim (begins_solid bs) as (λ v. length (cond v (before_word column b words) (record { column = column; text = b ∷ [] } ∷ words)) ≤ length (b ∷ bs)) [
        | true ↦ omega (arith, rest, length-before_word column b words)
        | false ↦ omega (arith, rest)
      ]
    ]

length-words_on : (line : Numbered) → length (words_on line) ≤ length line.1
length-words_on line =
    omega (arith, length-map {B = Numbered} (words_from 1 line.1) (λ word. (line.0, word.text)), length-words_from 1 line.1)

length-words_of_lines : (number : ℕ) (lines : List (List ℕ)) → length (flat_map words_on (counted_from number lines)) ≤ bytes_in lines
unfolding bytes_in
length-words_of_lines number [] = omega arith
length-words_of_lines number (line ∷ lines) =
    let rest = counted_from (number + 1) lines in
    let later = length-words_of_lines (number + 1) lines in
    elim (is_counted line) as (λ v. length (flat_map words_on (cond v ((number, line) ∷ rest) rest)) ≤ length line + bytes_in lines) [
      | true ↦ omega (arith, later, length-words_on (number, line), length-append (words_on (number, line)) (flat_map words_on rest))
      | false ↦ omega (arith, later)
    ]

-- no more words than bytes
pub length-words_of_text : (text : List ℕ) → length (flat_map words_on (counted_lines text)) ≤ length text
length-words_of_text text =
    omega (arith, length-words_of_lines 1 (lines_of text), bytes_in-strip (cut_lines text), bytes_in-cut_lines text)
