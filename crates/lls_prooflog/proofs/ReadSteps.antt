-- The step of a line whose first word was read.
use Rattle.std.proofs.Common.{◌≡◌, ℕ, true, false, cond, List, [], ◌∷◌, drop, Option, Some, None, refl, ap, ◌∙◌}
use Rattle.std.specs.Prelude.{ℤ, Result, Ok, Err}
use Rattle.lls_base.specs.Results.{and_then}
use Rattle.lls_text.specs.Lines.{begins_with}
use Rattle.lls_text.specs.Words.{PlacedWord, words_of}
use Rattle.lls_prooflog.specs.declared.line_fault.LineFault.{LineFault}
use Rattle.lls_prooflog.specs.declared.line_fault.LineFault.TheVariants.{BadWord, Range}
use Rattle.lls_prooflog.specs.declared.number.Number.{Number}
use Rattle.lls_prooflog.specs.declared.numeral.Numeral.{Numeral}
use Rattle.lls_prooflog.specs.Number.{number_in, id_in, leading_in, literal_in, hint_in, in_range, ranged, item}
use Rattle.lls_prooflog.specs.Line.{comment, behind_end, addition, deletion, begins_d, step_of_words, step_of_line}
use Rattle.lls_prooflog.specs.Numeral.{value_in, id_of, leading_of, literal_of, hint_of, first_numeral, addition_from, deletion_from}
use Rattle.lls_prooflog.proofs.Ends.{by_value, IsByValue, id_by_value, leading_by_value, literal_by_value, hint_by_value, listed_by_value}

abbrev numeral_at : ℕ → ℤ → Numeral
numeral_at column value = record { column = column; value = value }

item_first : {X : Type 0} (within : Number → Option X) (of : ℤ → Option X) → IsByValue within of → (word : PlacedWord) (words : List PlacedWord) (first : Numeral) → Ok (Some first) ≡ first_numeral (word ∷ words) → item within word ≡ in_range first.column (of first.value)
item_first within of same word words first e =
    elim (number_in word.text) as (λ o. Ok (Some first) ≡ and_then (ranged value_in word.column o) (λ value. Ok (Some (numeral_at word.column value))) → ranged within word.column o ≡ in_range first.column (of first.value)) [
      | None ↦ λ h. absurd cc
      | Some number ↦ λ h. rw (same number) (elim (value_in number) as (λ v. Ok (Some first) ≡ and_then (in_range word.column v) (λ value. Ok (Some (numeral_at word.column value))) → in_range word.column (by_value of v) ≡ in_range first.column (of first.value)) [
        | None ↦ λ k. absurd cc
        | Some value ↦ λ k.
            let equal : first ≡ record { column = word.column; value = value } = cc in
            rw equal refl
      ] h)
    ] e

words_addition : (words : List PlacedWord) (first : Numeral) → Ok (Some first) ≡ first_numeral words → begins_d (drop 1 words) ≡ false → step_of_words words ≡ addition_from first (drop 1 words)
words_addition [] first e no_d = absurd cc
words_addition (word ∷ words) first e no_d = rw (no_d, item_first id_in id_of id_by_value word words first e, listed_by_value literal_in literal_of literal_by_value words, listed_by_value hint_in hint_of hint_by_value (behind_end words)) refl

words_deletion : (words : List PlacedWord) (first : Numeral) → Ok (Some first) ≡ first_numeral words → begins_d (drop 1 words) ≡ true → step_of_words words ≡ deletion_from first (drop 1 (drop 1 words))
words_deletion [] first e d = absurd cc
words_deletion (word ∷ words) first e d = rw (d, item_first leading_in leading_of leading_by_value word words first e, listed_by_value id_in id_of id_by_value (drop 1 words)) refl

no_comment : (line : List ℕ) (words : List PlacedWord) → begins_with comment line ≡ false → words ≡ words_of line → step_of_line line ≡ step_of_words words
no_comment line words none e = rw (none, e) refl

pub line_addition : (line : List ℕ) (words : List PlacedWord) (first : Numeral) → begins_with comment line ≡ false → words ≡ words_of line → Ok (Some first) ≡ first_numeral words → begins_d (drop 1 words) ≡ false → step_of_line line ≡ addition_from first (drop 1 words)
line_addition line words first none same e no_d = no_comment line words none same ∙ words_addition words first e no_d

pub line_deletion : (line : List ℕ) (words : List PlacedWord) (first : Numeral) → begins_with comment line ≡ false → words ≡ words_of line → Ok (Some first) ≡ first_numeral words → begins_d (drop 1 words) ≡ true → step_of_line line ≡ deletion_from first (drop 1 (drop 1 words))
line_deletion line words first none same e d = no_comment line words none same ∙ words_deletion words first e d

same_error : (X : Type 0) (f g : LineFault) (r : Result X LineFault) → r ≡ Err f → r ≡ Err g → f ≡ g
same_error X f g r e h = cc

-- the fault of the first word is that of the line
item_fault : {X : Type 0} (within : Number → Option X) (of : ℤ → Option X) → IsByValue within of → (word : PlacedWord) (words : List PlacedWord) (fault : LineFault) → Err fault ≡ first_numeral (word ∷ words) → item within word ≡ Err fault
item_fault within of same word words fault e =
    elim (number_in word.text) as (λ o. Err fault ≡ and_then (ranged value_in word.column o) (λ value. Ok (Some (numeral_at word.column value))) → ranged within word.column o ≡ Err fault) [
      | None ↦ λ h. ap Err (same_error (Option Numeral) (BadWord word.column) fault (Err fault) h refl)
      | Some number ↦ λ h. rw (same number) (elim (value_in number) as (λ v. Err fault ≡ and_then (in_range word.column v) (λ value. Ok (Some (numeral_at word.column value))) → in_range word.column (by_value of v) ≡ Err fault) [
        | None ↦ λ k. ap Err (same_error (Option Numeral) (Range word.column) fault (Err fault) k refl)
        | Some value ↦ λ k. absurd cc
      ] h)
    ] e

words_fault : (words : List PlacedWord) (fault : LineFault) → Err fault ≡ first_numeral words → step_of_words words ≡ Err fault
words_fault [] fault e = absurd cc
words_fault (word ∷ words) fault e = elim (begins_d words) as (λ b. cond b (deletion word (drop 1 words)) (addition word words) ≡ Err fault) [
  | true ↦ rw (item_fault leading_in leading_of leading_by_value word words fault e) refl
  | false ↦ rw (item_fault id_in id_of id_by_value word words fault e) refl
]

pub line_fault : (line : List ℕ) (words : List PlacedWord) (fault : LineFault) → begins_with comment line ≡ false → words ≡ words_of line → Err fault ≡ first_numeral words → step_of_line line ≡ Err fault
line_fault line words fault none same e = no_comment line words none same ∙ words_fault words fault e
