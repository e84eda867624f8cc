-- The step that a line of a proof writes, by its words.
use Rattle.std.specs.Prelude.{ℕ, Bool, true, false, List, [], ◌∷◌, map, drop, Option, Some, None, Result, Ok, Err, codes, if◌then◌else◌}
use Rattle.std.specs.List.{list_any}
use Rattle.std.specs.Str.{bytes_eq}
use Rattle.lls_base.specs.Results.{and_then}
use Rattle.lls_text.specs.Lines.{begins_with}
use Rattle.lls_text.specs.Words.{PlacedWord, words_of}
use Rattle.lls_prooflog.specs.declared.line_fault.LineFault.{LineFault}
use Rattle.lls_prooflog.specs.declared.line_fault.LineFault.TheVariants.{NoZero, Extra}
use Rattle.lls_prooflog.specs.declared.step.Step.{Step}
use Rattle.lls_prooflog.specs.declared.step.Step.TheVariants.{Add, Del}
use Rattle.lls_prooflog.specs.Number.{is_zeros, id_in, leading_in, literal_in, hint_in, item}

-- the byte c, with which a comment begins
abbrev pub comment : ℕ
comment = 99

-- a word of zeros alone, which ends a list
abbrev pub is_end : PlacedWord → Bool
is_end word = is_zeros word.text

-- the words before the first end, and those behind it
abbrev pub before_end : List PlacedWord → List PlacedWord
before_end [] = []
before_end (word ∷ words) = if is_end word then [] else word ∷ before_end words

abbrev pub behind_end : List PlacedWord → List PlacedWord
behind_end [] = []
behind_end (word ∷ words) = if is_end word then words else behind_end words

-- all values, or the first fault
abbrev pub all_of : {X : Type 0} → List (Result X LineFault) → Result (List X) LineFault
all_of [] = Ok []
all_of (x ∷ xs) = and_then x (λ value. and_then (all_of xs) (λ values. Ok (value ∷ values)))

abbrev pub if_ended : {X : Type 0} → Bool → X → Result X LineFault
if_ended true value = Ok value
if_ended false value = Err NoZero

-- the list that the words begin with, each word an item, up to its end
abbrev pub listed : {X : Type 0} → (PlacedWord → Result X LineFault) → List PlacedWord → Result (List X) LineFault
listed item_of words = and_then (all_of (map item_of (before_end words))) (if_ended (list_any is_end words))

-- no word stands behind a step
abbrev pub step_alone : Step → List PlacedWord → Result (Option Step) LineFault
step_alone step [] = Ok (Some step)
step_alone step (word ∷ words) = Err (Extra word.column)

-- an id, literals and their end, hints and their end
abbrev pub addition : PlacedWord → List PlacedWord → Result (Option Step) LineFault
addition first words =
    and_then (item id_in first) (λ id.
    and_then (listed (item literal_in) words) (λ lits.
    and_then (listed (item hint_in) (behind_end words)) (λ hints.
    step_alone (Add id lits hints) (behind_end (behind_end words)))))

-- a number, d, ids and their end: the words are those behind d
abbrev pub deletion : PlacedWord → List PlacedWord → Result (Option Step) LineFault
deletion first words =
    and_then (item leading_in first) (λ _. and_then (listed (item id_in) words) (λ ids. step_alone (Del ids) (behind_end words)))

-- the word d in second place makes a deletion
abbrev pub begins_d : List PlacedWord → Bool
begins_d [] = false
begins_d (word ∷ words) = bytes_eq word.text (codes "d")

abbrev pub step_of_words : List PlacedWord → Result (Option Step) LineFault
step_of_words [] = Ok None
step_of_words (first ∷ words) = if begins_d words then deletion first (drop 1 words) else addition first words

-- the step that a line writes, None at a comment and where there is no word, or the leftmost fault
abbrev pub step_of_line : List ℕ → Result (Option Step) LineFault
step_of_line line = if begins_with comment line then Ok None else step_of_words (words_of line)
