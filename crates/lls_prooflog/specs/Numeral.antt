-- For private contracts alone: the words of a line, read as numbers one after another.
use Rattle.std.specs.Prelude.{ℕ, ℤ, pos, negsuc, Bool, false, not, ◌&&◌, ◌==◌, List, [], ◌∷◌, Option, Some, None, Result, Ok, Err, if◌then◌else◌, nat_le}
use Rattle.lls_base.specs.Results.{and_then}
use Rattle.lls_text.specs.Words.{PlacedWord}
use Rattle.lls_lit.specs.Literal.{variable_of}
use Rattle.lls_lit.specs.declared.var.TheConstants.Var.{MOST}
use Rattle.lls_prooflog.specs.declared.line_fault.LineFault.{LineFault}
use Rattle.lls_prooflog.specs.declared.line_fault.LineFault.TheVariants.{NoZero, Extra}
use Rattle.lls_prooflog.specs.declared.number.Number.{Number}
use Rattle.lls_prooflog.specs.declared.numeral.Numeral.{Numeral}
use Rattle.lls_prooflog.specs.declared.step.Step.{Step}
use Rattle.lls_prooflog.specs.declared.step.Step.TheVariants.{Add, Del}
use Rattle.lls_prooflog.specs.declared.step.TheConstants.Step.{MOST_ID}
use Rattle.lls_prooflog.specs.Number.{number_in, value_of, in_range, item}
use Rattle.lls_prooflog.specs.Line.{is_end, behind_end, listed, step_alone}

-- the value of a number that is in some range: no longer than an id, and not -0
abbrev pub value_in : Number → Option ℤ
value_in number =
    if nat_le number.size MOST_ID && not (number.is_negative && number.size == 0) then Some (value_of number) else None

abbrev pub value_of_number : Option Number → Option ℤ
value_of_number None = None
value_of_number (Some number) = value_in number

-- the value that a word writes
abbrev pub word_value : List ℕ → Option ℤ
word_value text = value_of_number (number_in text)

-- the value of a word that ends a list
abbrev pub is_end_value : ℤ → Bool
is_end_value (pos n) = n == 0
is_end_value (negsuc n) = false

-- a value as a literal, a hint, an id, or the number before d
abbrev pub literal_of : ℤ → Option ℤ
literal_of value = if nat_le 1 (variable_of value) && nat_le (variable_of value) MOST then Some value else None

abbrev pub hint_of : ℤ → Option ℤ
hint_of value = if nat_le 1 (variable_of value) then Some value else None

abbrev pub id_of : ℤ → Option ℕ
id_of (pos n) = if nat_le 1 n then Some n else None
id_of (negsuc n) = None

abbrev pub leading_of : ℤ → Option ℕ
leading_of (pos n) = Some n
leading_of (negsuc n) = None

-- what a word writes, by its value, or its fault
abbrev pub item_by : {X : Type 0} → (ℤ → Option X) → PlacedWord → Result X LineFault
item_by of word = and_then (item value_in word) (λ value. in_range word.column (of value))

-- the first word as a number, None where there is no word, or the word's fault
abbrev pub first_numeral : List PlacedWord → Result (Option Numeral) LineFault
first_numeral [] = Ok None
first_numeral (word ∷ words) =
    and_then (item value_in word) (λ value. Ok (Some (record { column = word.column; value = value })))

-- the first item of the list that the words begin with, None at its end, or the fault there
abbrev pub next_item : {X : Type 0} → (PlacedWord → Result X LineFault) → List PlacedWord → Result (Option X) LineFault
next_item item_of [] = Err NoZero
next_item item_of (word ∷ words) = if is_end word then Ok None else and_then (item_of word) (λ x. Ok (Some x))

-- no word may be left
abbrev pub unless_more : List PlacedWord → Result (Unit {0}) LineFault
unless_more [] = Ok tt
unless_more (word ∷ words) = Err (Extra word.column)

-- the step whose first word was read
abbrev pub addition_from : Numeral → List PlacedWord → Result (Option Step) LineFault
addition_from first words =
    and_then (in_range first.column (id_of first.value)) (λ id.
    and_then (listed (item_by literal_of) words) (λ lits.
    and_then (listed (item_by hint_of) (behind_end words)) (λ hints.
    step_alone (Add id lits hints) (behind_end (behind_end words)))))

abbrev pub deletion_from : Numeral → List PlacedWord → Result (Option Step) LineFault
deletion_from first words =
    and_then (in_range first.column (leading_of first.value)) (λ _.
    and_then (listed (item_by id_of) words) (λ ids. step_alone (Del ids) (behind_end words)))
