-- The numbers that words of a proof write, and their ranges.
use Rattle.std.specs.Prelude.{ℕ, ◌-◌, ◌^◌, ℤ, pos, Bool, true, false, not, ◌&&◌, List, [], ◌∷◌, length, min, Option, Some, None, Result, Ok, Err, if◌then◌else◌, ◌==◌, nat_le}
use Rattle.std.specs.List.{list_all}
use Rattle.std.specs.Str.Parse.{digits_value}
use Rattle.lls_text.specs.Digits.{is_digits}
use Rattle.lls_text.specs.Words.{PlacedWord}
use Rattle.lls_lit.specs.Literal.{negation}
use Rattle.lls_lit.specs.declared.var.TheConstants.Var.{MOST}
use Rattle.lls_prooflog.specs.declared.step.TheConstants.Step.{MOST_ID}
use Rattle.lls_prooflog.specs.declared.line_fault.LineFault.{LineFault}
use Rattle.lls_prooflog.specs.declared.line_fault.LineFault.TheVariants.{BadWord, Range}
use Rattle.lls_prooflog.specs.declared.number.Number.{Number}

-- the bytes - and 0
abbrev pub minus : ℕ
minus = 45

abbrev pub digit_zero : ℕ
digit_zero = 48

-- at least one zero, and zeros alone
abbrev pub is_zeros : List ℕ → Bool
is_zeros text = not (length text == 0) && list_all (λ b. b == digit_zero) text

abbrev pub signed_digits : Bool → List ℕ → Option Number
signed_digits negative digits =
    if is_digits digits then Some (record { is_negative = negative; size = digits_value 10 digits }) else None

-- the number that a word writes: digits, or - and digits, of any number
abbrev pub number_in : List ℕ → Option Number
number_in [] = None
number_in (b ∷ bs) = if b == minus then signed_digits true bs else signed_digits false (b ∷ bs)

abbrev pub value_of : Number → ℤ
value_of number = if number.is_negative then negation (pos number.size) else pos number.size

-- an id has no sign and isn't 0
abbrev pub id_in : Number → Option ℕ
id_in number = if not number.is_negative && (nat_le 1 number.size && nat_le number.size MOST_ID) then Some number.size else None

-- the number before the d of a deletion has no sign and may be 0
abbrev pub leading_in : Number → Option ℕ
leading_in number = if not number.is_negative && nat_le number.size MOST_ID then Some number.size else None

-- a literal or a hint has either sign and isn't 0
abbrev pub literal_in : Number → Option ℤ
literal_in number = if nat_le 1 number.size && nat_le number.size MOST then Some (value_of number) else None

abbrev pub hint_in : Number → Option ℤ
hint_in number = if nat_le 1 number.size && nat_le number.size MOST_ID then Some (value_of number) else None

abbrev pub in_range : {X : Type 0} → ℕ → Option X → Result X LineFault
in_range column None = Err (Range column)
in_range column (Some x) = Ok x

abbrev pub ranged : {X : Type 0} → (Number → Option X) → ℕ → Option Number → Result X LineFault
ranged within column None = Err (BadWord column)
ranged within column (Some number) = in_range column (within number)

-- what a word writes where a number of that range stands, or its fault
abbrev pub item : {X : Type 0} → (Number → Option X) → PlacedWord → Result X LineFault
item within word = ranged within word.column (number_in word.text)

-- a number as code keeps it: a size that passes 64 bits stands as the greatest
abbrev pub capped : Number → Number
capped number = record number { size = min number.size (2 ^ 64 - 1) }
