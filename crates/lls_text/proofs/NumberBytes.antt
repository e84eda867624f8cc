-- The bytes of printed numbers.
use Rattle.std.proofs.Common.{◌≡◌, ℕ, ◌^◌, ◌<◌, Bool, true, false, ◌&&◌, eqb, leb, List, [], ◌∷◌, ◌++◌, length, refl, arith}
use Rattle.std.specs.List.{list_all}
use Rattle.std.specs.Char.{is_ascii_digit}
use Rattle.std.specs.Fmt.{decimal}
use Rattle.std.specs.Int.{IsInRange}
use Rattle.std.specs.Str.Parse.{AllDigits}
use Rattle.std.proofs.lemmas.Bool.{and_parts, le-leb}
use Rattle.std.proofs.lemmas.Bool.Decides.{nat_tests}
use Rattle.std.proofs.lemmas.Fmt.{decimal_is_IsNumeral}
use Rattle.std.proofs.lemmas.Str.Parse.{digit_from_value}
use Rattle.lls_text.specs.Lines.{is_blank_line, begins_with}
use Rattle.lls_text.specs.Words.{is_blank, is_solid}
use Rattle.lls_text.proofs.Printed.{is_printed, list_all-weaker, passes-apart}

-- a byte of a printed number: from - to 9
abbrev pub is_number_byte : ℕ → Bool
is_number_byte b = leb 45 b && leb b 57

number_byte : (b : ℕ) → IsInRange 45 57 b → is_number_byte b ≡ true
number_byte b range = rw (le-leb 45 b (omega (arith, range)), le-leb b 57 (omega (arith, range))) refl

digit_byte : (b : ℕ) → IsInRange 48 57 b → is_ascii_digit b ≡ true
digit_byte b range = grind (arith, nat_tests)

digits_are_bytes : (ds : List ℕ) → AllDigits 10 ds → list_all is_number_byte ds ≡ true
digits_are_bytes [] h = refl
digits_are_bytes (d ∷ ds) h =
    let range = digit_from_value d h.0 in
    rw (number_byte d (omega (arith, range)), digits_are_bytes ds h.1) refl

pub digits_are_digits : (ds : List ℕ) → AllDigits 10 ds → list_all is_ascii_digit ds ≡ true
digits_are_digits [] h = refl
digits_are_digits (d ∷ ds) h = rw (digit_byte d (digit_from_value d h.0), digits_are_digits ds h.1) refl

-- a digit is no -
pub digit_no_minus : (b : ℕ) → is_ascii_digit b ≡ true → eqb b 45 ≡ false
digit_no_minus b e = grind (arith, nat_tests)

pub natural_bytes : (n : ℕ) → n < 2 ^ 64 → (0 < length (decimal n)) × (list_all is_number_byte (decimal n) ≡ true)
natural_bytes n lt = let numeral = decimal_is_IsNumeral n lt in (numeral.0.0, digits_are_bytes (decimal n) numeral.0.1)

solid_byte : (b : ℕ) → is_number_byte b ≡ true → is_solid b ≡ true
solid_byte b e = grind (arith, nat_tests)

printed_byte : (b : ℕ) → is_number_byte b ≡ true → is_printed b ≡ true
printed_byte b e = grind (arith, nat_tests)

-- they aren't blanks
pub solid_bytes : (word : List ℕ) → list_all is_number_byte word ≡ true → list_all is_solid word ≡ true
solid_bytes word bytes = list_all-weaker is_number_byte is_solid solid_byte word bytes

-- they stand in a line
pub printed_bytes : (word : List ℕ) → list_all is_number_byte word ≡ true → list_all is_printed word ≡ true
printed_bytes word bytes = list_all-weaker is_number_byte is_printed printed_byte word bytes

not_blank : (b : ℕ) → is_number_byte b ≡ true → is_blank b ≡ false
not_blank b e = grind (arith, nat_tests)

-- a line that begins with a printed number isn't blank
pub is_blank_line-number : (word rest : List ℕ) → 0 < length word → list_all is_number_byte word ≡ true → is_blank_line (word ++ rest) ≡ false
is_blank_line-number [] rest some bytes = absurd (omega arith)
is_blank_line-number (b ∷ bs) rest some bytes = rw (not_blank b (and_parts (is_number_byte b) (list_all is_number_byte bs) bytes).0) refl

-- nor does another byte stand first in it
pub begins_with-number : (other : ℕ) (word rest : List ℕ) → is_number_byte other ≡ false → 0 < length word → list_all is_number_byte word ≡ true → begins_with other (word ++ rest) ≡ false
begins_with-number other [] rest apart some bytes = absurd (omega arith)
begins_with-number other (b ∷ bs) rest apart some bytes =
    let byte = (and_parts (is_number_byte b) (list_all is_number_byte bs) bytes).0 in
    rw (not_blank b byte) (passes-apart is_number_byte b other byte apart)
