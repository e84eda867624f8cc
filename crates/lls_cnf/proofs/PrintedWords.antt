-- Printed numbers are words, and are read again.
use Rattle.std.proofs.Common.{◌≡◌, ℕ, suc, ◌^◌, ◌<◌, ◌≤◌, true, false, leb, leb-true, List, [], ◌∷◌, length, Some, None, refl, ap, ◌∙◌, arith}
use Rattle.std.specs.Prelude.{ℤ, pos, negsuc}
use Rattle.std.specs.List.{list_all}
use Rattle.std.specs.Char.{is_ascii_digit}
use Rattle.std.specs.Fmt.{decimal, signed_decimal}
use Rattle.std.specs.Option.{option_map, option_and_then}
use Rattle.std.proofs.lemmas.Bool.{and_parts, le-leb}
use Rattle.std.proofs.lemmas.Fmt.{decimal_is_IsNumeral, length-decimal-le}
use Rattle.lls_text.proofs.Printed.{passes-apart}
use Rattle.lls_text.proofs.NumberBytes.{is_number_byte, digits_are_digits, digit_no_minus, natural_bytes}
use Rattle.lls_lit.specs.Literal.{variable_of}
use Rattle.lls_lit.specs.Formula.{is_literal_of}
use Rattle.lls_lit.specs.declared.var.TheConstants.Var.{MOST}
use Rattle.lls_cnf.specs.declared.number.TheConstants.{MOST_DIGITS}
use Rattle.lls_cnf.specs.Number.{natural_number, negative, whole_number}
use Rattle.lls_cnf.specs.Dimacs.{percent, begins_percent, word_fault}

-- a number of at most 18 digits is read again
pub natural_number-decimal : (n : ℕ) → n < 10 ^ MOST_DIGITS → natural_number (decimal n) ≡ Some n
natural_number-decimal n lt =
    let numeral = decimal_is_IsNumeral n (omega arith) in
    let long = length-decimal-le MOST_DIGITS n (omega arith) lt (omega arith) in
    rw (le-leb 1 (length (decimal n)) numeral.0.0, le-leb (length (decimal n)) MOST_DIGITS long, digits_are_digits (decimal n) numeral.0.1, numeral.1) refl

-- digits have no - before them
whole_number-digits : (word : List ℕ) → list_all is_ascii_digit word ≡ true → 0 < length word → whole_number word ≡ option_map (λ n. pos n) (natural_number word)
whole_number-digits [] digits some = absurd (omega arith)
whole_number-digits (b ∷ bs) digits some =
    rw (digit_no_minus b (and_parts (is_ascii_digit b) (list_all is_ascii_digit bs) digits).0) refl

small : (n : ℕ) → n ≤ MOST → n < 10 ^ MOST_DIGITS
small n le = omega arith

-- a printed literal is read again
pub whole_number-literal : (l : ℤ) → variable_of l ≤ MOST → whole_number (signed_decimal l) ≡ Some l
whole_number-literal (pos n) le =
    let numeral = decimal_is_IsNumeral n (omega arith) in
    whole_number-digits (decimal n) (digits_are_digits (decimal n) numeral.0.1) numeral.0.0
    ∙ ap (option_map (λ m. pos m)) (natural_number-decimal n (small n le))
whole_number-literal (negsuc n) le =
    ap (option_and_then negative) (natural_number-decimal (suc n) (small (suc n) (omega arith)))

-- it consists of bytes of numbers
pub literal_bytes : (l : ℤ) → variable_of l ≤ MOST → (0 < length (signed_decimal l)) × (list_all is_number_byte (signed_decimal l) ≡ true)
literal_bytes (pos n) le = natural_bytes n (omega arith)
literal_bytes (negsuc n) le = (omega arith, (natural_bytes (suc n) (omega arith)).1)

not_percent : (word : List ℕ) → list_all is_number_byte word ≡ true → begins_percent word ≡ false
not_percent [] bytes = refl
not_percent (b ∷ bs) bytes = passes-apart is_number_byte b percent (and_parts (is_number_byte b) (list_all is_number_byte bs) bytes).0 refl

-- a printed literal has no fault
pub word_fault-literal : (vars line : ℕ) (l : ℤ) → vars ≤ MOST → is_literal_of vars l ≡ true → word_fault vars (line, signed_decimal l) ≡ None
word_fault-literal vars line l fits within =
    let parts = and_parts (leb 1 (variable_of l)) (leb (variable_of l) vars) within in
    let le : variable_of l ≤ MOST = omega (arith, leb-true (variable_of l) vars parts.1, fits) in
    rw (not_percent (signed_decimal l) (literal_bytes l le).1, whole_number-literal l le, parts.1) refl

-- nor has a printed zero
pub word_fault-zero : (vars line : ℕ) → word_fault vars (line, 48 ∷ []) ≡ None
word_fault-zero vars line = rw (le-leb 0 vars (omega arith)) refl
