-- Printed numbers are words, and are read again.
use Rattle.std.proofs.Common.{◌≡◌, ℕ, w64, suc, ◌+◌, ◌^◌, ◌<◌, ◌≤◌, Bool, true, false, not, ◌&&◌, eqb, leb, leb-true, List, [], ◌∷◌, length, get_or, Some, refl, ◌∙◌, arith}
use Rattle.std.specs.Prelude.{ℤ, pos, negsuc, Ok, codes}
use Rattle.std.specs.List.{list_all}
use Rattle.std.specs.Char.{is_ascii_digit}
use Rattle.std.specs.Str.{bytes_eq}
use Rattle.std.specs.Fmt.{decimal, signed_decimal}
use Rattle.std.proofs.lemmas.Bool.{and_parts}
use Rattle.std.proofs.lemmas.Bool.Decides.{nat_tests}
use Rattle.std.proofs.lemmas.Fmt.{decimal_is_IsNumeral, first_decimal}
use Rattle.std.proofs.lemmas.Int.{to_z-of_z, to_z_pos, ints}
use mir.Val.{to_z, of_z}
use lib.Signed.{mag}
use Rattle.lls_text.proofs.Printed.{passes-apart}
use Rattle.lls_text.proofs.NumberBytes.{is_number_byte, digits_are_digits, digit_no_minus, natural_bytes}
use Rattle.lls_lit.specs.Literal.{variable_of}
use Rattle.lls_lit.specs.declared.var.TheConstants.Var.{MOST}
use Rattle.lls_prooflog.specs.declared.step.TheConstants.Step.{MOST_ID}
use Rattle.lls_prooflog.specs.Number.{is_zeros, number_in, signed_digits, id_in, leading_in, hint_in, literal_in, item}
use Rattle.lls_prooflog.specs.Range.{is_id, is_hint}

some_length : (n : ℕ) → 0 < n → eqb n 0 ≡ false
some_length n lt = grind (arith, nat_tests)

signed_digits-decimal : (negative : Bool) (n : ℕ) → n < 2 ^ 64 → signed_digits negative (decimal n) ≡ Some (record { is_negative = negative; size = n })
signed_digits-decimal negative n lt =
    let numeral = decimal_is_IsNumeral n lt in
    let some : eqb (length (decimal n)) 0 ≡ false = some_length (length (decimal n)) numeral.0.0 in
    rw (some, digits_are_digits (decimal n) numeral.0.1, numeral.1) refl

-- digits have no - before them
pub number_in-digits : (word : List ℕ) → list_all is_ascii_digit word ≡ true → 0 < length word → number_in word ≡ signed_digits false word
number_in-digits [] digits some = absurd (omega arith)
number_in-digits (b ∷ bs) digits some =
    rw (digit_no_minus b (and_parts (is_ascii_digit b) (list_all is_ascii_digit bs) digits).0) refl

pub number_in-decimal : (n : ℕ) → n < 2 ^ 64 → number_in (decimal n) ≡ Some (record { is_negative = false; size = n })
number_in-decimal n lt =
    let numeral = decimal_is_IsNumeral n lt in
    number_in-digits (decimal n) (digits_are_digits (decimal n) numeral.0.1) numeral.0.0 ∙ signed_digits-decimal false n lt

-- the bytes of a printed number with a sign
pub signed_bytes : (z : ℤ) → variable_of z < 2 ^ 64 → (0 < length (signed_decimal z)) × (list_all is_number_byte (signed_decimal z) ≡ true)
signed_bytes (pos n) lt = natural_bytes n lt
signed_bytes (negsuc n) lt = (omega arith, (natural_bytes (suc n) (omega arith)).1)

-- a word that begins with another byte than 0 is no end
no_zeros : (word : List ℕ) → eqb (get_or word 0 0) 48 ≡ false → is_zeros word ≡ false
no_zeros [] e = refl
no_zeros (b ∷ bs) e = rw e (no_first (eqb (length (b ∷ bs)) 0)) where
  no_first : (c : Bool) → (not c && false) ≡ false
  no_first true = refl
  no_first false = refl

above_zero : (b : ℕ) → 48 < b → eqb b 48 ≡ false
above_zero b lt = grind (arith, nat_tests)

pub is_zeros-decimal : (n : ℕ) → 0 < n → n < 2 ^ 64 → is_zeros (decimal n) ≡ false
is_zeros-decimal n some lt = no_zeros (decimal n) (above_zero (get_or (decimal n) 0 0) (first_decimal n some lt))

pub is_zeros-signed : (z : ℤ) → 0 < variable_of z → variable_of z < 2 ^ 64 → is_zeros (signed_decimal z) ≡ false
is_zeros-signed (pos n) some lt = is_zeros-decimal n some lt
is_zeros-signed (negsuc n) some lt = no_zeros (45 ∷ decimal (suc n)) refl

-- what ranges let through
pub id_bounds : (n : ℕ) → is_id n ≡ true → (0 < n) × (n < 2 ^ 64)
id_bounds n e =
    let parts = and_parts (leb 1 n) (leb n MOST_ID) e in
    (omega (arith, leb-true 1 n parts.0), omega (arith, leb-true n MOST_ID parts.1))

pub id_word : (column n : ℕ) → is_id n ≡ true → item id_in (record { column = column; text = decimal n }) ≡ Ok n
id_word column n e = rw (number_in-decimal n (id_bounds n e).1, e) refl

pub leading_word : (column n : ℕ) → n ≤ MOST_ID → item leading_in (record { column = column; text = decimal n }) ≡ Ok n
leading_word column n fits =
    let most : leb n MOST_ID ≡ true = grind (arith, nat_tests) in
    rw (number_in-decimal n (omega (arith, fits)), most) refl

pub hint_word : (column : ℕ) (z : ℤ) → is_hint z ≡ true → item hint_in (record { column = column; text = signed_decimal z }) ≡ Ok z
hint_word column (pos n) e = rw (number_in-decimal n (id_bounds n e).1, e) refl
hint_word column (negsuc n) e =
    let lt : suc n < 2 ^ 64 = omega (arith, (id_bounds (n + 1) e).1) in
    let one : suc n ≡ n + 1 = omega arith in
    rw (signed_digits-decimal true (suc n) lt, one, e) refl

abbrev pub is_lit : ℤ → Bool
is_lit z = leb 1 (variable_of z) && leb (variable_of z) MOST

pub lit_bounds : (z : ℤ) → is_lit z ≡ true → (0 < variable_of z) × (variable_of z < 2 ^ 64)
lit_bounds z e =
    let parts = and_parts (leb 1 (variable_of z)) (leb (variable_of z) MOST) e in
    (omega (arith, leb-true 1 (variable_of z) parts.0), omega (arith, leb-true (variable_of z) MOST parts.1))

pub hint_bounds : (z : ℤ) → is_hint z ≡ true → (0 < variable_of z) × (variable_of z < 2 ^ 64)
hint_bounds z e = id_bounds (variable_of z) e

pub lit_word : (column : ℕ) (z : ℤ) → is_lit z ≡ true → item literal_in (record { column = column; text = signed_decimal z }) ≡ Ok z
lit_word column (pos n) e = rw (number_in-decimal n (lit_bounds (pos n) e).1, e) refl
lit_word column (negsuc n) e =
    let lt : suc n < 2 ^ 64 = omega (arith, (lit_bounds (negsuc n) e).1) in
    let one : suc n ≡ n + 1 = omega arith in
    rw (signed_digits-decimal true (suc n) lt, one, e) refl

pub no_d : (word : List ℕ) → list_all is_number_byte word ≡ true → bytes_eq word (codes "d") ≡ false
no_d [] bytes = refl
no_d (b ∷ bs) bytes = rw (passes-apart is_number_byte b 100 (and_parts (is_number_byte b) (list_all is_number_byte bs) bytes).0 refl) refl

-- a number of 64 bits with a sign is the one that its bits write
pub same_number : (r : ℤ) → mag r < 2 ^ 63 → to_z w64 (of_z w64 r) ≡ r
same_number (pos n) fits = to_z_pos w64 n (omega (arith, fits))
same_number (negsuc n) fits = to_z-of_z w64 (negsuc n) (omega (arith, ints, fits))
