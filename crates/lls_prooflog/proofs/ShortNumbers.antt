-- Digits, read one after another, and the word that they are.
use Rattle.std.proofs.Common.{◌≡◌, ℕ, zero, suc, w64, ◌+◌, ◌-◌, ◌*◌, ◌^◌, ◌<◌, ◌≤◌, Bool, true, false, not, eqb, List, [], ◌∷◌, length, get_or, take, drop, Some, refl, sym, ap, ◌∙◌, leb, arith}
use Rattle.std.specs.Prelude.{pos, ◌-ℤ◌}
use Rattle.std.specs.List.{list_all, position_or_len}
use Rattle.std.specs.Char.{is_ascii_digit, digit_value}
use Rattle.std.specs.Int.{IsInRange}
use Rattle.std.proofs.Math.Nat.{pow-le-pow_right, pow-suc}
use Rattle.std.proofs.lemmas.Bool.{and_parts, le-leb}
use Rattle.std.proofs.lemmas.Bool.Decides.{nat_tests}
use Rattle.std.proofs.lemmas.List.{take-append-drop, length-take-le}
use Rattle.std.proofs.lemmas.List.Folds.{list_all_more}
use Rattle.std.proofs.lemmas.Int.{ints}
use mir.Val.{to_z, of_z}
use Rattle.std.proofs.lemmas.Str.{digit_value_digit}
use Rattle.std.proofs.lemmas.Int.Digits.{digits_value_more}
use Rattle.lls_text.specs.Digits.{is_digits}
use Rattle.lls_text.specs.Words.{is_blank, is_solid, begins_solid}
use Rattle.lls_text.proofs.Printed.{list_all-weaker, solids-front}
use Rattle.lls_lit.specs.Literal.{negation}
use Rattle.lls_prooflog.specs.declared.step.TheConstants.Step.{MOST_ID}
use Rattle.lls_prooflog.specs.Number.{number_in, signed_digits}
use Rattle.lls_prooflog.specs.Fronts.{first_word, behind_word, AreDigits, IsSize}
use Rattle.lls_prooflog.specs.Numeral.{word_value}
use Rattle.lls_prooflog.proofs.PrintedNumbers.{number_in-digits}

pub digit_range : (b : ℕ) → is_ascii_digit b ≡ true → IsInRange 48 57 b
digit_range b e = grind (arith, nat_tests)

-- behind fewer than 18 digits one more stays in 64 bits
pub digit_fits : (count size b : ℕ) → count < 18 → size < 10 ^ count → is_ascii_digit b ≡ true → size * 10 + (b - 48) < 2 ^ 64
digit_fits count size b few small is =
    let least : count ≤ 17 = omega arith in
    let most : 10 ^ count ≤ 10 ^ 17 = pow-le-pow_right (omega arith) least in
    omega (arith, most, small, digit_range b is)

pub digit_more : (text : List ℕ) (count size : ℕ) → count < length text → AreDigits text count size → is_ascii_digit (get_or text count 0) ≡ true → AreDigits text (count + 1) (size * 10 + (get_or text count 0 - 48))
digit_more text count size lt h is =
    let b = get_or text count 0 in
    let digit : digit_value b + 48 ≡ b = digit_value_digit b (digit_range b is) in
    let same : b - 48 ≡ digit_value b = omega (arith, digit) in
    record {
      within = omega arith;
      digits = list_all_more is_ascii_digit text count 0 lt ∙ rw (h.digits, is) refl;
      value = rw (h.value, same, digits_value_more 10 text count lt) refl;
    }

pub digit_small : (count size b : ℕ) → size < 10 ^ count → is_ascii_digit b ≡ true → size * 10 + (b - 48) < 10 ^ (count + 1)
digit_small count size b small is =
    let next : count + 1 ≡ suc count = omega arith in
    let power : 10 ^ (count + 1) ≡ 10 ^ count * 10 = ap (λ k. 10 ^ k) next ∙ pow-suc 10 count in
    omega (arith, power, digit_range b is, small)

digit_solid : (b : ℕ) → is_ascii_digit b ≡ true → is_solid b ≡ true
digit_solid b e = grind (arith, nat_tests)

-- digits before a blank or the end are a whole word
pub solids-digits : (text : List ℕ) (count : ℕ) → count ≤ length text → list_all is_ascii_digit (take count text) ≡ true → begins_solid (drop count text) ≡ false → position_or_len is_blank text ≡ count
solids-digits text count le digits ends =
    ap (position_or_len is_blank) (sym (take-append-drop count text))
    ∙ solids-front (take count text) (drop count text) (list_all-weaker is_ascii_digit is_solid digit_solid (take count text) digits) ends
    ∙ length-take-le count text le

pub no_zero : (n : ℕ) → 0 < n → eqb n 0 ≡ false
no_zero n lt = grind (arith, nat_tests)

pub size-word : (text : List ℕ) (count size : ℕ) → 0 < count → AreDigits text count size → begins_solid (drop count text) ≡ false → IsSize (first_word text) size
size-word text count size some h ends =
    let whole = solids-digits text count h.within h.digits ends in
    let many : eqb (length (take count text)) 0 ≡ false = ap (λ n. eqb n 0) (length-take-le count text h.within) ∙ no_zero count some in
    record { digits = rw (whole, many, h.digits) refl; value = rw whole h.value }

pub most_small : (count size : ℕ) → count ≤ 18 → size < 10 ^ count → size < 10 ^ 18
most_small count size le small = let most : 10 ^ count ≤ 10 ^ 18 = pow-le-pow_right (omega arith) le in omega (arith, most, small)

-- the word behind a -
solids-minus : (bs : List ℕ) → position_or_len is_blank (45 ∷ bs) ≡ suc (position_or_len is_blank bs)
solids-minus bs = omega arith

first_word-minus : (text : List ℕ) → 0 < length text → get_or text 0 0 ≡ 45 → first_word text ≡ 45 ∷ first_word (drop 1 text)
first_word-minus [] some is = absurd (omega arith)
first_word-minus (b ∷ bs) some is = rw (is, solids-minus bs) refl

pub number_in-minus : (text : List ℕ) → 0 < length text → get_or text 0 0 ≡ 45 → number_in (first_word text) ≡ signed_digits true (first_word (drop 1 text))
number_in-minus text some is = ap number_in (first_word-minus text some is)

pub behind_word-minus : (text : List ℕ) → 0 < length text → get_or text 0 0 ≡ 45 → behind_word text ≡ behind_word (drop 1 text)
behind_word-minus [] some is = absurd (omega arith)
behind_word-minus (b ∷ bs) some is = rw (is, solids-minus bs) refl

-- the value of digits
signed_digits-size : (negative : Bool) (word : List ℕ) (size : ℕ) → IsSize word size → signed_digits negative word ≡ Some (record { is_negative = negative; size = size })
signed_digits-size negative word size h = rw (h.digits, h.value) refl

short : (size : ℕ) → size < 10 ^ 18 → leb size MOST_ID ≡ true
short size small = le-leb size MOST_ID (omega (arith, small))

first_digit : (word : List ℕ) → is_digits word ≡ true → (list_all is_ascii_digit word ≡ true) × (0 < length word)
first_digit word e =
    let parts = and_parts (not (eqb (length word) 0)) (list_all is_ascii_digit word) e in
    (parts.1, grind (arith, nat_tests, parts.0))

pub plain_value : (word : List ℕ) (size : ℕ) → IsSize word size → size < 10 ^ 18 → word_value word ≡ Some (pos size)
plain_value word size h small =
    let parts = first_digit word h.digits in
    rw (number_in-digits word parts.0 parts.1, signed_digits-size false word size h, short size small) refl

pub minus_value : (text : List ℕ) (size : ℕ) → 0 < length text → get_or text 0 0 ≡ 45 → IsSize (first_word (drop 1 text)) size → 0 < size → size < 10 ^ 18 → word_value (first_word text) ≡ Some (negation (pos size))
minus_value text size some is h more small =
    rw (number_in-minus text some is, signed_digits-size true (first_word (drop 1 text)) size h, short size small, no_zero size more) refl

-- the same of 64 bits
pub minus_bits : (size : ℕ) → 0 < size → size < 10 ^ 18 → to_z w64 (of_z w64 (pos 0 -ℤ to_z w64 size)) ≡ negation (pos size)
minus_bits zero more small = absurd (omega arith)
minus_bits (suc n) more small = omega (arith, ints)
