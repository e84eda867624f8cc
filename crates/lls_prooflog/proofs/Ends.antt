-- The word that ends a list is told by its number; and numbers that are kept in 64 bits have the ranges of what was written.
use Rattle.std.proofs.Common.{◌≡◌, ℕ, ◌+◌, ◌-◌, ◌*◌, ◌^◌, ◌<◌, ◌≤◌, Bool, true, false, not, cond, ◌&&◌, eqb, eqb-true, leb, zero, suc, min, List, [], ◌∷◌, length, map, Option, Some, None, refl, sym, ap, ◌∙◌, arith, lit<}
use Rattle.std.specs.Prelude.{ℤ, pos, Result, Ok, Err}
use Rattle.std.specs.List.{list_all, list_any}
use Rattle.std.specs.Char.{is_ascii_digit, digit_value}
use Rattle.std.specs.Str.Parse.{digits_value, digits_value_after}
use Rattle.std.proofs.Math.Nat.{min-eq_left}
use Rattle.std.proofs.lemmas.Bool.{and_parts, lt-leb, leb-false}
use Rattle.std.proofs.lemmas.Bool.Decides.{nat_tests}
use Rattle.std.proofs.lemmas.Str.{digit_value_digit}
use Rattle.lls_base.specs.Results.{and_then}
use Rattle.lls_text.specs.Digits.{is_digits}
use Rattle.lls_text.specs.Words.{PlacedWord}
use Rattle.lls_text.proofs.Printed.{list_all-weaker}
use Rattle.lls_lit.specs.Literal.{variable_of, negation}
use Rattle.lls_lit.specs.declared.var.TheConstants.Var.{MOST}
use Rattle.lls_prooflog.specs.declared.step.TheConstants.Step.{MOST_ID}
use Rattle.lls_prooflog.specs.declared.line_fault.LineFault.{LineFault}
use Rattle.lls_prooflog.specs.declared.line_fault.LineFault.TheVariants.{NoZero}
use Rattle.lls_prooflog.specs.declared.number.Number.{Number}
use Rattle.lls_prooflog.specs.declared.numeral.Numeral.{Numeral}
use Rattle.lls_prooflog.specs.Number.{is_zeros, signed_digits, number_in, value_of, capped, id_in, leading_in, literal_in, hint_in, in_range, ranged, item}
use Rattle.lls_prooflog.specs.Line.{is_end, before_end, all_of, if_ended, listed}
use Rattle.lls_prooflog.specs.Numeral.{value_in, is_end_value, literal_of, hint_of, id_of, leading_of, item_by, first_numeral, next_item}
use Rattle.lls_prooflog.proofs.ShortNumbers.{digit_range, no_zero}
use Rattle.lls_prooflog.proofs.InRange.{variable_of-value}

abbrev is_zero : ℕ → Bool
is_zero b = eqb b 48

zero_digit : (b : ℕ) → is_zero b ≡ true → is_ascii_digit b ≡ true
zero_digit b e = grind (arith, nat_tests)

first_zero : (n v d : ℕ) → v + 48 ≡ d → eqb (n * 10 + v) 0 ≡ (eqb n 0 && eqb d 48)
first_zero n v d e = grind (arith, nat_tests)

and_assoc : (a b c : Bool) → ((a && b) && c) ≡ (a && (b && c))
and_assoc true b c = refl
and_assoc false b c = refl

and_true : (a : Bool) → (a && true) ≡ a
and_true true = refl
and_true false = refl

-- digits behind a number write 0 where the number is 0 and they are zeros
after_zero : (n : ℕ) (digits : List ℕ) → list_all is_ascii_digit digits ≡ true → eqb (digits_value_after 10 n digits) 0 ≡ (eqb n 0 && list_all is_zero digits)
after_zero n [] all = sym (and_true (eqb n 0))
after_zero n (d ∷ ds) all =
    let parts = and_parts (is_ascii_digit d) (list_all is_ascii_digit ds) all in
    after_zero (n * 10 + digit_value d) ds parts.1
    ∙ ap (λ b. b && list_all is_zero ds) (first_zero n (digit_value d) d (digit_value_digit d (digit_range d parts.0)))
    ∙ and_assoc (eqb n 0) (eqb d 48) (list_all is_zero ds)

zeros-digits : (text : List ℕ) → is_digits text ≡ true → is_zeros text ≡ eqb (digits_value 10 text) 0
zeros-digits text e =
    let parts = and_parts (not (eqb (length text) 0)) (list_all is_ascii_digit text) e in
    rw parts.0 (sym (after_zero 0 text parts.1))

zeros-none : (text : List ℕ) → is_digits text ≡ false → is_zeros text ≡ false
zeros-none text e =
    elim (list_all is_zero text) as (λ b. list_all is_zero text ≡ b → (not (eqb (length text) 0) && b) ≡ false) [
      | true ↦ λ all. sym (ap (λ b. not (eqb (length text) 0) && b) (list_all-weaker is_zero is_ascii_digit zero_digit text all)) ∙ e
      | false ↦ λ _. no_right (not (eqb (length text) 0))
    ] refl
  where
    no_right : (a : Bool) → (a && false) ≡ false
    no_right true = refl
    no_right false = refl

-- whether the number of a word ends a list
abbrev is_end_number : Number → Bool
is_end_number number = not number.is_negative && eqb number.size 0

abbrev ends : Option Number → Bool
ends None = false
ends (Some number) = is_end_number number

ends-signed : (bs : List ℕ) → ends (signed_digits true bs) ≡ false
ends-signed bs = elim (is_digits bs) as (λ b. ends (cond b (Some (record { is_negative = true; size = digits_value 10 bs })) None) ≡ false) [ true ↦ refl | false ↦ refl ]

ends-digits : (text : List ℕ) → ends (signed_digits false text) ≡ is_zeros text
ends-digits text = elim (is_digits text) as (λ b. is_digits text ≡ b → ends (cond b (Some (record { is_negative = false; size = digits_value 10 text })) None) ≡ is_zeros text) [
  | true ↦ λ e. sym (zeros-digits text e)
  | false ↦ λ e. sym (zeros-none text e)
] refl

minus_first : (bs : List ℕ) → is_zeros (45 ∷ bs) ≡ false
minus_first bs = elim (eqb (length (45 ∷ bs)) 0) as (λ b. (not b && false) ≡ false) [ true ↦ refl | false ↦ refl ]

same_byte : (b : ℕ) → eqb b 45 ≡ true → b ≡ 45
same_byte b e = grind (arith, nat_tests)

is_zeros-ends : (text : List ℕ) → is_zeros text ≡ ends (number_in text)
is_zeros-ends [] = refl
is_zeros-ends (b ∷ bs) = elim (eqb b 45) as (λ v. eqb b 45 ≡ v → is_zeros (b ∷ bs) ≡ ends (cond v (signed_digits true bs) (signed_digits false (b ∷ bs)))) [
  | true ↦ λ e. ap (λ d. is_zeros (d ∷ bs)) (same_byte b e) ∙ minus_first bs ∙ sym (ends-signed bs)
  | false ↦ λ _. sym (ends-digits (b ∷ bs))
] refl

-- numbers kept in 64 bits
abbrev most : ℕ
most = 2 ^ 64 - 1

capped_small : (number : Number) → number.size ≤ most → capped number ≡ number
capped_small number le = ap (λ (n : ℕ). record number { size = n }) (min-eq_left le)

capped_size : (n : ℕ) → most < n → min n most ≡ most
capped_size n lt = omega arith

above : (n m : ℕ) → m < most → most ≤ n → leb n m ≡ false
above n m lt le = lt-leb n m (omega arith)

value_none : (number : Number) → leb number.size MOST_ID ≡ false → value_in number ≡ None
value_none number e = rw e refl

-- have the values of what was written
pub value_capped : (number : Number) → value_in (capped number) ≡ value_in number
value_capped number = elim (leb number.size most) as (λ b. leb number.size most ≡ b → value_in (capped number) ≡ value_in number) [
  | true ↦ λ e. ap value_in (capped_small number (grind (arith, nat_tests)))
  | false ↦ λ e.
      let lt = leb-false number.size most e in
      value_none (capped number) (above (min number.size most) MOST_ID (lit< tt) (omega (arith, capped_size number.size lt)))
      ∙ sym (value_none number (above number.size MOST_ID (lit< tt) (omega (arith, lt))))
] refl

both_false : (a : Bool) → (a && false) ≡ false
both_false true = refl
both_false false = refl

-- a range, by the value
abbrev pub by_value : {X : Type 0} → (ℤ → Option X) → Option ℤ → Option X
by_value of None = None
by_value of (Some value) = of value

abbrev pub IsByValue : {X : Type 0} → (Number → Option X) → (ℤ → Option X) → Type 0
IsByValue within of = (number : Number) → within number ≡ by_value of (value_in number)

-- a range of numbers with a sign
signed_by_value : (test other : ℕ → Bool) → ((n : ℕ) → leb n MOST_ID ≡ true → test n ≡ other n) → ((n : ℕ) → leb n MOST_ID ≡ false → test n ≡ false) → test 0 ≡ false
    → IsByValue (λ number. cond (test number.size) (Some (value_of number)) None) (λ value. cond (other (variable_of value)) (Some value) None)
signed_by_value test other same beyond none number =
    let value = value_of number in
    elim (leb number.size MOST_ID) as (λ b. leb number.size MOST_ID ≡ b → cond (test number.size) (Some value) None ≡ by_value (λ v. cond (other (variable_of v)) (Some v) None) (cond (b && not (number.is_negative && eqb number.size 0)) (Some value) None)) [
      | false ↦ λ e. rw (beyond number.size e) refl
      | true ↦ λ e. elim (number.is_negative && eqb number.size 0) as (λ b. (number.is_negative && eqb number.size 0) ≡ b → cond (test number.size) (Some value) None ≡ by_value (λ v. cond (other (variable_of v)) (Some v) None) (cond (true && not b) (Some value) None)) [
        | true ↦ λ h. rw (eqb-true number.size 0 (and_parts number.is_negative (eqb number.size 0) h).1, none) refl
        | false ↦ λ _. rw (variable_of-value number, same number.size e) refl
      ] refl
    ] refl

pub literal_by_value : IsByValue literal_in literal_of
literal_by_value = signed_by_value (λ n. leb 1 n && leb n MOST) (λ n. leb 1 n && leb n MOST) (λ n _. refl) beyond refl where
  beyond : (n : ℕ) → leb n MOST_ID ≡ false → (leb 1 n && leb n MOST) ≡ false
  beyond n e = rw (lt-leb n MOST (omega (arith, leb-false n MOST_ID e))) (both_false (leb 1 n))

pub hint_by_value : IsByValue hint_in hint_of
hint_by_value = signed_by_value (λ n. leb 1 n && leb n MOST_ID) (λ n. leb 1 n) within beyond refl where
  within : (n : ℕ) → leb n MOST_ID ≡ true → (leb 1 n && leb n MOST_ID) ≡ leb 1 n
  within n e = rw e (and_true (leb 1 n))

  beyond : (n : ℕ) → leb n MOST_ID ≡ false → (leb 1 n && leb n MOST_ID) ≡ false
  beyond n e = rw e (both_false (leb 1 n))

-- what is said of a number with a -, where it isn't -0
id_of-minus : (n : ℕ) → eqb n 0 ≡ false → id_of (negation (pos n)) ≡ None
id_of-minus zero e = absurd cc
id_of-minus (suc n) e = refl

leading_of-minus : (n : ℕ) → eqb n 0 ≡ false → leading_of (negation (pos n)) ≡ None
leading_of-minus zero e = absurd cc
leading_of-minus (suc n) e = refl

is_end-minus : (n : ℕ) → eqb n 0 ≡ false → is_end_value (negation (pos n)) ≡ false
is_end-minus zero e = absurd cc
is_end-minus (suc n) e = refl

-- by the size and the sign
by_size : (size : ℕ) (P : Bool → Type 0) → (leb size MOST_ID ≡ true → P true) → (leb size MOST_ID ≡ false → P false) → P (leb size MOST_ID)
by_size size P below beyond = elim (leb size MOST_ID) as (λ b. leb size MOST_ID ≡ b → P b) [ true ↦ below | false ↦ beyond ] refl

by_zero : (size : ℕ) (P : Bool → Type 0) → P true → (eqb size 0 ≡ false → P false) → P (eqb size 0)
by_zero size P at_zero above_zero = elim (eqb size 0) as (λ b. eqb size 0 ≡ b → P b) [ true ↦ λ _. at_zero | false ↦ above_zero ] refl

pub id_by_value : IsByValue id_in id_of
id_by_value number =
    let size = number.size in
    by_size size (λ b. cond (not number.is_negative && (leb 1 size && b)) (Some size) None ≡ by_value id_of (cond (b && not (number.is_negative && eqb size 0)) (Some (value_of number)) None)) (λ e.
    elim number.is_negative as (λ s. cond (not s && (leb 1 size && true)) (Some size) None ≡ by_value id_of (cond (true && not (s && eqb size 0)) (Some (cond s (negation (pos size)) (pos size))) None)) [
      | false ↦ rw (and_true (leb 1 size)) refl
      | true ↦ by_zero size (λ z. None ≡ by_value id_of (cond (true && not (true && z)) (Some (negation (pos size))) None)) refl (λ h. sym (id_of-minus size h))
    ])
    (λ e. rw (both_false (leb 1 size), both_false (not number.is_negative)) refl)

pub leading_by_value : IsByValue leading_in leading_of
leading_by_value number =
    let size = number.size in
    by_size size (λ b. cond (not number.is_negative && b) (Some size) None ≡ by_value leading_of (cond (b && not (number.is_negative && eqb size 0)) (Some (value_of number)) None)) (λ e.
    elim number.is_negative as (λ s. cond (not s && true) (Some size) None ≡ by_value leading_of (cond (true && not (s && eqb size 0)) (Some (cond s (negation (pos size)) (pos size))) None)) [
      | false ↦ refl
      | true ↦ by_zero size (λ z. None ≡ by_value leading_of (cond (true && not (true && z)) (Some (negation (pos size))) None)) refl (λ h. sym (leading_of-minus size h))
    ])
    (λ e. rw (both_false (not number.is_negative)) refl)

-- and the end of a list
abbrev ends_value : Option ℤ → Bool
ends_value None = false
ends_value (Some value) = is_end_value value

end_by_value : (number : Number) → is_end_number number ≡ ends_value (value_in number)
end_by_value number =
    let size = number.size in
    by_size size (λ b. (not number.is_negative && eqb size 0) ≡ ends_value (cond (b && not (number.is_negative && eqb size 0)) (Some (value_of number)) None)) (λ e.
    elim number.is_negative as (λ s. (not s && eqb size 0) ≡ ends_value (cond (true && not (s && eqb size 0)) (Some (cond s (negation (pos size)) (pos size))) None)) [
      | false ↦ refl
      | true ↦ by_zero size (λ z. false ≡ ends_value (cond (true && not (true && z)) (Some (negation (pos size))) None)) refl (λ h. sym (is_end-minus size h))
    ])
    (λ e. rw (no_zero size (omega (arith, leb-false size MOST_ID e))) (both_false (not number.is_negative)))

-- a word's item has the range that its value has
item_in_range : {X : Type 0} (within : Number → Option X) (of : ℤ → Option X) → IsByValue within of → (word : PlacedWord) → item within word ≡ item_by of word
item_in_range within of same word = elim (number_in word.text) as (λ o. ranged within word.column o ≡ and_then (ranged value_in word.column o) (λ value. in_range word.column (of value))) [
  | None ↦ refl
  | Some number ↦ rw (same number) (elim (value_in number) as (λ v. in_range word.column (by_value of v) ≡ and_then (in_range word.column v) (λ value. in_range word.column (of value))) [ None ↦ refl | Some value ↦ refl ])
]

all_by_value : {X : Type 0} (within : Number → Option X) (of : ℤ → Option X) → IsByValue within of → (words : List PlacedWord) → all_of (map (item within) (before_end words)) ≡ all_of (map (item_by of) (before_end words))
all_by_value within of same [] = refl
all_by_value within of same (word ∷ words) = elim (is_end word) as (λ b. all_of (map (item within) (cond b [] (word ∷ before_end words))) ≡ all_of (map (item_by of) (cond b [] (word ∷ before_end words)))) [
  | true ↦ refl
  | false ↦ rw (item_in_range within of same word, all_by_value within of same words) refl
]

-- and a list the items
pub listed_by_value : {X : Type 0} (within : Number → Option X) (of : ℤ → Option X) → IsByValue within of → (words : List PlacedWord) → listed (item within) words ≡ listed (item_by of) words
listed_by_value within of same words = ap (λ xs. and_then xs (if_ended (list_any is_end words))) (all_by_value within of same words)

-- what the number of the first word makes of the list
abbrev pub after_numeral : {X : Type 0} → (ℤ → Option X) → Option Numeral → Result (Option X) LineFault
after_numeral of None = Err NoZero
after_numeral of (Some numeral) = cond (is_end_value numeral.value) (Ok None) (and_then (in_range numeral.column (of numeral.value)) (λ x. Ok (Some x)))

pub next_numeral : {X : Type 0} (of : ℤ → Option X) (words : List PlacedWord) → next_item (item_by of) words ≡ and_then (first_numeral words) (after_numeral of)
next_numeral of [] = refl
next_numeral of (word ∷ words) = rw (is_zeros-ends word.text) (elim (number_in word.text) as (λ o. cond (ends o) (Ok None) (and_then (and_then (ranged value_in word.column o) (λ value. in_range word.column (of value))) (λ x. Ok (Some x))) ≡ and_then (and_then (ranged value_in word.column o) (λ value. Ok (Some (record { column = word.column; value = value })))) (after_numeral of)) [
  | None ↦ refl
  | Some number ↦ rw (end_by_value number) (elim (value_in number) as (λ v. cond (ends_value v) (Ok None) (and_then (and_then (in_range word.column v) (λ value. in_range word.column (of value))) (λ x. Ok (Some x))) ≡ and_then (and_then (in_range word.column v) (λ value. Ok (Some (record { column = word.column; value = value })))) (after_numeral of)) [ None ↦ refl | Some value ↦ refl ])
])
