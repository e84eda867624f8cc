-- What is read of an item's text.
use Rattle.std.proofs.Common.{◌≡◌, ◌<◌, ◌≤◌, ◌+◌, ℕ, Bool, true, false, cond, eqb, List, [], ◌∷◌, ◌++◌, length, None, Some, refl, sym, ap, ◌∙◌, inl, inr, arith, append_assoc, length-append}
use Rattle.std.specs.Prelude.{Option, ◌==◌, ◌||◌, decimal, unwrap_or}
use Rattle.std.specs.List.{list_all}
use Rattle.std.specs.Char.{is_ascii_digit}
use Rattle.std.specs.Str.Parse.{digits_value}
use Rattle.std.proofs.lemmas.List.Folds.{list_all-append}
use Rattle.std.specs.Cmp.Derive.{both_true}
use Rattle.std.proofs.lemmas.Bool.{and_parts}
use Rattle.std.proofs.lemmas.Bool.Decides.{nat_tests, eqb_tells}
use Rattle.std.proofs.lemmas.Fmt.{decimal_is_IsNumeral, length-decimal-le}
use Rattle.lls_text.specs.Digits.{is_digits}
use Rattle.lls_text.proofs.NumberBytes.{digits_are_digits}
use Rattle.lls_rle.specs.declared.item.Tag.{Tag}
use Rattle.lls_rle.specs.declared.item.Tag.TheVariants.{Dead, Live, RowEnd}
use Rattle.lls_rle.specs.declared.item.Item.{Item}
use Rattle.lls_rle.specs.declared.parts.Part.TheVariants as part
use Rattle.lls_rle.specs.Tokens.{PlacedToken, begins_digit, tokens_from}
use Rattle.lls_rle.specs.Parts.{part_of}
use Rattle.lls_rle.specs.Items.{before_items, with_part, items_behind}
use Rattle.lls_rle.specs.Printing.{tag_text, item_text}
use Rattle.lls_rle.proofs.FirstTokens.{tokens_from-digits}
use Rattle.lls_rle.proofs.Counts.{IsCount, counted}

-- the digits of a count
pub record AreDigits (n : ℕ) (ds : List ℕ) : Type 0 where
  pub some : 0 < length ds
  pub all : list_all is_ascii_digit ds ≡ true
  pub few : length ds ≤ 6
  pub value : digits_value 10 ds ≡ n

pub AreDigits-decimal : (n : ℕ) → n ≤ 999999 → AreDigits n (decimal n)
AreDigits-decimal n most =
    let numeral = decimal_is_IsNumeral n (omega (arith, most)) in
    record {
      some = numeral.0.0;
      all = digits_are_digits (decimal n) numeral.0.1;
      few = length-decimal-le 6 n (omega arith) (omega (arith, most)) (omega (arith, most));
      value = numeral.1;
    }

digits_are : (ds : List ℕ) → 0 < length ds → list_all is_ascii_digit ds ≡ true → is_digits ds ≡ true
digits_are ds some all = rw (not_zero (length ds) some, all) refl where
  not_zero : (k : ℕ) → 0 < k → eqb k 0 ≡ false
  not_zero k some = grind (arith, nat_tests)

part_of-count : (n : ℕ) (ds : List ℕ) → 1 ≤ n → AreDigits n ds → part_of ds ≡ part.Count n
part_of-count n ds least h = rw (digits_are ds h.some h.all) (sym (counted ds n (sym h.value) h.few (λ zero. omega (arith, zero, least))))

-- a tag alone
tag-read : (line column : ℕ) (tag : Tag) (count : Option ℕ) (n : ℕ) (more : List ℕ) (rest : List PlacedToken) → unwrap_or count 1 ≡ n
    → items_behind count (tokens_from line column (tag_text tag ++ more) ++ rest) ≡ before_items (record { count = n; tag = tag }) (items_behind None (tokens_from line (column + 1) more ++ rest))
tag-read line column Dead count n more rest is = ap (λ k. before_items (record { count = k; tag = Dead }) (items_behind None (tokens_from line (column + 1) more ++ rest))) is
tag-read line column Live count n more rest is = ap (λ k. before_items (record { count = k; tag = Live }) (items_behind None (tokens_from line (column + 1) more ++ rest))) is
tag-read line column RowEnd count n more rest is = ap (λ k. before_items (record { count = k; tag = RowEnd }) (items_behind None (tokens_from line (column + 1) more ++ rest))) is

-- a count before what follows it
count-read : (line column n : ℕ) (ds more : List ℕ) (rest : List PlacedToken) → 1 ≤ n → AreDigits n ds → begins_digit more ≡ false
    → items_behind None (tokens_from line column (ds ++ more) ++ rest) ≡ items_behind (Some n) (tokens_from line (column + length ds) more ++ rest)
count-read line column n ds more rest least h ends =
    ap (λ ts. items_behind None (ts ++ rest)) (tokens_from-digits line column ds more h.some h.all ends)
    ∙ ap (λ p. with_part (record { line = line; column = column; text = ds }) p None (λ c. items_behind c (tokens_from line (column + length ds) more ++ rest))) (part_of-count n ds least h)

no_digit : (tag : Tag) (more : List ℕ) → begins_digit (tag_text tag ++ more) ≡ false
no_digit Dead more = refl
no_digit Live more = refl
no_digit RowEnd more = refl

one_byte : (tag : Tag) → length (tag_text tag) ≡ 1
one_byte Dead = refl
one_byte Live = refl
one_byte RowEnd = refl

-- an item before what follows it
pub item-read : (line column : ℕ) (item : Item) (more : List ℕ) (rest : List PlacedToken) → IsCount item.count
    → items_behind None (tokens_from line column (item_text item ++ more) ++ rest) ≡ before_items item (items_behind None (tokens_from line (column + length (item_text item)) more ++ rest))
item-read line column item more rest h = elim (eqb_tells item.count 1) [
  | inl t ↦
      let text : item_text item ≡ tag_text item.tag = ap (λ b. cond b [] (decimal item.count) ++ tag_text item.tag) t.0 in
      let len : column + 1 ≡ column + length (item_text item) = omega (arith, ap length text, one_byte item.tag) in
      ap (λ bytes. items_behind None (tokens_from line column (bytes ++ more) ++ rest)) text
      ∙ tag-read line column item.tag None item.count more rest (sym t.1)
      ∙ ap (λ c. before_items item (items_behind None (tokens_from line c more ++ rest))) len
  | inr t ↦
      let ds = decimal item.count in
      let text : item_text item ≡ ds ++ tag_text item.tag = ap (λ b. cond b [] ds ++ tag_text item.tag) t.0 in
      let len : (column + length ds) + 1 ≡ column + length (item_text item) = omega (arith, ap length text, length-append ds (tag_text item.tag), one_byte item.tag) in
      ap (λ bytes. items_behind None (tokens_from line column (bytes ++ more) ++ rest)) text
      ∙ ap (λ bytes. items_behind None (tokens_from line column bytes ++ rest)) (append_assoc ds (tag_text item.tag) more)
      ∙ count-read line column item.count ds (tag_text item.tag ++ more) rest h.0 (AreDigits-decimal item.count h.1) (no_digit item.tag more)
      ∙ tag-read line (column + length ds) item.tag (Some item.count) item.count more rest refl
      ∙ ap (λ c. before_items item (items_behind None (tokens_from line c more ++ rest))) len
]

-- the bytes of items and `!`
abbrev pub is_item_byte : ℕ → Bool
is_item_byte b = is_ascii_digit b || (b == 98 || (b == 111 || (b == 36 || b == 33)))

digit_bytes : (ds : List ℕ) → list_all is_ascii_digit ds ≡ true → list_all is_item_byte ds ≡ true
digit_bytes [] all = refl
digit_bytes (b ∷ bs) all =
    let parts = and_parts (is_ascii_digit b) (list_all is_ascii_digit bs) all in
    rw (parts.0, digit_bytes bs parts.1) refl

tag_bytes : (tag : Tag) → list_all is_item_byte (tag_text tag) ≡ true
tag_bytes Dead = refl
tag_bytes Live = refl
tag_bytes RowEnd = refl

pub item_bytes : (item : Item) → IsCount item.count → list_all is_item_byte (item_text item) ≡ true
item_bytes item h = elim (eqb_tells item.count 1) [
  | inl t ↦ ap (λ b. list_all is_item_byte (cond b [] (decimal item.count) ++ tag_text item.tag)) t.0 ∙ tag_bytes item.tag
  | inr t ↦
      let ds = decimal item.count in
      ap (λ b. list_all is_item_byte (cond b [] ds ++ tag_text item.tag)) t.0
      ∙ list_all-append is_item_byte ds (tag_text item.tag)
      ∙ both_true (digit_bytes ds (AreDigits-decimal item.count h.1).all) (tag_bytes item.tag)
]
