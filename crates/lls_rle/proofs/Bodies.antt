-- The lines of a printed body, and what is read of them.
use Rattle.std.proofs.Common.{◌≡◌, ◌+◌, ℕ, Bool, true, false, cond, List, [], ◌∷◌, ◌++◌, length, None, refl, sym, ap, ◌∙◌, inl, inr, arith, append_assoc, append-nil, length-append}
use Rattle.std.specs.Prelude.{nat_lt}
use Rattle.std.specs.List.{list_all}
use Rattle.std.proofs.lemmas.List.Folds.{list_all-append}
use Rattle.std.specs.Cmp.Derive.{both_true}
use Rattle.std.proofs.lemmas.Bool.{and_parts}
use Rattle.std.proofs.lemmas.Bool.Decides.{eqb_tells}
use Rattle.lls_text.specs.Lines.{lines_of}
use Rattle.lls_text.proofs.Printed.{lines_of-line}
use Rattle.lls_rle.specs.declared.item.Item.{Item}
use Rattle.lls_rle.specs.Tokens.{PlacedToken, tokens_from}
use Rattle.lls_rle.specs.Items.{Items, ended, items_behind, items_of}
use Rattle.lls_rle.specs.Reading.{is_comment, tokens_of_line, tokens_of_lines}
use Rattle.lls_rle.specs.Printing.{item_text, wrapped, body_text}
use Rattle.lls_rle.specs.Stacked.{AreSmall}
use Rattle.lls_rle.proofs.Wrapping.{texts_from}
use Rattle.lls_rle.proofs.ItemTexts.{is_item_byte, item_bytes, item-read}

-- texts in lines, behind what the first line has already
abbrev grouped : List ℕ → List (List ℕ) → List (List ℕ)
grouped line [] = line ∷ []
grouped line (text ∷ texts) = cond (nat_lt 70 (length line + length text)) (line ∷ grouped text texts) (grouped (line ++ text) texts)

abbrev ended_lines : List (List ℕ) → List ℕ
ended_lines [] = []
ended_lines (line ∷ lines) = line ++ 10 ∷ ended_lines lines

ended-grouped : (line : List ℕ) (texts : List (List ℕ)) → ended_lines (grouped line texts) ≡ (line ++ wrapped (length line) texts) ++ 10 ∷ []
ended-grouped line [] = ap (λ l. l ++ 10 ∷ []) (sym (append-nil line))
ended-grouped line (text ∷ texts) =
    elim (nat_lt 70 (length line + length text)) as (λ b. ended_lines (cond b (line ∷ grouped text texts) (grouped (line ++ text) texts))
    ≡ (line ++ cond b (10 ∷ text ++ wrapped (length text) texts) (text ++ wrapped (length line + length text) texts)) ++ 10 ∷ []) [
      | true ↦ ap (λ rest. line ++ 10 ∷ rest) (ended-grouped text texts) ∙ sym (append_assoc line (10 ∷ text ++ wrapped (length text) texts) (10 ∷ []))
      | false ↦
          ended-grouped (line ++ text) texts
          ∙ ap (λ n. ((line ++ text) ++ wrapped n texts) ++ 10 ∷ []) (length-append line text)
          ∙ ap (λ l. l ++ 10 ∷ []) (append_assoc line text (wrapped (length line + length text) texts))
    ]

abbrev are_bytes : List ℕ → Bool
are_bytes line = list_all is_item_byte line

joined_bytes : (line text : List ℕ) → are_bytes line ≡ true → are_bytes text ≡ true → are_bytes (line ++ text) ≡ true
joined_bytes line text p q = list_all-append is_item_byte line text ∙ both_true p q

grouped_bytes : (line : List ℕ) (texts : List (List ℕ)) → are_bytes line ≡ true → list_all are_bytes texts ≡ true → list_all are_bytes (grouped line texts) ≡ true
grouped_bytes line [] p q = both_true p refl
grouped_bytes line (text ∷ texts) p q =
    let parts = and_parts (are_bytes text) (list_all are_bytes texts) q in
    elim (nat_lt 70 (length line + length text)) as (λ b. list_all are_bytes (cond b (line ∷ grouped text texts) (grouped (line ++ text) texts)) ≡ true) [
      | true ↦ both_true p (grouped_bytes text texts parts.0 parts.1)
      | false ↦ grouped_bytes (line ++ text) texts (joined_bytes line text p parts.0) parts.1
    ]

lines_of-ended : (lines : List (List ℕ)) → list_all are_bytes lines ≡ true → lines_of (ended_lines lines) ≡ lines
lines_of-ended [] all = refl
lines_of-ended (line ∷ lines) all =
    let parts = and_parts (are_bytes line) (list_all are_bytes lines) all in
    lines_of-line is_item_byte line (ended_lines lines) refl refl parts.0 ∙ ap (λ ls. line ∷ ls) (lines_of-ended lines parts.1)

text_bytes : (items : List Item) → AreSmall 999999 items → list_all are_bytes (texts_from items) ≡ true
text_bytes [] h = refl
text_bytes (item ∷ items) h = both_true (item_bytes item h.0) (text_bytes items h.1)

-- no line is a comment
no_comment : (line : List ℕ) → are_bytes line ≡ true → is_comment line ≡ false
no_comment [] all = refl
no_comment (b ∷ bs) all = elim (eqb_tells b 35) [
  | inl t ↦ absurd (apart (sym (ap is_item_byte t.1) ∙ (and_parts (is_item_byte b) (are_bytes bs) all).0))
  | inr t ↦ t.0
] where
  apart : is_item_byte 35 ≡ true → ⊥
  apart e = cc

abbrev prepend : List Item → Items → Items
prepend items all = record all { items = items ++ all.items }

-- items stand first in a line
HasRead : List ℕ → List Item → Type 0
HasRead line items =
    (number : ℕ) (more : List ℕ) (rest : List PlacedToken)
    → items_behind None (tokens_from number 1 (line ++ more) ++ rest) ≡ prepend items (items_behind None (tokens_from number (1 + length line) more ++ rest))

HasRead-more : (line : List ℕ) (before : List Item) (item : Item) → AreSmall 999999 (item ∷ []) → HasRead line before → HasRead (line ++ item_text item) (before ++ item ∷ [])
unfolding HasRead
HasRead-more line before item h reads = λ number more rest.
    let text = item_text item in
    let last = items_behind None (tokens_from number ((1 + length line) + length text) more ++ rest) in
    ap (λ bytes. items_behind None (tokens_from number 1 bytes ++ rest)) (append_assoc line text more)
    ∙ reads number (text ++ more) rest
    ∙ ap (prepend before) (item-read number (1 + length line) item more rest h.0)
    ∙ ap (λ items. record last { items = items }) (sym (append_assoc before (item ∷ []) last.items))
    ∙ ap (λ c. prepend (before ++ item ∷ []) (items_behind None (tokens_from number c more ++ rest))) (omega (arith, length-append line text))

HasRead-one : (item : Item) → AreSmall 999999 (item ∷ []) → HasRead (item_text item) (item ∷ [])
unfolding HasRead
HasRead-one item h = λ number more rest. item-read number 1 item more rest h.0

HasRead-none : HasRead [] []
unfolding HasRead
HasRead-none = λ number more rest. refl

line-read : (line : List ℕ) (before : List Item) (number : ℕ) (more : List ℕ) (rest : List PlacedToken) → HasRead line before → are_bytes (line ++ more) ≡ true
    → items_behind None (tokens_of_line number (line ++ more) ++ rest) ≡ prepend before (items_behind None (tokens_from number (1 + length line) more ++ rest))
unfolding HasRead
line-read line before number more rest reads all =
    ap (λ b. items_behind None (cond b [] (tokens_from number 1 (line ++ more)) ++ rest)) (no_comment (line ++ more) all) ∙ reads number more rest

whole-read : (line : List ℕ) (before : List Item) (number : ℕ) (rest : List PlacedToken) → HasRead line before → are_bytes line ≡ true
    → items_behind None (tokens_of_line number line ++ rest) ≡ prepend before (items_behind None rest)
whole-read line before number rest reads all =
    ap (λ l. items_behind None (tokens_of_line number l ++ rest)) (sym (append-nil line)) ∙ line-read line before number [] rest reads (ap are_bytes (append-nil line) ∙ all)

grouped-read : (items : List Item) (line : List ℕ) (before : List Item) (number : ℕ) → AreSmall 999999 items → HasRead line before → are_bytes line ≡ true
    → items_behind None (tokens_of_lines number (grouped line (texts_from items))) ≡ record { items = before ++ items; ending = ended }
grouped-read [] line before number h reads all =
    elim (nat_lt 70 (length line + 1)) as (λ b. items_behind None (tokens_of_lines number (cond b (line ∷ (33 ∷ []) ∷ []) ((line ++ 33 ∷ []) ∷ []))) ≡ record { items = before ++ []; ending = ended }) [
      | true ↦ whole-read line before number (tokens_of_lines (number + 1) ((33 ∷ []) ∷ [])) reads all
      | false ↦ line-read line before number (33 ∷ []) [] reads (joined_bytes line (33 ∷ []) all refl)
    ]
grouped-read (item ∷ items) line before number h reads all =
    let text = item_text item in
    elim (nat_lt 70 (length line + length text)) as (λ b. items_behind None (tokens_of_lines number (cond b (line ∷ grouped text (texts_from items)) (grouped (line ++ text) (texts_from items)))) ≡ record { items = before ++ item ∷ items; ending = ended }) [
      | true ↦
          whole-read line before number (tokens_of_lines (number + 1) (grouped text (texts_from items))) reads all
          ∙ ap (prepend before) (grouped-read items text (item ∷ []) (number + 1) h.1 (HasRead-one item (h.0, tt)) (item_bytes item h.0))
      | false ↦
          grouped-read items (line ++ text) (before ++ item ∷ []) number h.1 (HasRead-more line before item (h.0, tt) reads) (joined_bytes line text all (item_bytes item h.0))
          ∙ ap (λ all_items. record { items = all_items; ending = ended }) (append_assoc before (item ∷ []) items)
    ]

-- the lines of a printed body are its items
pub body-read : (items : List Item) (number : ℕ) → AreSmall 999999 items → items_of (tokens_of_lines number (lines_of (body_text items))) ≡ record { items = items; ending = ended }
body-read items number h =
    let lines = grouped [] (texts_from items) in
    ap (λ bytes. items_of (tokens_of_lines number (lines_of bytes))) (sym (ended-grouped [] (texts_from items)))
    ∙ ap (λ ls. items_of (tokens_of_lines number ls)) (lines_of-ended lines (grouped_bytes [] (texts_from items) refl (text_bytes items h)))
    ∙ grouped-read items [] [] number h HasRead-none refl
