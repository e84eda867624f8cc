-- Printed lists are read again.
use Rattle.std.proofs.Common.{◌≡◌, ℕ, ◌+◌, ◌<◌, Bool, true, false, List, [], ◌∷◌, ◌++◌, length, map, refl, ap, ◌∙◌, append_assoc, arith}
use Rattle.std.specs.Prelude.{Result, Ok, Err, codes}
use Rattle.std.specs.List.{list_all, list_any, flat_map}
use Rattle.std.specs.Str.{bytes_eq}
use Rattle.std.proofs.lemmas.Bool.{and_parts}
use Rattle.lls_base.specs.Results.{and_then}
use Rattle.lls_text.specs.Words.{PlacedWord, is_solid, begins_solid, words_from}
use Rattle.lls_text.proofs.Printed.{words_from-front, words_from-blank}
use Rattle.lls_prooflog.specs.declared.line_fault.LineFault.{LineFault}
use Rattle.lls_prooflog.specs.Number.{is_zeros}
use Rattle.lls_prooflog.specs.Line.{is_end, before_end, behind_end, all_of, if_ended, listed, begins_d}

-- numbers printed with a blank behind each, and the 0 that ends them
abbrev pub list_text : {X : Type 0} → (X → List ℕ) → List X → List ℕ
list_text text_of xs = flat_map (λ x. text_of x ++ codes " ") xs ++ codes "0"

module _ {X : Type 0} (item_of : PlacedWord → Result X LineFault) where
  pub listed-end : (word : PlacedWord) (words : List PlacedWord) → is_end word ≡ true → listed item_of (word ∷ words) ≡ Ok []
  listed-end word words e = rw e refl

  pub behind-end : (word : PlacedWord) (words : List PlacedWord) → is_end word ≡ true → behind_end (word ∷ words) ≡ words
  behind-end word words e = rw e refl

  pub behind-item : (word : PlacedWord) (words : List PlacedWord) → is_end word ≡ false → behind_end (word ∷ words) ≡ behind_end words
  behind-item word words e = rw e refl

  ended : (x : X) (rest : Result (List X) LineFault) (has : Bool) → and_then (and_then rest (λ values. Ok (x ∷ values))) (if_ended has) ≡ and_then (and_then rest (if_ended has)) (λ values. Ok (x ∷ values))
  ended x (Ok values) true = refl
  ended x (Ok values) false = refl
  ended x (Err fault) has = refl

  pub listed-item : (word : PlacedWord) (words : List PlacedWord) (x : X) → is_end word ≡ false → item_of word ≡ Ok x → listed item_of (word ∷ words) ≡ and_then (listed item_of words) (λ values. Ok (x ∷ values))
  listed-item word words x e h = rw (e, h) (ended x (all_of (map item_of (before_end words))) (list_any is_end words))

-- a printed number is a word that is read as that number, and ends no list
pub record IsPrinted {X : Type 0} (item_of : PlacedWord → Result X LineFault) (text : List ℕ) (x : X) : Type 0 where
  pub some : 0 < length text
  pub solid : list_all is_solid text ≡ true
  pub goes_on : is_zeros text ≡ false
  pub no_d : bytes_eq text (codes "d") ≡ false
  pub read : (column : ℕ) → item_of (record { column = column; text = text }) ≡ Ok x

-- what stands behind a printed list that was read
pub record IsRead {X : Type 0} (item_of : PlacedWord → Result X LineFault) (words : List PlacedWord) (xs : List X) (tail : List ℕ) : Type 0 where
  pub column : ℕ
  pub no_d : begins_d words ≡ false
  pub listed : listed item_of words ≡ Ok xs
  pub behind : behind_end words ≡ words_from column tail

module _ {X : Type 0} (item_of : PlacedWord → Result X LineFault) (text_of : X → List ℕ) (test : X → Bool) (each : (x : X) → test x ≡ true → IsPrinted item_of (text_of x) x) where
  list_text-cons : (x : X) (xs : List X) (tail : List ℕ) → list_text text_of (x ∷ xs) ++ tail ≡ text_of x ++ 32 ∷ (list_text text_of xs ++ tail)
  list_text-cons x xs tail =
      let front = flat_map (λ y. text_of y ++ codes " ") xs in
      rw (append_assoc (text_of x) (32 ∷ []) front, append_assoc (text_of x) (32 ∷ front) (48 ∷ []), append_assoc (text_of x) (32 ∷ (front ++ 48 ∷ [])) tail) refl

  pub read_list : (column : ℕ) (xs : List X) (tail : List ℕ) → list_all test xs ≡ true → begins_solid tail ≡ false → IsRead item_of (words_from column (list_text text_of xs ++ tail)) xs tail
  read_list column [] tail all end =
      let words : words_from column (48 ∷ tail) ≡ record { column = column; text = 48 ∷ [] } ∷ words_from (column + 1) tail = words_from-front column (48 ∷ []) tail (omega arith) refl end in
      record {
        column = column + 1;
        no_d = ap begins_d words;
        listed = ap (listed item_of) words ∙ listed-end item_of (record { column = column; text = 48 ∷ [] }) (words_from (column + 1) tail) refl;
        behind = ap behind_end words ∙ behind-end item_of (record { column = column; text = 48 ∷ [] }) (words_from (column + 1) tail) refl;
      }
  read_list column (x ∷ xs) tail all end =
      let parts = and_parts (test x) (list_all test xs) all in
      let printed = each x parts.0 in
      let text = text_of x in
      let rest = list_text text_of xs ++ tail in
      let next = column + length text + 1 in
      let word : PlacedWord = record { column = column; text = text } in
      let words : words_from column (list_text text_of (x ∷ xs) ++ tail) ≡ word ∷ words_from next rest =
      ap (words_from column) (list_text-cons x xs tail)
      ∙ words_from-front column text (32 ∷ rest) printed.some printed.solid refl
      ∙ ap (λ (ws : List PlacedWord). word ∷ ws) (words_from-blank (column + length text) 32 rest refl)
      in
      let more = read_list next xs tail parts.1 end in
      record {
        column = more.column;
        no_d = ap begins_d words ∙ printed.no_d;
        listed = ap (listed item_of) words ∙ listed-item item_of word (words_from next rest) x printed.goes_on (printed.read column) ∙ ap (λ r. and_then r (λ values. Ok (x ∷ values))) more.listed;
        behind = ap behind_end words ∙ behind-item item_of word (words_from next rest) printed.goes_on ∙ more.behind;
      }
