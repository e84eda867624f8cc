-- Lines that were written are read again.
use Rattle.std.proofs.Common.{◌≡◌, ℕ, ◌+◌, true, false, List, [], ◌∷◌, ◌++◌, length, Some, refl, sym, ap, ◌∙◌, append_assoc}
use Rattle.std.specs.Prelude.{ℤ, Ok, codes}
use Rattle.std.specs.List.{list_all, flat_map}
use Rattle.std.specs.Str.{bytes_eq}
use Rattle.std.specs.Fmt.{signed_decimal}
use Rattle.std.proofs.lemmas.Bool.{and_parts}
use Rattle.std.proofs.lemmas.List.{append-nil}
use Rattle.std.proofs.lemmas.List.Folds.{list_all-append}
use Rattle.lls_text.specs.Words.{PlacedWord, words_from}
use Rattle.lls_text.proofs.Printed.{is_printed, words_from-front, passes-apart}
use Rattle.lls_text.proofs.NumberBytes.{is_number_byte, solid_bytes, printed_bytes}
use Rattle.lls_lit.specs.Formula.{is_within}
use Rattle.lls_lit.specs.declared.var.TheConstants.Var.{MOST}
use Rattle.lls_prooflog.specs.Number.{literal_in, item}
use Rattle.lls_prooflog.specs.Line.{behind_end, listed}
use Rattle.lls_prooflog.proofs.PrintedNumbers.{signed_bytes, is_zeros-signed, is_lit, lit_bounds, lit_word, no_d}
use Rattle.lls_prooflog.proofs.PrintedLists.{list_text, IsPrinted, read_list}
use Rattle.lls_drat.specs.declared.kind.Kind.{Kind}
use Rattle.lls_drat.specs.declared.kind.Kind.TheVariants.{Addition, Deletion}
use Rattle.lls_drat.specs.Line.{lemma_in, lemma_of_words, lemma_of_line}
use Rattle.lls_drat.specs.Written.{lemma_line}

printed_lit : (z : ℤ) → is_lit z ≡ true → IsPrinted (item literal_in) (signed_decimal z) z
printed_lit z e =
    let b = lit_bounds z e in
    let bytes = signed_bytes z b.1 in
    record { some = bytes.0; solid = solid_bytes (signed_decimal z) bytes.1; goes_on = is_zeros-signed z b.0 b.1; no_d = no_d (signed_decimal z) bytes.1; read = λ column. lit_word column z e }

-- a word of a number's bytes isn't c
no_c : (word : List ℕ) → list_all is_number_byte word ≡ true → bytes_eq word (codes "c") ≡ false
no_c [] bytes = refl
no_c (b ∷ bs) bytes = rw (passes-apart is_number_byte b 99 (and_parts (is_number_byte b) (list_all is_number_byte bs) bytes).0 refl) refl

abbrev lits_text : List ℤ → List ℕ
lits_text lits = list_text signed_decimal lits

-- the words of literals are no comment and no deletion
is_addition : (column : ℕ) (lits : List ℤ) → is_within MOST lits ≡ true → lemma_of_words (words_from column (lits_text lits)) ≡ lemma_in Addition (words_from column (lits_text lits))
is_addition column [] all = refl
is_addition column (l ∷ ls) all =
    let is = (and_parts (is_lit l) (is_within MOST ls) all).0 in
    let bytes = signed_bytes l (lit_bounds l is).1 in
    let word : PlacedWord = record { column = column; text = signed_decimal l } in
    let rest = lits_text ls in
    let front = flat_map (λ m. signed_decimal m ++ codes " ") ls in
    let whole : lits_text (l ∷ ls) ≡ signed_decimal l ++ 32 ∷ rest = rw (append_assoc (signed_decimal l) (32 ∷ []) front, append_assoc (signed_decimal l) (32 ∷ front) (48 ∷ [])) refl in
    let words : words_from column (lits_text (l ∷ ls)) ≡ word ∷ words_from (column + length (signed_decimal l)) (32 ∷ rest) =
    ap (words_from column) whole ∙ words_from-front column (signed_decimal l) (32 ∷ rest) bytes.0 (solid_bytes (signed_decimal l) bytes.1) refl
    in
    ap lemma_of_words words ∙ rw (no_c (signed_decimal l) bytes.1, no_d (signed_decimal l) bytes.1) refl ∙ ap (lemma_in Addition) (sym words)

-- the lemma that words write
list_again : (kind : Kind) (column : ℕ) (lits : List ℤ) → is_within MOST lits ≡ true → lemma_in kind (words_from column (lits_text lits)) ≡ Ok (Some (record { kind = kind; lits = lits }))
list_again kind column lits all =
    let back = read_list (item literal_in) signed_decimal is_lit printed_lit column lits [] all refl in
    let whole : words_from column (lits_text lits) ≡ words_from column (lits_text lits ++ []) = ap (words_from column) (sym (append-nil (lits_text lits))) in
    parts (words_from column (lits_text lits)) (ap (listed (item literal_in)) whole ∙ back.listed) (ap behind_end whole ∙ back.behind)
  where
    parts : (words : List PlacedWord) → listed (item literal_in) words ≡ Ok lits → behind_end words ≡ [] → lemma_in kind words ≡ Ok (Some (record { kind = kind; lits = lits }))
    parts words e h = rw (e, h) refl

pub line_again : (kind : Kind) (lits : List ℤ) → is_within MOST lits ≡ true → lemma_of_line (lemma_line (record { kind = kind; lits = lits })) ≡ Ok (Some (record { kind = kind; lits = lits }))
line_again Addition lits all = is_addition 1 lits all ∙ list_again Addition 1 lits all
line_again Deletion lits all = list_again Deletion 3 lits all

lits_printed : (lits : List ℤ) → is_within MOST lits ≡ true → list_all is_printed (flat_map (λ l. signed_decimal l ++ codes " ") lits ++ codes "0") ≡ true
lits_printed lits all = rw (list_all-append is_printed (flat_map (λ l. signed_decimal l ++ codes " ") lits) (codes "0"), each lits all) refl where
  each : (ls : List ℤ) → is_within MOST ls ≡ true → list_all is_printed (flat_map (λ l. signed_decimal l ++ codes " ") ls) ≡ true
  each [] all = refl
  each (l ∷ ls) all =
      let parts = and_parts (is_lit l) (is_within MOST ls) all in
      rw (list_all-append is_printed (signed_decimal l ++ codes " ") (flat_map (λ m. signed_decimal m ++ codes " ") ls), list_all-append is_printed (signed_decimal l) (codes " "), printed_bytes (signed_decimal l) (signed_bytes l (lit_bounds l parts.0).1).1, each ls parts.1) refl

pub line_printed : (kind : Kind) (lits : List ℤ) → is_within MOST lits ≡ true → list_all is_printed (lemma_line (record { kind = kind; lits = lits })) ≡ true
line_printed Addition lits all = lits_printed lits all
line_printed Deletion lits all = lits_printed lits all
