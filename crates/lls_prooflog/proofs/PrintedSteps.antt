-- Printed steps are read again.
use Rattle.std.proofs.Common.{◌≡◌, ◌≤◌, ◌<◌, ℕ, ◌+◌, true, false, List, [], ◌∷◌, ◌++◌, length, Some, refl, sym, ap, ◌∙◌, append_assoc, arith}
use Rattle.std.specs.Prelude.{ℤ, Ok}
use Rattle.std.specs.List.{list_all}
use Rattle.std.specs.Fmt.{decimal, signed_decimal}
use Rattle.std.proofs.lemmas.Bool.{and_parts}
use Rattle.std.proofs.lemmas.List.{append-nil}
use Rattle.lls_text.specs.Lines.{begins_with}
use Rattle.lls_text.specs.Words.{PlacedWord, is_solid, words_from, words_of}
use Rattle.lls_text.proofs.Printed.{words_from-front, words_from-blank}
use Rattle.lls_text.proofs.NumberBytes.{natural_bytes, solid_bytes, begins_with-number}
use Rattle.lls_lit.specs.Formula.{is_within}
use Rattle.lls_lit.specs.declared.var.TheConstants.Var.{MOST}
use Rattle.lls_prooflog.specs.declared.step.Step.{Step}
use Rattle.lls_prooflog.specs.declared.step.TheConstants.Step.{MOST_ID}
use Rattle.lls_prooflog.specs.declared.step.Step.TheVariants.{Add, Del}
use Rattle.lls_prooflog.specs.Number.{id_in, leading_in, literal_in, hint_in, item}
use Rattle.lls_prooflog.specs.Range.{is_id, is_hint, IsInRange}
use Rattle.lls_prooflog.specs.Line.{behind_end, listed, addition, deletion, begins_d, step_of_words, step_of_line, comment}
use Rattle.lls_prooflog.specs.StepText.{step_line, AreLiterals}
use Rattle.lls_prooflog.proofs.PrintedNumbers.{signed_bytes, is_zeros-decimal, is_zeros-signed, is_lit, id_bounds, lit_bounds, hint_bounds, id_word, leading_word, lit_word, hint_word, no_d}
use Rattle.lls_prooflog.proofs.PrintedLists.{list_text, IsPrinted, read_list}

printed_id : (n : ℕ) → is_id n ≡ true → IsPrinted (item id_in) (decimal n) n
printed_id n e =
    let b = id_bounds n e in
    let bytes = natural_bytes n b.1 in
    record { some = bytes.0; solid = solid_bytes (decimal n) bytes.1; goes_on = is_zeros-decimal n b.0 b.1; no_d = no_d (decimal n) bytes.1; read = λ column. id_word column n e }

printed_lit : (z : ℤ) → is_lit z ≡ true → IsPrinted (item literal_in) (signed_decimal z) z
printed_lit z e =
    let b = lit_bounds z e in
    let bytes = signed_bytes z b.1 in
    record { some = bytes.0; solid = solid_bytes (signed_decimal z) bytes.1; goes_on = is_zeros-signed z b.0 b.1; no_d = no_d (signed_decimal z) bytes.1; read = λ column. lit_word column z e }

printed_hint : (z : ℤ) → is_hint z ≡ true → IsPrinted (item hint_in) (signed_decimal z) z
printed_hint z e =
    let b = hint_bounds z e in
    let bytes = signed_bytes z b.1 in
    record { some = bytes.0; solid = solid_bytes (signed_decimal z) bytes.1; goes_on = is_zeros-signed z b.0 b.1; no_d = no_d (signed_decimal z) bytes.1; read = λ column. hint_word column z e }

addition-parts : (first : PlacedWord) (words : List PlacedWord) (id : ℕ) (lits hints : List ℤ) → item id_in first ≡ Ok id → listed (item literal_in) words ≡ Ok lits → listed (item hint_in) (behind_end words) ≡ Ok hints → behind_end (behind_end words) ≡ [] → addition first words ≡ Ok (Some (Add id lits hints))
addition-parts first words id lits hints a b c d = rw (a, b, c, d) refl

deletion-parts : (first : PlacedWord) (words : List PlacedWord) (n : ℕ) (ids : List ℕ) → item leading_in first ≡ Ok n → listed (item id_in) words ≡ Ok ids → behind_end words ≡ [] → deletion first words ≡ Ok (Some (Del ids))
deletion-parts first words n ids a b c = rw (a, b, c) refl

addition-words : (first : PlacedWord) (words : List PlacedWord) → begins_d words ≡ false → step_of_words (first ∷ words) ≡ addition first words
addition-words first words e = rw e refl

step_of_line-words : (line : List ℕ) → begins_with comment line ≡ false → step_of_line line ≡ step_of_words (words_of line)
step_of_line-words line e = rw e refl

line-shape : (a b c : List ℕ) → (((a ++ 32 ∷ []) ++ b) ++ 32 ∷ []) ++ c ≡ a ++ 32 ∷ (b ++ 32 ∷ c)
line-shape a b c = simp append_assoc

-- the step that the line of an addition writes
printed_addition : (greatest id : ℕ) (lits hints : List ℤ) → is_within MOST lits ≡ true → is_id id ≡ true → list_all is_hint hints ≡ true → step_of_line (step_line greatest (Add id lits hints)) ≡ Ok (Some (Add id lits hints))
printed_addition greatest id lits hints within is all =
    let printed = printed_id id is in
    let bytes = natural_bytes id (id_bounds id is).1 in
    let last = list_text signed_decimal hints in
    let rest = list_text signed_decimal lits ++ 32 ∷ last in
    let from = 1 + length (decimal id) + 1 in
    let first : PlacedWord = record { column = 1; text = decimal id } in
    let words = words_from from rest in
    let split : words_of (decimal id ++ 32 ∷ rest) ≡ first ∷ words =
    words_from-front 1 (decimal id) (32 ∷ rest) printed.some printed.solid refl ∙ ap (λ (ws : List PlacedWord). first ∷ ws) (words_from-blank (1 + length (decimal id)) 32 rest refl)
    in
    let front = read_list (item literal_in) signed_decimal is_lit printed_lit from lits (32 ∷ last) within refl in
    let back = read_list (item hint_in) signed_decimal is_hint printed_hint (front.column + 1) hints [] all refl in
    let behind : behind_end words ≡ words_from (front.column + 1) (last ++ []) = front.behind ∙ words_from-blank front.column 32 last refl ∙ ap (words_from (front.column + 1)) (sym (append-nil last)) in
    let none : begins_with comment (decimal id ++ 32 ∷ rest) ≡ false = begins_with-number comment (decimal id) (32 ∷ rest) refl bytes.0 bytes.1 in
    ap step_of_line (line-shape (decimal id) (list_text signed_decimal lits) last)
    ∙ step_of_line-words (decimal id ++ 32 ∷ rest) none
    ∙ ap step_of_words split
    ∙ addition-words first words front.no_d
    ∙ addition-parts first words id lits hints (printed.read 1) front.listed (ap (listed (item hint_in)) behind ∙ back.listed) (ap behind_end behind ∙ back.behind)

deletion-shape : (a b : List ℕ) → (a ++ 32 ∷ 100 ∷ 32 ∷ []) ++ b ≡ a ++ 32 ∷ 100 ∷ 32 ∷ b
deletion-shape a b = append_assoc a (32 ∷ 100 ∷ 32 ∷ []) b

-- a word, the d behind it, and what follows
words-by-d : (a rest : List ℕ) → 0 < length a → list_all is_solid a ≡ true
    → words_of (a ++ 32 ∷ 100 ∷ 32 ∷ rest) ≡ record { column = 1; text = a } ∷ record { column = 1 + length a + 1; text = 100 ∷ [] } ∷ words_from (1 + length a + 1 + 1 + 1) rest
words-by-d a rest some solid =
    let column = 1 + length a in
    let first : PlacedWord = record { column = 1; text = a } in
    let d : PlacedWord = record { column = column + 1; text = 100 ∷ [] } in
    let one : words_of (a ++ 32 ∷ 100 ∷ 32 ∷ rest) ≡ first ∷ words_from column (32 ∷ 100 ∷ 32 ∷ rest) = words_from-front 1 a (32 ∷ 100 ∷ 32 ∷ rest) some solid refl in
    let two : words_from column (32 ∷ 100 ∷ 32 ∷ rest) ≡ words_from (column + 1) (100 ∷ 32 ∷ rest) = words_from-blank column 32 (100 ∷ 32 ∷ rest) refl in
    let three : words_from (column + 1) (100 ∷ 32 ∷ rest) ≡ d ∷ words_from (column + 1 + 1) (32 ∷ rest) = words_from-front (column + 1) (100 ∷ []) (32 ∷ rest) (omega arith) refl refl in
    let four : words_from (column + 1 + 1) (32 ∷ rest) ≡ words_from (column + 1 + 1 + 1) rest = words_from-blank (column + 1 + 1) 32 rest refl in
    one ∙ ap (λ (ws : List PlacedWord). first ∷ ws) (two ∙ three ∙ ap (λ (ws : List PlacedWord). d ∷ ws) four)

-- and that of a deletion
printed_deletion : (greatest : ℕ) (ids : List ℕ) → greatest ≤ MOST_ID → list_all is_id ids ≡ true → step_of_line (step_line greatest (Del ids)) ≡ Ok (Some (Del ids))
printed_deletion greatest ids fits all =
    let number = decimal greatest in
    let bytes = natural_bytes greatest (omega (arith, fits)) in
    let text = list_text decimal ids in
    let rest = 32 ∷ 100 ∷ 32 ∷ text in
    let from = 1 + length number + 1 + 1 + 1 in
    let back = read_list (item id_in) decimal is_id printed_id from ids [] all refl in
    let whole : words_from from text ≡ words_from from (text ++ []) = ap (words_from from) (sym (append-nil text)) in
    ap step_of_line (deletion-shape number text)
    ∙ step_of_line-words (number ++ rest) (begins_with-number comment number rest refl bytes.0 bytes.1)
    ∙ ap step_of_words (words-by-d number text bytes.0 (solid_bytes number bytes.1))
    ∙ deletion-parts (record { column = 1; text = number }) (words_from from text) greatest ids (leading_word 1 greatest fits) (ap (listed (item id_in)) whole ∙ back.listed) (ap behind_end whole ∙ back.behind)

pub step_of_line-step_line : (greatest : ℕ) (step : Step) → greatest ≤ MOST_ID → AreLiterals step → IsInRange step → step_of_line (step_line greatest step) ≡ Ok (Some step)
step_of_line-step_line greatest (Add id lits hints) fits within range = let parts = and_parts (is_id id) (list_all is_hint hints) range in printed_addition greatest id lits hints within parts.0 parts.1
step_of_line-step_line greatest (Del ids) fits within range = printed_deletion greatest ids fits range
