-- A printed formula is read again.
use Rattle.std.proofs.Common.{◌≡◌, ℕ, ◌+◌, ◌^◌, ◌<◌, ◌≤◌, true, eq-eqb, List, [], ◌∷◌, ◌++◌, length, map, Ok, refl, sym, ap, ◌∙◌, arith}
use Rattle.std.specs.Prelude.{ℤ, pos, codes}
use Rattle.std.specs.List.{list_all, flat_map, filter_map, enumerate_from}
use Rattle.std.specs.Fmt.{signed_decimal}
use Rattle.std.proofs.lemmas.Bool.{and_parts, le-leb}
use Rattle.std.proofs.lemmas.List.{append-nil}
use Rattle.std.proofs.lemmas.List.Elements.{filter_map-append}
use Rattle.lls_text.specs.Lines.{lines_of}
use Rattle.lls_text.specs.Words.{PlacedWord, words_of}
use Rattle.lls_lit.specs.Formula.{Clause, Cnf, is_literal_of, is_within}
use Rattle.lls_lit.specs.declared.var.TheConstants.Var.{MOST}
use Rattle.lls_cnf.specs.declared.number.TheConstants.{MOST_DIGITS}
use Rattle.lls_cnf.specs.Formula.{IsFormula}
use Rattle.lls_cnf.specs.Number.{whole_number}
use Rattle.lls_cnf.specs.Dimacs.{Numbered, counted_from, words_on, header_of_texts, header_of, word_fault, numbers_of, clauses_in, formula_of_lines, dimacs}
use Rattle.lls_cnf.specs.DimacsText.{clause_text, dimacs_text}
use Rattle.lls_cnf.specs.Reading.{written}
use Rattle.lls_cnf.proofs.PrintedWords.{natural_number-decimal, whole_number-literal, word_fault-literal, word_fault-zero}
use Rattle.lls_cnf.proofs.PrintedLines.{clause_line, header_line, literal_fits, lines_of-header, lines_of-clauses, is_counted-clause, texts_of-header, texts_of-clause}
use Rattle.lls_cnf.proofs.Zeros.{ended_clauses-written}

on_line : (line : ℕ) → List (List ℕ) → List Numbered
on_line line texts = map (λ text. (line, text)) texts

-- the words of a line, by their texts
on_line-words : (line : ℕ) (words : List PlacedWord) → map (λ (word : PlacedWord). (line, word.text)) words ≡ on_line line (map (λ word. word.text) words)
unfolding on_line
on_line-words line [] = refl
on_line-words line (word ∷ words) = ap (λ (rest : List Numbered). (line, word.text) ∷ rest) (on_line-words line words)

words_on-clause : (vars line : ℕ) (clause : Clause) → vars ≤ MOST → is_within vars clause ≡ true → words_on (line, clause_line clause) ≡ on_line line (map signed_decimal clause ++ codes "0" ∷ [])
words_on-clause vars line clause fits within =
    on_line-words line (words_of (clause_line clause)) ∙ ap (on_line line) (texts_of-clause vars clause fits within)

faults-clause : (vars line : ℕ) (clause : Clause) → vars ≤ MOST → is_within vars clause ≡ true → filter_map (word_fault vars) (on_line line (map signed_decimal clause ++ codes "0" ∷ [])) ≡ []
unfolding on_line
faults-clause vars line [] fits within = rw (word_fault-zero vars line) refl
faults-clause vars line (l ∷ ls) fits within =
    let parts = and_parts (is_literal_of vars l) (is_within vars ls) within in
    rw (word_fault-literal vars line l fits parts.0) (faults-clause vars line ls fits parts.1)

numbers-clause : (vars line : ℕ) (clause : Clause) → vars ≤ MOST → is_within vars clause ≡ true → numbers_of (on_line line (map signed_decimal clause ++ codes "0" ∷ [])) ≡ clause ++ pos 0 ∷ []
unfolding on_line
numbers-clause vars line [] fits within = refl
numbers-clause vars line (l ∷ ls) fits within =
    let parts = and_parts (is_literal_of vars l) (is_within vars ls) within in
    rw (whole_number-literal l (literal_fits vars l fits parts.0)) (ap (λ (ns : List ℤ). l ∷ ns) (numbers-clause vars line ls fits parts.1))

faults-clauses : (vars line : ℕ) (clauses : List Clause) → vars ≤ MOST → list_all (is_within vars) clauses ≡ true → filter_map (word_fault vars) (flat_map words_on (enumerate_from line (map clause_line clauses))) ≡ []
faults-clauses vars line [] fits within = refl
faults-clauses vars line (clause ∷ clauses) fits within =
    let parts = and_parts (is_within vars clause) (list_all (is_within vars) clauses) within in
    let rest = flat_map words_on (enumerate_from (line + 1) (map clause_line clauses)) in
    filter_map-append (word_fault vars) (words_on (line, clause_line clause)) rest
    ∙ rw (words_on-clause vars line clause fits parts.0, faults-clause vars line clause fits parts.0) (faults-clauses vars (line + 1) clauses fits parts.1)

numbers-clauses : (vars line : ℕ) (clauses : List Clause) → vars ≤ MOST → list_all (is_within vars) clauses ≡ true → numbers_of (flat_map words_on (enumerate_from line (map clause_line clauses))) ≡ flat_map (λ clause. clause ++ pos 0 ∷ []) clauses
numbers-clauses vars line [] fits within = refl
numbers-clauses vars line (clause ∷ clauses) fits within =
    let parts = and_parts (is_within vars clause) (list_all (is_within vars) clauses) within in
    let rest = flat_map words_on (enumerate_from (line + 1) (map clause_line clauses)) in
    filter_map-append (λ (word : Numbered). whole_number word.1) (words_on (line, clause_line clause)) rest
    ∙ rw (words_on-clause vars line clause fits parts.0, numbers-clause vars line clause fits parts.0, numbers-clauses vars (line + 1) clauses fits parts.1) refl

counted-clauses : (vars line : ℕ) (clauses : List Clause) → vars ≤ MOST → list_all (is_within vars) clauses ≡ true → counted_from line (map clause_line clauses) ≡ enumerate_from line (map clause_line clauses)
counted-clauses vars line [] fits within = refl
counted-clauses vars line (clause ∷ clauses) fits within =
    let parts = and_parts (is_within vars clause) (list_all (is_within vars) clauses) within in
    rw (is_counted-clause vars clause fits parts.0) (ap (λ (rest : List Numbered). (line, clause_line clause) ∷ rest) (counted-clauses vars (line + 1) clauses fits parts.1))

clauses_in-clauses : (vars line : ℕ) (clauses : List Clause) → vars ≤ MOST → list_all (is_within vars) clauses ≡ true → clauses_in vars (flat_map words_on (counted_from line (map clause_line clauses))) ≡ Ok clauses
clauses_in-clauses vars line clauses fits within =
    let numbers : numbers_of (flat_map words_on (enumerate_from line (map clause_line clauses))) ≡ written clauses [] =
    numbers-clauses vars line clauses fits within ∙ sym (append-nil (flat_map (λ clause. clause ++ pos 0 ∷ []) clauses))
    in rw (counted-clauses vars line clauses fits within, faults-clauses vars line clauses fits within, numbers) (ended_clauses-written vars clauses within)

header_of-printed : (formula : Cnf) → IsFormula formula.vars formula.clauses → header_of (1, header_line formula) ≡ Ok (record { vars = formula.vars; clauses = length formula.clauses })
header_of-printed formula h =
    let few : length formula.clauses < 10 ^ MOST_DIGITS = omega (arith, h.clauses_fit) in
    let small : formula.vars < 10 ^ MOST_DIGITS = omega (arith, h.vars_fit) in
    ap (header_of_texts 1) (texts_of-header formula small few)
    ∙ rw (natural_number-decimal formula.vars small, natural_number-decimal (length formula.clauses) few, le-leb formula.vars MOST h.vars_fit) refl

lines_of-formula : (formula : Cnf) → IsFormula formula.vars formula.clauses → lines_of (dimacs_text formula) ≡ header_line formula ∷ map clause_line formula.clauses
lines_of-formula formula h =
    let few : length formula.clauses < 10 ^ MOST_DIGITS = omega (arith, h.clauses_fit) in
    let small : formula.vars < 10 ^ MOST_DIGITS = omega (arith, h.vars_fit) in
    lines_of-header formula (flat_map clause_text formula.clauses) small few
    ∙ ap (λ (lines : List (List ℕ)). header_line formula ∷ lines) (lines_of-clauses formula.vars formula.clauses h.vars_fit h.within)

-- the text of a formula writes the formula
pub dimacs-dimacs_text : (formula : Cnf) → IsFormula formula.vars formula.clauses → dimacs (dimacs_text formula) ≡ Ok formula
dimacs-dimacs_text formula h =
    ap (λ lines. formula_of_lines (counted_from 1 lines)) (lines_of-formula formula h)
    ∙ rw (header_of-printed formula h, clauses_in-clauses formula.vars 2 formula.clauses h.vars_fit h.within, eq-eqb (length formula.clauses) (length formula.clauses) refl) refl
