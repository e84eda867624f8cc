-- The lines of a printed formula, and their words.
use Rattle.std.proofs.Common.{◌≡◌, ℕ, ◌+◌, ◌^◌, ◌<◌, ◌≤◌, true, leb, leb-true, List, [], ◌∷◌, ◌++◌, length, map, refl, ap, ◌∙◌, append_assoc, arith}
use Rattle.std.specs.Prelude.{ℤ, codes}
use Rattle.std.specs.List.{list_all, flat_map}
use Rattle.std.specs.Fmt.{decimal, signed_decimal}
use Rattle.std.proofs.lemmas.Bool.{and_parts}
use Rattle.std.proofs.lemmas.List.{append-nil}
use Rattle.std.proofs.lemmas.List.Folds.{list_all-append}
use Rattle.lls_text.specs.Lines.{lines_of}
use Rattle.lls_text.specs.Words.{PlacedWord, words_from}
use Rattle.lls_text.proofs.Printed.{is_printed, lines_of-printed, words_from-front, words_from-blank}
use Rattle.lls_text.proofs.NumberBytes.{is_number_byte, natural_bytes, solid_bytes, printed_bytes, is_blank_line-number, begins_with-number}
use Rattle.lls_lit.specs.Formula.{Clause, Cnf, is_literal_of, is_within}
use Rattle.lls_lit.specs.Literal.{variable_of}
use Rattle.lls_lit.specs.declared.var.TheConstants.Var.{MOST}
use Rattle.lls_cnf.specs.declared.number.TheConstants.{MOST_DIGITS}
use Rattle.lls_cnf.specs.Dimacs.{comment, is_counted, texts_of}
use Rattle.lls_cnf.specs.DimacsText.{header_text, clause_text}
use Rattle.lls_cnf.proofs.PrintedWords.{literal_bytes}

abbrev pub clause_line : Clause → List ℕ
clause_line clause = flat_map (λ l. signed_decimal l ++ codes " ") clause ++ codes "0"

abbrev pub header_line : Cnf → List ℕ
header_line formula = codes "p cnf " ++ decimal formula.vars ++ codes " " ++ decimal (length formula.clauses)

pub literal_fits : (vars : ℕ) (l : ℤ) → vars ≤ MOST → is_literal_of vars l ≡ true → variable_of l ≤ MOST
literal_fits vars l fits within =
    let parts = and_parts (leb 1 (variable_of l)) (leb (variable_of l) vars) within in
    omega (arith, leb-true (variable_of l) vars parts.1, fits)

-- a clause's line begins with its first literal
clause_line-cons : (l : ℤ) (ls : List ℤ) → clause_line (l ∷ ls) ≡ signed_decimal l ++ 32 ∷ clause_line ls
clause_line-cons l ls =
    rw (append_assoc (signed_decimal l ++ 32 ∷ []) (flat_map (λ m. signed_decimal m ++ codes " ") ls) (48 ∷ []), append_assoc (signed_decimal l) (32 ∷ []) (flat_map (λ m. signed_decimal m ++ codes " ") ls ++ 48 ∷ [])) refl

clause_line_printed : (vars : ℕ) (clause : Clause) → vars ≤ MOST → is_within vars clause ≡ true → list_all is_printed (clause_line clause) ≡ true
clause_line_printed vars [] fits within = refl
clause_line_printed vars (l ∷ ls) fits within =
    let parts = and_parts (is_literal_of vars l) (is_within vars ls) within in
    let bytes = literal_bytes l (literal_fits vars l fits parts.0) in
    rw (clause_line-cons l ls, list_all-append is_printed (signed_decimal l) (32 ∷ clause_line ls), printed_bytes (signed_decimal l) bytes.1, clause_line_printed vars ls fits parts.1) refl

clause_text-line : (clause : Clause) (rest : List ℕ) → clause_text clause ++ rest ≡ clause_line clause ++ 10 ∷ rest
clause_text-line clause rest =
    let front = flat_map (λ l. signed_decimal l ++ codes " ") clause in
    rw (append_assoc front (48 ∷ 10 ∷ []) rest, append_assoc front (48 ∷ []) (10 ∷ rest)) refl

pub lines_of-clauses : (vars : ℕ) (clauses : List Clause) → vars ≤ MOST → list_all (is_within vars) clauses ≡ true → lines_of (flat_map clause_text clauses) ≡ map clause_line clauses
lines_of-clauses vars [] fits within = refl
lines_of-clauses vars (clause ∷ clauses) fits within =
    let parts = and_parts (is_within vars clause) (list_all (is_within vars) clauses) within in
    rw (clause_text-line clause (flat_map clause_text clauses), lines_of-printed (clause_line clause) (flat_map clause_text clauses) (clause_line_printed vars clause fits parts.0))
    (ap (λ (lines : List (List ℕ)). clause_line clause ∷ lines) (lines_of-clauses vars clauses fits parts.1))

-- a line that begins with a printed number counts
is_counted-number : (word rest : List ℕ) → 0 < length word → list_all is_number_byte word ≡ true → is_counted (word ++ rest) ≡ true
is_counted-number word rest some bytes = rw (is_blank_line-number word rest some bytes, begins_with-number comment word rest refl some bytes) refl

pub is_counted-clause : (vars : ℕ) (clause : Clause) → vars ≤ MOST → is_within vars clause ≡ true → is_counted (clause_line clause) ≡ true
is_counted-clause vars [] fits within = refl
is_counted-clause vars (l ∷ ls) fits within =
    let parts = and_parts (is_literal_of vars l) (is_within vars ls) within in
    let bytes = literal_bytes l (literal_fits vars l fits parts.0) in
    rw (clause_line-cons l ls) (is_counted-number (signed_decimal l) (32 ∷ clause_line ls) bytes.0 bytes.1)

-- a printed number and a space are one word
word_first : (column : ℕ) (word rest : List ℕ) → 0 < length word → list_all is_number_byte word ≡ true
    → map (λ (w : PlacedWord). w.text) (words_from column (word ++ 32 ∷ rest)) ≡ word ∷ map (λ (w : PlacedWord). w.text) (words_from (column + length word + 1) rest)
word_first column word rest some bytes =
    ap (map (λ (w : PlacedWord). w.text)) (words_from-front column word (32 ∷ rest) some (solid_bytes word bytes) refl)
    ∙ rw (words_from-blank (column + length word) 32 rest refl) refl

word_last : (column : ℕ) (word : List ℕ) → 0 < length word → list_all is_number_byte word ≡ true → map (λ (w : PlacedWord). w.text) (words_from column word) ≡ word ∷ []
word_last column word some bytes =
    rw (append-nil word) at (ap (map (λ (w : PlacedWord). w.text)) (words_from-front column word [] some (solid_bytes word bytes) refl))

-- the words of a clause's line
texts-clause : (vars column : ℕ) (clause : Clause) → vars ≤ MOST → is_within vars clause ≡ true
    → map (λ (w : PlacedWord). w.text) (words_from column (clause_line clause)) ≡ map signed_decimal clause ++ (48 ∷ []) ∷ []
texts-clause vars column [] fits within = refl
texts-clause vars column (l ∷ ls) fits within =
    let parts = and_parts (is_literal_of vars l) (is_within vars ls) within in
    let bytes = literal_bytes l (literal_fits vars l fits parts.0) in
    rw (clause_line-cons l ls, word_first column (signed_decimal l) (clause_line ls) bytes.0 bytes.1)
    (ap (λ (texts : List (List ℕ)). signed_decimal l ∷ texts) (texts-clause vars (column + length (signed_decimal l) + 1) ls fits parts.1))

pub texts_of-clause : (vars : ℕ) (clause : Clause) → vars ≤ MOST → is_within vars clause ≡ true → texts_of (clause_line clause) ≡ map signed_decimal clause ++ codes "0" ∷ []
texts_of-clause vars clause fits within = texts-clause vars 1 clause fits within

-- the words of the header
pub texts_of-header : (formula : Cnf) → formula.vars < 10 ^ MOST_DIGITS → length formula.clauses < 10 ^ MOST_DIGITS
    → texts_of (header_line formula) ≡ codes "p" ∷ codes "cnf" ∷ decimal formula.vars ∷ decimal (length formula.clauses) ∷ []
texts_of-header formula small few =
    let vars = natural_bytes formula.vars (omega arith) in
    let many = natural_bytes (length formula.clauses) (omega arith) in
    let last = word_last (7 + length (decimal formula.vars) + 1) (decimal (length formula.clauses)) many.0 many.1 in
    let numbers = word_first 7 (decimal formula.vars) (decimal (length formula.clauses)) vars.0 vars.1 in
    rw (append_assoc (decimal formula.vars) (32 ∷ []) (decimal (length formula.clauses)))
    (ap (λ (texts : List (List ℕ)). codes "p" ∷ codes "cnf" ∷ texts) (numbers ∙ ap (λ (texts : List (List ℕ)). decimal formula.vars ∷ texts) last))

header_printed : (formula : Cnf) → formula.vars < 10 ^ MOST_DIGITS → length formula.clauses < 10 ^ MOST_DIGITS → list_all is_printed (header_line formula) ≡ true
header_printed formula small few =
    let vars = printed_bytes (decimal formula.vars) (natural_bytes formula.vars (omega arith)).1 in
    let many = printed_bytes (decimal (length formula.clauses)) (natural_bytes (length formula.clauses) (omega arith)).1 in
    list_all-append is_printed (decimal formula.vars ++ 32 ∷ []) (decimal (length formula.clauses))
    ∙ rw (list_all-append is_printed (decimal formula.vars) (32 ∷ []), vars, many) refl

pub lines_of-header : (formula : Cnf) (rest : List ℕ) → formula.vars < 10 ^ MOST_DIGITS → length formula.clauses < 10 ^ MOST_DIGITS → lines_of (header_text formula ++ rest) ≡ header_line formula ∷ lines_of rest
lines_of-header formula rest small few =
    ap lines_of (append_assoc (header_line formula) (10 ∷ []) rest) ∙ lines_of-printed (header_line formula) rest (header_printed formula small few)
