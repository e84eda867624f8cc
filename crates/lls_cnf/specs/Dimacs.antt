-- Texts of formulas in DIMACS CNF, by lines and words.
use Rattle.std.specs.Prelude.{ℕ, zero, suc, ℤ, pos, negsuc, Bool, true, false, not, ◌&&◌, List, [], ◌∷◌, length, map, filter, slice_get, Option, Some, None, Result, Ok, Err, codes, if◌then◌else◌, ◌==◌, nat_le}
use Rattle.std.specs.List.{filter_map, flat_map, enumerate_from, onto_first}
use Rattle.std.specs.Str.{bytes_eq}
use Rattle.lls_base.specs.Results.{and_then}
use Rattle.lls_text.specs.Lines.{lines_of, is_blank_line, begins_with}
use Rattle.lls_text.specs.Words.{words_of}
use Rattle.lls_lit.specs.Literal.{variable_of}
use Rattle.lls_lit.specs.Formula.{Clause, Cnf}
use Rattle.lls_lit.specs.declared.var.TheConstants.Var.{MOST}
use Rattle.lls_cnf.specs.declared.dimacs_fault.DimacsFault.{DimacsFault}
use Rattle.lls_cnf.specs.declared.dimacs_fault.DimacsFault.TheVariants.{NoHeader, BadHeader, BadWord, LiteralRange, Unended, ClauseCount, TooManyVariables, Percent}
use Rattle.lls_cnf.specs.declared.header.Header.{Header}
use Rattle.lls_cnf.specs.Number.{natural_number, whole_number}

-- the byte c, with which a comment begins
abbrev pub comment : ℕ
comment = 99

-- the byte %
abbrev pub percent : ℕ
percent = 37

-- a line or a word, with the number of its line, from 1
abbrev pub Numbered : Type 0
Numbered = ℕ × List ℕ

-- a line that is neither blank nor a comment
abbrev pub is_counted : List ℕ → Bool
is_counted line = not (is_blank_line line) && not (begins_with comment line)

abbrev pub counted_from : ℕ → List (List ℕ) → List Numbered
counted_from number lines = filter (λ line. is_counted line.1) (enumerate_from number lines)

-- the lines that count: the first is the header
abbrev pub counted_lines : List ℕ → List Numbered
counted_lines text = counted_from 1 (lines_of text)

abbrev pub texts_of : List ℕ → List (List ℕ)
texts_of line = map (λ word. word.text) (words_of line)

abbrev pub words_on : Numbered → List Numbered
words_on line = map (λ word. (line.0, word.text)) (words_of line.1)

abbrev pub both_numbers : Option ℕ → Option ℕ → Option Header
both_numbers (Some vars) (Some clauses) = Some (record { vars = vars; clauses = clauses })
both_numbers (Some vars) None = None
both_numbers None clauses = None

-- what stands behind the word p of a header: cnf and two numbers
abbrev pub declared : List (List ℕ) → Option Header
declared (cnf ∷ vars ∷ clauses ∷ []) =
    if bytes_eq cnf (codes "cnf") then both_numbers (natural_number vars) (natural_number clauses) else None
declared words = None

abbrev pub fitting : ℕ → Option Header → Result Header DimacsFault
fitting line None = Err (BadHeader line)
fitting line (Some header) = if nat_le header.vars MOST then Ok header else Err (TooManyVariables header.vars)

abbrev pub header_of_texts : ℕ → List (List ℕ) → Result Header DimacsFault
header_of_texts line [] = Err NoHeader
header_of_texts line (word ∷ words) = if bytes_eq word (codes "p") then fitting line (declared words) else Err NoHeader

abbrev pub header_of : Numbered → Result Header DimacsFault
header_of line = header_of_texts line.0 (texts_of line.1)

abbrev pub begins_percent : List ℕ → Bool
begins_percent [] = false
begins_percent (b ∷ bs) = b == percent

abbrev pub number_fault : ℕ → ℕ → Option ℤ → Option DimacsFault
number_fault vars line None = Some (BadWord line)
number_fault vars line (Some number) = if nat_le (variable_of number) vars then None else Some (LiteralRange line number)

-- what is wrong with a word behind the header
abbrev pub word_fault : ℕ → Numbered → Option DimacsFault
word_fault vars word = if begins_percent word.1 then Some (Percent word.0) else number_fault vars word.0 (whole_number word.1)

-- what is wrong with the first word with a fault
abbrev pub first_fault : ℕ → List Numbered → Option DimacsFault
first_fault vars words = slice_get (filter_map (word_fault vars) words) 0

abbrev pub numbers_of : List Numbered → List ℤ
numbers_of words = filter_map (λ word. whole_number word.1) words

abbrev pub is_zero : ℤ → Bool
is_zero (pos zero) = true
is_zero (pos (suc n)) = false
is_zero (negsuc n) = false

-- the last number is zero, or there is none
abbrev pub is_ended : List ℤ → Bool
is_ended [] = true
is_ended (number ∷ []) = is_zero number
is_ended (number ∷ next ∷ numbers) = is_ended (next ∷ numbers)

-- a zero ends a clause
abbrev pub cut_at_zeros : List ℤ → List Clause
cut_at_zeros [] = []
cut_at_zeros (number ∷ numbers) = if is_zero number then [] ∷ cut_at_zeros numbers else onto_first number (cut_at_zeros numbers)

abbrev pub ended_clauses : List ℤ → Result (List Clause) DimacsFault
ended_clauses numbers = if is_ended numbers then Ok (cut_at_zeros numbers) else Err Unended

abbrev pub unless_fault : Option DimacsFault → Result (List Clause) DimacsFault → Result (List Clause) DimacsFault
unless_fault (Some fault) clauses = Err fault
unless_fault None clauses = clauses

-- the clauses that the words behind the header write
abbrev pub clauses_in : ℕ → List Numbered → Result (List Clause) DimacsFault
clauses_in vars words = unless_fault (first_fault vars words) (ended_clauses (numbers_of words))

abbrev pub as_declared : Header → List Clause → Result Cnf DimacsFault
as_declared header clauses =
    if length clauses == header.clauses
    then Ok (record { vars = header.vars; clauses = clauses })
    else Err (ClauseCount header.clauses (length clauses))

abbrev pub formula_of_lines : List Numbered → Result Cnf DimacsFault
formula_of_lines [] = Err NoHeader
formula_of_lines (line ∷ lines) =
    and_then (header_of line) (λ header. and_then (clauses_in header.vars (flat_map words_on lines)) (as_declared header))

-- the formula that a text writes, or the text's first fault
abbrev pub dimacs : List ℕ → Result Cnf DimacsFault
dimacs text = formula_of_lines (counted_lines text)
