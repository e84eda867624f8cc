-- What every row has: a cell at least, and names spelled as names.
use Rattle.std.proofs.Common.{◌≡◌, ◌≤◌, ℕ, ◌+◌, ◌-◌, leb, eqb, Bool, true, false, cond, not, ◌&&◌, List, [], ◌∷◌, length, take, Option, None, Some, Result, Ok, Err, refl, sym, ap, ◌∙◌, arith}
use Rattle.std.specs.Prelude.{codes}
use Rattle.std.specs.Option.{option_map}
use Rattle.std.specs.List.{list_all, position}
use Rattle.std.specs.Char.{is_ascii}
use Rattle.std.proofs.lemmas.Bool.{and_parts, leb-true, le-leb}
use Rattle.lls_text.specs.Lines.{is_blank_line}
use Rattle.lls_text.specs.Words.{is_blank}
use Rattle.lls_search_file.specs.declared.posed_fault.PosedFault.{PosedFault}
use Rattle.lls_search_file.specs.Posed.{is_name, same_text}
use Rattle.lls_search_file.specs.Words.{minus_byte, Said, dead, live, free, named, negated, Word, Piece, word, comma, said_of, name_said_of, negated_name, word_of, has_mark, marked, pieces_of, before_word, begins_in_word, is_comma, cells_read, cell_before, row_of, ascii_or}
use Rattle.lls_search_file.specs.Kept.{is_spelled, is_said_spelled}

spelled_said : Option Said → Bool
spelled_said None = true
spelled_said (Some says) = is_said_spelled says

chosen_said : (b : Bool) (x y : Option Said) → (b ≡ true → spelled_said x ≡ true) → spelled_said y ≡ true → spelled_said (cond b x y) ≡ true
chosen_said true x y left right = left refl
chosen_said false x y left right = right

negated-spelled : (body : List ℕ) → spelled_said (negated_name body) ≡ true
unfolding spelled_said
negated-spelled [] = refl
negated-spelled (b ∷ name) = chosen_said (eqb b minus_byte && is_name name) (Some (negated name)) None (λ e. (and_parts (eqb b minus_byte) (is_name name) e).1) refl

said_of-spelled : (body : List ℕ) → spelled_said (said_of body) ≡ true
unfolding spelled_said
said_of-spelled body =
    chosen_said (same_text body (codes "0")) (Some dead) _ (λ _. refl)
    (chosen_said (same_text body (codes "1")) (Some live) _ (λ _. refl)
    (chosen_said (same_text body (codes "*")) (Some free) (name_said_of body) (λ _. refl)
    (chosen_said (is_name body) (Some (named body)) (negated_name body) (λ e. e) (negated-spelled body))))

spelled_word : Option Word → Bool
spelled_word None = true
spelled_word (Some cell) = is_spelled cell

marked-spelled : (mark : Bool) (says : Option Said) → spelled_said says ≡ true → spelled_word (option_map (marked mark) says) ≡ true
unfolding spelled_said spelled_word
marked-spelled mark None e = refl
marked-spelled mark (Some says) e = e

word_of-spelled : (bytes : List ℕ) → spelled_word (word_of bytes) ≡ true
word_of-spelled bytes =
    elim (has_mark bytes) as (λ b. spelled_word (cond b (option_map (marked true) (said_of (take (length bytes - 1) bytes))) (option_map (marked false) (said_of bytes))) ≡ true) [
      | true ↦ marked-spelled true (said_of (take (length bytes - 1) bytes)) (said_of-spelled (take (length bytes - 1) bytes))
      | false ↦ marked-spelled false (said_of bytes) (said_of-spelled bytes)
    ]

-- the cells that were read are spelled, and there is one
spelled_read : Result (List Word) PosedFault → Bool
spelled_read (Ok cells) = list_all is_spelled cells
spelled_read (Err fault) = true

some_read : Result (List Word) PosedFault → Bool
some_read (Ok cells) = leb 1 (length cells)
some_read (Err fault) = true

cell_before-spelled : (line column : ℕ) (cell : Option Word) (read : Result (List Word) PosedFault) → spelled_word cell ≡ true → spelled_read read ≡ true → spelled_read (cell_before line column cell read) ≡ true
unfolding spelled_word spelled_read
cell_before-spelled line column None read e f = refl
cell_before-spelled line column (Some cell) (Ok cells) e f = rw (e, f) refl
cell_before-spelled line column (Some cell) (Err fault) e f = refl

cells_read-spelled : (line : ℕ) (after_comma : Bool) (pieces : List Piece) → spelled_read (cells_read line after_comma pieces) ≡ true
unfolding spelled_read
cells_read-spelled line after_comma [] = refl
cells_read-spelled line true (comma column ∷ pieces) = refl
cells_read-spelled line false (comma column ∷ pieces) = cells_read-spelled line true pieces
cells_read-spelled line after_comma (word column bytes ∷ pieces) =
    cell_before-spelled line column (word_of bytes) (cells_read line false pieces) (word_of-spelled bytes) (cells_read-spelled line false pieces)

cell_before-some : (line column : ℕ) (cell : Option Word) (read : Result (List Word) PosedFault) → some_read (cell_before line column cell read) ≡ true
unfolding some_read
cell_before-some line column None read = refl
cell_before-some line column (Some cell) (Ok cells) = le-leb 1 (length (cell ∷ cells)) (omega arith)
cell_before-some line column (Some cell) (Err fault) = refl

before_word-some : (line column b : ℕ) (pieces : List Piece) → some_read (cells_read line true (before_word column b pieces)) ≡ true
before_word-some line column b [] = cell_before-some line column (word_of (b ∷ [])) _
before_word-some line column b (comma c ∷ pieces) = cell_before-some line column (word_of (b ∷ [])) _
before_word-some line column b (word c bytes ∷ pieces) = cell_before-some line column (word_of (b ∷ bytes)) _

cells_read-some : (line column : ℕ) (bytes : List ℕ) → list_all is_blank bytes ≡ false → some_read (cells_read line true (pieces_of column bytes)) ≡ true
unfolding some_read
cells_read-some line column [] e = cc
cells_read-some line column (b ∷ bytes) e =
    let rest = pieces_of (column + 1) bytes in
    (elim (is_blank b) as (λ v. (v && list_all is_blank bytes) ≡ false
    → some_read (cells_read line true (cond v rest (cond (is_comma b) (comma column ∷ rest) (cond (begins_in_word bytes) (before_word column b rest) (word column (b ∷ []) ∷ rest))))) ≡ true) [
      | true ↦ λ e. cells_read-some line (column + 1) bytes e
      | false ↦ λ e.
          elim (is_comma b) as (λ v. some_read (cells_read line true (cond v (comma column ∷ rest) (cond (begins_in_word bytes) (before_word column b rest) (word column (b ∷ []) ∷ rest)))) ≡ true) [
            | true ↦ refl
            | false ↦ elim (begins_in_word bytes) as (λ v. some_read (cells_read line true (cond v (before_word column b rest) (word column (b ∷ []) ∷ rest))) ≡ true) [
              | true ↦ before_word-some line column b rest
              | false ↦ cell_before-some line column (word_of (b ∷ [])) (cells_read line false rest)
            ]
          ]
    ]) e

ascii_or-holds : (test : Result (List Word) PosedFault → Bool) → ((fault : PosedFault) → test (Err fault) ≡ true) → (line : ℕ) (place : Option ℕ) (read : Result (List Word) PosedFault)
    → test read ≡ true → test (ascii_or line place read) ≡ true
ascii_or-holds test on_err line None read e = e
ascii_or-holds test on_err line (Some index) read e = on_err _

pub row-spelled : (line : ℕ) (bytes : List ℕ) (cells : List Word) → row_of line bytes ≡ Ok cells → list_all is_spelled cells ≡ true
unfolding spelled_read
row-spelled line bytes cells e =
    sym (ap spelled_read e) ∙ ascii_or-holds spelled_read (λ fault. refl) line (position (λ b. not (is_ascii b)) bytes) (cells_read line true (pieces_of 1 bytes)) (cells_read-spelled line true (pieces_of 1 bytes))

pub row-some : (line : ℕ) (bytes : List ℕ) (cells : List Word) → is_blank_line bytes ≡ false → row_of line bytes ≡ Ok cells → 1 ≤ length cells
unfolding some_read
row-some line bytes cells solid e =
    leb-true 1 (length cells)
    (sym (ap some_read e) ∙ ascii_or-holds some_read (λ fault. refl) line (position (λ b. not (is_ascii b)) bytes) (cells_read line true (pieces_of 1 bytes)) (cells_read-some line 1 bytes solid))
