-- Reading a row from a place on.
use Rattle.std.proofs.Common.{◌≡◌, ◌<◌, ℕ, suc, ◌+◌, Bool, true, false, cond, not, ◌||◌, List, [], ◌∷◌, ◌++◌, length, take, drop, get_or, Some, None, Result, Ok, Err, refl, sym, ap, ◌∙◌, arith, drop-cons, add-one, append_assoc}
use Rattle.std.specs.List.{prefix_len, list_all}
use Rattle.std.proofs.lemmas.Bool.{and_parts}
use Rattle.std.proofs.Math.Seq.{take-append_seam, drop-append_seam}
use Rattle.std.proofs.lemmas.List.{drop-drop}
use Rattle.lls_base.specs.Results.{and_then}
use Rattle.lls_text.specs.Words.{is_blank}
use Rattle.lls_search_file.specs.declared.posed_fault.PosedFault.{PosedFault}
use Rattle.lls_search_file.specs.declared.posed_fault.PosedFault.TheVariants.{BadCell}
use Rattle.lls_search_file.specs.Words.{Word, word, pieces_of, before_word, begins_in_word, is_of_word, is_comma, cells_read, cell_before, word_of}

none_of_word : (bytes : List ℕ) → begins_in_word bytes ≡ false → prefix_len is_of_word bytes ≡ 0
none_of_word [] e = refl
none_of_word (b ∷ bytes) e = rw e refl

IsWordFirst : ℕ → List ℕ → Type 0
IsWordFirst column bytes = pieces_of column bytes ≡ word column (take (prefix_len is_of_word bytes) bytes) ∷ pieces_of (column + prefix_len is_of_word bytes) (drop (prefix_len is_of_word bytes) bytes)

neither : (x y : Bool) → not (x || y) ≡ true → (x ≡ false) × (y ≡ false)
neither true y e = cc
neither false true e = cc
neither false false e = (refl, refl)

grown : (column b : ℕ) (rest : List ℕ) → ((c : ℕ) → begins_in_word rest ≡ true → IsWordFirst c rest) → (joined : Bool) → begins_in_word rest ≡ joined
    → cond joined (before_word column b (pieces_of (column + 1) rest)) (word column (b ∷ []) ∷ pieces_of (column + 1) rest)
    ≡ word column (take (1 + prefix_len is_of_word rest) (b ∷ rest)) ∷ pieces_of (column + (1 + prefix_len is_of_word rest)) (drop (1 + prefix_len is_of_word rest) (b ∷ rest))
unfolding IsWordFirst
grown column b rest more true e =
    let m = prefix_len is_of_word rest in
    let one : 1 + m ≡ suc m = omega arith in
    let at : column + (1 + m) ≡ (column + 1) + m = omega arith in
    let front : take (1 + m) (b ∷ rest) ≡ b ∷ take m rest = ap (λ k. take k (b ∷ rest)) one in
    let back : drop (1 + m) (b ∷ rest) ≡ drop m rest = ap (λ k. drop k (b ∷ rest)) one in
    ap (before_word column b) (more (column + 1) e) ∙ rw (front, back, at) refl
grown column b rest more false e = rw (none_of_word rest e) refl

first_word : (column : ℕ) (bytes : List ℕ) → begins_in_word bytes ≡ true → IsWordFirst column bytes
unfolding IsWordFirst
first_word column [] e = cc
first_word column (b ∷ rest) e =
    let parts = neither (is_blank b) (is_comma b) e in
    let step = grown column b rest (λ c. first_word c rest) (begins_in_word rest) refl in
    rw (parts.0, parts.1) step

-- what is read from a place on
abbrev pub read_from : ℕ → Bool → ℕ → List ℕ → Result (List Word) PosedFault
read_from line after_comma at bytes = cells_read line after_comma (pieces_of (at + 1) (drop at bytes))

at_place : (at : ℕ) (bytes : List ℕ) → at < length bytes → drop at bytes ≡ get_or bytes at 0 ∷ drop (at + 1) bytes
at_place at bytes within = rw (add-one, drop-cons bytes at 0) refl

pub read_blank : (line at : ℕ) (after_comma : Bool) (bytes : List ℕ) → at < length bytes → is_blank (get_or bytes at 0) ≡ true
    → read_from line after_comma at bytes ≡ read_from line after_comma (at + 1) bytes
read_blank line at after_comma bytes within blank =
    rw (at_place at bytes within, blank) refl

pub read_comma : (line at : ℕ) (after_comma : Bool) (bytes : List ℕ) → at < length bytes → is_blank (get_or bytes at 0) ≡ false → is_comma (get_or bytes at 0) ≡ true
    → read_from line after_comma at bytes ≡ cond after_comma (Err (BadCell line (at + 1))) (read_from line true (at + 1) bytes)
read_comma line at after_comma bytes within blank is_one =
    rw (at_place at bytes within, blank, is_one) refl

pub of_word_at : (at : ℕ) (bytes : List ℕ) → at < length bytes → is_blank (get_or bytes at 0) ≡ false → is_comma (get_or bytes at 0) ≡ false
    → begins_in_word (drop at bytes) ≡ true
of_word_at at bytes within blank is_one = rw (at_place at bytes within, blank, is_one) refl

pub read_solid : (line at : ℕ) (after_comma : Bool) (bytes : List ℕ) → begins_in_word (drop at bytes) ≡ true
    → let n = prefix_len is_of_word (drop at bytes) in
    read_from line after_comma at bytes ≡ cell_before line (at + 1) (word_of (take n (drop at bytes))) (read_from line false (at + n) bytes)
unfolding IsWordFirst
read_solid line at after_comma bytes solid =
    let n = prefix_len is_of_word (drop at bytes) in
    let place : (at + 1) + n ≡ (at + n) + 1 = omega arith in
    ap (cells_read line after_comma) (first_word (at + 1) (drop at bytes) solid) ∙ rw (drop-drop n at bytes, place) refl

-- what was read, put before what is left
abbrev pub after_front : List Word → Result (List Word) PosedFault → Result (List Word) PosedFault
after_front front read = and_then read (λ rest. Ok (front ++ rest))

pub after_front-cell_before : (front : List Word) (line column : ℕ) (cell : Word) (read : Result (List Word) PosedFault)
    → after_front front (cell_before line column (Some cell) read) ≡ after_front (front ++ cell ∷ []) read
after_front-cell_before front line column cell (Ok rest) = ap Ok (sym (append_assoc front (cell ∷ []) rest))
after_front-cell_before front line column cell (Err fault) = refl

pub after_front-none : (read : Result (List Word) PosedFault) → after_front [] read ≡ read
after_front-none (Ok rest) = refl
after_front-none (Err fault) = refl

-- a word that is no cell, and one that is
pub bad_word : (front : List Word) (line at : ℕ) (after_comma : Bool) (bytes : List ℕ) → begins_in_word (drop at bytes) ≡ true
    → word_of (take (prefix_len is_of_word (drop at bytes)) (drop at bytes)) ≡ None
    → after_front front (read_from line after_comma at bytes) ≡ Err (BadCell line (at + 1))
bad_word front line at after_comma bytes solid bad =
    ap (after_front front) (read_solid line at after_comma bytes solid) ∙
    ap (λ cell. after_front front (cell_before line (at + 1) cell (read_from line false (at + prefix_len is_of_word (drop at bytes)) bytes))) bad

pub good_word : (front : List Word) (line at : ℕ) (after_comma : Bool) (bytes : List ℕ) (cell : Word) → begins_in_word (drop at bytes) ≡ true
    → word_of (take (prefix_len is_of_word (drop at bytes)) (drop at bytes)) ≡ Some cell
    → after_front front (read_from line after_comma at bytes) ≡ after_front (front ++ cell ∷ []) (read_from line false (at + prefix_len is_of_word (drop at bytes)) bytes)
good_word front line at after_comma bytes cell solid good =
    let rest = read_from line false (at + prefix_len is_of_word (drop at bytes)) bytes in
    ap (after_front front) (read_solid line at after_comma bytes solid) ∙
    (ap (λ cell. after_front front (cell_before line (at + 1) cell rest)) good ∙ after_front-cell_before front line (at + 1) cell rest)

prefix_front : (front rest : List ℕ) → list_all is_of_word front ≡ true → begins_in_word rest ≡ false → prefix_len is_of_word (front ++ rest) ≡ length front
prefix_front [] rest all end = none_of_word rest end
prefix_front (b ∷ front) rest all end =
    let parts = and_parts (is_of_word b) (list_all is_of_word front) all in
    rw (parts.0, prefix_front front rest parts.1 end) (omega arith)

begins_front : (front rest : List ℕ) → 0 < length front → list_all is_of_word front ≡ true → begins_in_word (front ++ rest) ≡ true
begins_front [] rest some all = absurd (omega arith)
begins_front (b ∷ front) rest some all = (and_parts (is_of_word b) (list_all is_of_word front) all).0

-- a word before what is no part of it
pub word_then : (column : ℕ) (front rest : List ℕ) → 0 < length front → list_all is_of_word front ≡ true → begins_in_word rest ≡ false
    → pieces_of column (front ++ rest) ≡ word column front ∷ pieces_of (column + length front) rest
unfolding IsWordFirst
word_then column front rest some all end =
    let bytes = front ++ rest in
    let count : prefix_len is_of_word bytes ≡ length front = prefix_front front rest all end in
    first_word column bytes (begins_front front rest some all) ∙
    (ap (λ n. word column (take n bytes) ∷ pieces_of (column + n) (drop n bytes)) count ∙
    rw (take-append_seam front rest, drop-append_seam front rest) refl)
