-- The words of cells as they are printed, and what they read as.
use Rattle.std.proofs.Common.{◌≡◌, ◌<◌, ◌≤◌, ℕ, zero, suc, ◌-◌, leb, eqb, Bool, true, false, cond, not, ◌&&◌, ◌||◌, List, [], ◌∷◌, ◌++◌, length, take, get_or, Some, refl, ◌∙◌, arith, length-append, lit<}
use Rattle.std.specs.List.{list_all}
use Rattle.std.specs.Char.{is_ascii_alphabetic, is_ascii_alphanumeric}
use Rattle.std.proofs.lemmas.Bool.{and_parts, and_from, leb-true, le-leb, ne_eqb}
use Rattle.std.proofs.lemmas.List.Folds.{list_all-append}
use Rattle.std.proofs.Math.Seq.{get_or-append_seam, take-append_seam}
use Rattle.lls_search_file.specs.declared.cell.Cell.{Cell}
use Rattle.lls_search_file.specs.declared.cell.Kind.{Kind}
use Rattle.lls_search_file.specs.declared.cell.Kind.TheVariants.{Dead, Live, Free, Named, Negated}
use Rattle.lls_search_file.specs.declared.posed.TheConstants.Names.{MOST_BYTES}
use Rattle.lls_search_file.specs.Posed.{is_name}
use Rattle.lls_search_file.specs.Words.{comma_byte, mark_byte, named, said_of, word_of}
use Rattle.lls_search_file.specs.Kept.{said_in, word_in, is_spelled, is_said_spelled}
use Rattle.lls_search_file.specs.Printing.{word_text, body_text}

-- a byte of a word without a mark: a letter, a digit, `*` or `-`
abbrev pub is_body_byte : ℕ → Bool
is_body_byte b = leb 42 b && (leb b 122 && not (eqb b comma_byte))

-- a byte of a word
abbrev pub is_word_byte : ℕ → Bool
is_word_byte b = leb mark_byte b && (leb b 122 && not (eqb b comma_byte))

in_range : (low b : ℕ) → low ≤ b → b ≤ 122 → (eqb b comma_byte ≡ false) → (leb low b && (leb b 122 && not (eqb b comma_byte))) ≡ true
in_range low b from to other = rw (le-leb low b from, le-leb b 122 to, other) refl

either_le : (x y : Bool) (low high b : ℕ) → (x ≡ true → (low ≤ b) × (b ≤ high)) → (y ≡ true → (low ≤ b) × (b ≤ high)) → (x || y) ≡ true → (low ≤ b) × (b ≤ high)
either_le true y low high b left right e = left refl
either_le false y low high b left right e = right e

between : (low high b : ℕ) → (leb low b && leb b high) ≡ true → (low ≤ b) × (b ≤ high)
between low high b e = let parts = and_parts (leb low b) (leb b high) e in (leb-true low b parts.0, leb-true b high parts.1)

pub letter-between : (b : ℕ) → is_ascii_alphabetic b ≡ true → (65 ≤ b) × (b ≤ 122)
letter-between b e =
    either_le (leb 65 b && leb b 90) (leb 97 b && leb b 122) 65 122 b
    (λ t. let range = between 65 90 b t in (range.0, omega (arith, range.1)))
    (λ t. let range = between 97 122 b t in (omega (arith, range.0), range.1)) e

letter_or_digit-between : (b : ℕ) → is_ascii_alphanumeric b ≡ true → (48 ≤ b) × (b ≤ 122)
letter_or_digit-between b e =
    either_le ((leb 48 b && leb b 57) || (leb 65 b && leb b 90)) (leb 97 b && leb b 122) 48 122 b
    (λ t. either_le (leb 48 b && leb b 57) (leb 65 b && leb b 90) 48 122 b
    (λ d. let range = between 48 57 b d in (range.0, omega (arith, range.1)))
    (λ u. let range = between 65 90 b u in (omega (arith, range.0), omega (arith, range.1))) t)
    (λ t. let range = between 97 122 b t in (omega (arith, range.0), range.1)) e

body_byte : (b : ℕ) → is_ascii_alphanumeric b ≡ true → is_body_byte b ≡ true
body_byte b e =
    let range = letter_or_digit-between b e in
    in_range 42 b (omega (arith, range.0)) range.1 (ne_eqb b comma_byte (λ same. absurd (omega (arith, range.0, same))))

all_weaker : (p q : ℕ → Bool) → ((b : ℕ) → p b ≡ true → q b ≡ true) → (bytes : List ℕ) → list_all p bytes ≡ true → list_all q bytes ≡ true
all_weaker p q weaker [] e = refl
all_weaker p q weaker (b ∷ bytes) e =
    let parts = and_parts (p b) (list_all p bytes) e in
    and_from (q b) (list_all q bytes) (weaker b parts.0) (all_weaker p q weaker bytes parts.1)

name_letters : (b : ℕ) (bytes : List ℕ) → is_name (b ∷ bytes) ≡ true → (is_ascii_alphabetic b ≡ true) × (list_all is_ascii_alphanumeric bytes ≡ true)
name_letters b bytes e =
    and_parts (is_ascii_alphabetic b) (list_all is_ascii_alphanumeric bytes) (and_parts (is_ascii_alphabetic b && list_all is_ascii_alphanumeric bytes) (leb (length (b ∷ bytes)) MOST_BYTES) e).0

name_body : (name : List ℕ) → is_name name ≡ true → list_all is_body_byte name ≡ true
name_body [] e = refl
name_body (b ∷ bytes) e =
    let parts = name_letters b bytes e in
    let range = letter-between b parts.0 in
    and_from (is_body_byte b) (list_all is_body_byte bytes)
    (in_range 42 b (omega (arith, range.0)) range.1 (ne_eqb b comma_byte (λ same. absurd (omega (arith, range.0, same)))))
    (all_weaker is_ascii_alphanumeric is_body_byte body_byte bytes parts.1)

body_all : (names : List (List ℕ)) (kind : Kind) → is_said_spelled (said_in names kind) ≡ true → list_all is_body_byte (body_text names kind) ≡ true
body_all names Dead e = refl
body_all names Live e = refl
body_all names Free e = refl
body_all names (Named n) e = name_body (get_or names n []) e
body_all names (Negated n) e = name_body (get_or names n []) e

weaker_byte : (b : ℕ) → is_body_byte b ≡ true → is_word_byte b ≡ true
weaker_byte b e =
    let parts = and_parts (leb 42 b) (leb b 122 && not (eqb b comma_byte)) e in
    and_from (leb mark_byte b) (leb b 122 && not (eqb b comma_byte)) (le-leb mark_byte b (omega (arith, leb-true 42 b parts.0))) parts.1

-- the bytes of a printed word
pub word_all : (names : List (List ℕ)) (cell : Cell) → is_spelled (word_in names cell) ≡ true → list_all is_word_byte (word_text names cell) ≡ true
word_all names cell e =
    let body = body_text names cell.kind in
    let all : list_all is_word_byte body ≡ true = all_weaker is_body_byte is_word_byte weaker_byte body (body_all names cell.kind e) in
    elim cell.mark as (λ m. list_all is_word_byte (cond m (body ++ mark_byte ∷ []) body) ≡ true) [
      | true ↦ list_all-append is_word_byte body (mark_byte ∷ []) ∙ rw all refl
      | false ↦ all
    ]

-- a printed word isn't empty
some_body : (names : List (List ℕ)) (kind : Kind) → is_said_spelled (said_in names kind) ≡ true → 0 < length (body_text names kind)
some_body names Dead e = lit< tt
some_body names Live e = lit< tt
some_body names Free e = lit< tt
some_body names (Named n) e = some_name (get_or names n []) e
  where
    some_name : (name : List ℕ) → is_name name ≡ true → 0 < length name
    some_name [] e = cc
    some_name (b ∷ bytes) e = omega arith
some_body names (Negated n) e = omega arith

pub some_word : (names : List (List ℕ)) (cell : Cell) → is_spelled (word_in names cell) ≡ true → 0 < length (word_text names cell)
some_word names cell e =
    let body = body_text names cell.kind in
    let some = some_body names cell.kind e in
    elim cell.mark as (λ m. 0 < length (cond m (body ++ mark_byte ∷ []) body)) [
      | true ↦ omega (arith, length-append body (mark_byte ∷ []), some)
      | false ↦ some
    ]

-- what a name reads as, and `-` and a name
name_reads : (name : List ℕ) → is_name name ≡ true → said_of name ≡ Some (named name)
name_reads [] e = cc
name_reads (b ∷ bytes) e =
    let range = letter-between b (name_letters b bytes e).0 in
    let zero_byte = ne_eqb b 48 (λ same. absurd (omega (arith, range.0, same))) in
    let one_byte = ne_eqb b 49 (λ same. absurd (omega (arith, range.0, same))) in
    let star_byte = ne_eqb b 42 (λ same. absurd (omega (arith, range.0, same))) in
    rw (zero_byte, one_byte, star_byte, e) refl

body_reads : (names : List (List ℕ)) (kind : Kind) → is_said_spelled (said_in names kind) ≡ true → said_of (body_text names kind) ≡ Some (said_in names kind)
body_reads names Dead e = refl
body_reads names Live e = refl
body_reads names Free e = refl
body_reads names (Named n) e = name_reads (get_or names n []) e
body_reads names (Negated n) e = rw e refl

-- a word without a mark doesn't end with one
no_mark_at : (body : List ℕ) (i : ℕ) → list_all is_body_byte body ≡ true → eqb (get_or body i 0) mark_byte ≡ false
no_mark_at [] i e = refl
no_mark_at (b ∷ body) zero e =
    let low = leb-true 42 b (and_parts (leb 42 b) (leb b 122 && not (eqb b comma_byte)) (and_parts (is_body_byte b) (list_all is_body_byte body) e).0).0 in
    ne_eqb b mark_byte (λ same. absurd (omega (arith, low, same)))
no_mark_at (b ∷ body) (suc i) e = no_mark_at body i (and_parts (is_body_byte b) (list_all is_body_byte body) e).1

-- a printed word reads as its cell
pub word_reads : (names : List (List ℕ)) (cell : Cell) → is_spelled (word_in names cell) ≡ true → word_of (word_text names cell) ≡ Some (word_in names cell)
word_reads names cell e = by_mark cell.mark
  where
    by_mark : (mark : Bool) → word_of (cond mark (body_text names cell.kind ++ mark_byte ∷ []) (body_text names cell.kind)) ≡ Some (record { mark = mark; says = said_in names cell.kind })
    by_mark true =
        let body = body_text names cell.kind in
        let place : length (body ++ mark_byte ∷ []) - 1 ≡ length body = omega (arith, length-append body (mark_byte ∷ [])) in
        let front : take (length body) (body ++ mark_byte ∷ []) ≡ body = take-append_seam body (mark_byte ∷ []) in
        rw (place, get_or-append_seam body mark_byte [] 0, front, body_reads names cell.kind e) refl
    by_mark false =
        let body = body_text names cell.kind in
        rw (no_mark_at body (length body - 1) (body_all names cell.kind e), body_reads names cell.kind e) refl
