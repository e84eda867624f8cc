-- Lines and words that were printed are found again.
use Rattle.std.proofs.Common.{◌≡◌, ◌<◌, ◌+◌, ◌-◌, ℕ, zero, suc, Bool, true, false, not, eqb, eqb-true, leb, List, [], ◌∷◌, ◌++◌, length, get_or, map, refl, sym, ap, ◌∙◌, arith}
use Rattle.std.specs.List.{list_all, onto_first}
use Rattle.std.specs.Str.Lines.{strip_carriage_return}
use Rattle.std.proofs.lemmas.Bool.{and_parts, and_from, not-true}
use Rattle.std.proofs.Math.Seq.{take-append_seam, drop-append_seam}
use Rattle.lls_text.specs.Lines.{cut_lines, lines_of, is_line_feed, line_feed, carriage_return}
use Rattle.lls_text.specs.Words.{is_blank, is_solid, begins_solid, words_from}
use Rattle.lls_text.proofs.Fronts.{solids, solids-none, words_from-word}

-- a line feed behind bytes without one ends the first line
pub cut_lines-front : (front rest : List ℕ) → list_all (λ b. not (is_line_feed b)) front ≡ true → cut_lines (front ++ line_feed ∷ rest) ≡ front ∷ cut_lines rest
cut_lines-front [] rest none = refl
cut_lines-front (b ∷ bs) rest none =
    let parts = and_parts (not (is_line_feed b)) (list_all (λ c. not (is_line_feed c)) bs) none in
    rw (not-true (is_line_feed b) parts.0) (ap (onto_first b) (cut_lines-front bs rest parts.1))

-- the same, where no CR stands before the line feed
pub lines_of-front : (front rest : List ℕ) → list_all (λ b. not (is_line_feed b)) front ≡ true → strip_carriage_return front ≡ front → lines_of (front ++ line_feed ∷ rest) ≡ front ∷ lines_of rest
lines_of-front front rest none whole = ap (map strip_carriage_return) (cut_lines-front front rest none) ∙ rw whole refl

-- what passes a test passes a weaker one
pub list_all-weaker : (p q : ℕ → Bool) → ((b : ℕ) → p b ≡ true → q b ≡ true) → (bytes : List ℕ) → list_all p bytes ≡ true → list_all q bytes ≡ true
list_all-weaker p q weaker [] e = refl
list_all-weaker p q weaker (b ∷ bytes) e =
    let parts = and_parts (p b) (list_all p bytes) e in
    and_from (q b) (list_all q bytes) (weaker b parts.0) (list_all-weaker p q weaker bytes parts.1)

-- a byte that passes a test isn't one that doesn't
pub passes-apart : (p : ℕ → Bool) (b other : ℕ) → p b ≡ true → p other ≡ false → eqb b other ≡ false
passes-apart p b other passes fails = elim (eqb b other) as (λ v. eqb b other ≡ v → v ≡ false) [
  | true ↦ λ same. let clash : true ≡ false = sym passes ∙ ap p (eqb-true b other same) ∙ fails in absurd cc
  | false ↦ λ _. refl
] refl

no_return : (p : ℕ → Bool) (line : List ℕ) (i : ℕ) → p carriage_return ≡ false → list_all p line ≡ true → eqb (get_or line i 0) carriage_return ≡ false
no_return p [] i fails all = refl
no_return p (b ∷ line) zero fails all = passes-apart p b carriage_return (and_parts (p b) (list_all p line) all).0 fails
no_return p (b ∷ line) (suc i) fails all = no_return p line i fails (and_parts (p b) (list_all p line) all).1

no_line_feed : (p : ℕ → Bool) → p line_feed ≡ false → (b : ℕ) → p b ≡ true → not (is_line_feed b) ≡ true
no_line_feed p fails b passes = rw (passes-apart p b line_feed passes fails) refl

-- bytes of which none is LF or CR are a line
pub lines_of-line : (p : ℕ → Bool) (line rest : List ℕ) → p line_feed ≡ false → p carriage_return ≡ false → list_all p line ≡ true → lines_of (line ++ line_feed ∷ rest) ≡ line ∷ lines_of rest
lines_of-line p line rest feed return all =
    lines_of-front line rest (list_all-weaker p (λ b. not (is_line_feed b)) (no_line_feed p feed) line all)
    (rw (no_return p line (length line - 1) return all) refl)

-- a byte that is printed in lines: none of those below the space
abbrev pub is_printed : ℕ → Bool
is_printed b = leb 32 b

pub lines_of-printed : (line rest : List ℕ) → list_all is_printed line ≡ true → lines_of (line ++ line_feed ∷ rest) ≡ line ∷ lines_of rest
lines_of-printed line rest all = lines_of-line is_printed line rest refl refl all

-- bytes that aren't blanks, before a blank or the end
pub solids-front : (word rest : List ℕ) → list_all is_solid word ≡ true → begins_solid rest ≡ false → solids (word ++ rest) ≡ length word
solids-front [] rest solid end = solids-none rest end
solids-front (b ∷ bs) rest solid end =
    let parts = and_parts (is_solid b) (list_all is_solid bs) solid in
    let next : 1 + length bs ≡ suc (length bs) = omega arith in
    rw (not-true (is_blank b) parts.0, solids-front bs rest parts.1 end) next

-- a word before a blank or the end is the first
pub words_from-front : (column : ℕ) (word rest : List ℕ) → 0 < length word → list_all is_solid word ≡ true → begins_solid rest ≡ false
    → words_from column (word ++ rest) ≡ record { column = column; text = word } ∷ words_from (column + length word) rest
words_from-front column [] rest some solid end = absurd (omega arith)
words_from-front column (b ∷ bs) rest some solid end =
    let parts = and_parts (is_solid b) (list_all is_solid bs) solid in
    words_from-word column ((b ∷ bs) ++ rest) parts.0 ∙
    rw (solids-front (b ∷ bs) rest solid end, take-append_seam (b ∷ bs) rest, drop-append_seam (b ∷ bs) rest) refl

-- a blank is no word
pub words_from-blank : (column b : ℕ) (rest : List ℕ) → is_blank b ≡ true → words_from column (b ∷ rest) ≡ words_from (column + 1) rest
words_from-blank column b rest blank = rw blank refl
