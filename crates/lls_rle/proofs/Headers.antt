-- A printed header is read.
use Rattle.std.proofs.Common.{◌≡◌, ◌<◌, ◌≤◌, ◌+◌, ℕ, true, false, cond, not, List, [], ◌∷◌, ◌++◌, length, drop, None, Some, refl, ap, ◌∙◌, arith, append_assoc}
use Rattle.std.specs.Prelude.{option_and_then, codes, decimal, nat_le, ◌&&◌}
use Rattle.std.specs.List.{list_all, position_or_len}
use Rattle.std.specs.Char.{is_ascii_digit}
use Rattle.std.specs.Cmp.Derive.{both_true}
use Rattle.std.proofs.Math.Seq.{drop-append_seam}
use Rattle.std.proofs.lemmas.Bool.{and_parts}
use Rattle.std.proofs.lemmas.Bool.Decides.{nat_tests}
use Rattle.lls_text.specs.Lines.{lines_of}
use Rattle.lls_text.specs.Words.{is_solid, begins_solid}
use Rattle.lls_text.proofs.Printed.{is_printed, lines_of-printed}
use Rattle.lls_rle.specs.declared.header.HeaderPart.{HeaderPart}
use Rattle.lls_rle.specs.declared.header.HeaderPart.TheVariants.{Sign, Blanks, Number}
use Rattle.lls_rle.specs.Header.{behind_blanks, behind_part, behind_parts, has_tail, is_header}
use Rattle.lls_rle.specs.Tokens.{begins_digit}
use Rattle.lls_rle.specs.Reading.{body_of, tokens_of_lines}
use Rattle.lls_rle.specs.Printing.{header_text}
use Rattle.lls_rle.proofs.FirstTokens.{digits-front, digit_not_blank}
use Rattle.lls_rle.proofs.ItemTexts.{AreDigits, AreDigits-decimal}
use Rattle.lls_rle.proofs.RuleBytes.{joined}

begins_with_digits : (ds rest : List ℕ) → 0 < length ds → list_all is_ascii_digit ds ≡ true → begins_solid (ds ++ rest) ≡ true
begins_with_digits [] rest some all = absurd (omega arith)
begins_with_digits (b ∷ bs) rest some all = ap not (digit_not_blank b (and_parts (is_ascii_digit b) (list_all is_ascii_digit bs) all).0)

no_blanks : (text : List ℕ) → begins_solid text ≡ true → position_or_len is_solid text ≡ 0
no_blanks [] e = absurd cc
no_blanks (b ∷ bs) e = ap (λ v. cond (not v) (1 + position_or_len is_solid bs) 0) e

one_blank : (text : List ℕ) → begins_solid text ≡ true → behind_blanks (32 ∷ text) ≡ text
one_blank text e = ap (λ n. drop (1 + n) (32 ∷ text)) (no_blanks text e)

number_read : (n : ℕ) (ds rest : List ℕ) → AreDigits n ds → begins_digit rest ≡ false → behind_part Number (ds ++ rest) ≡ Some rest
number_read n ds rest h ends =
    ap (λ k. cond (nat_le 1 k && nat_le k 6) (Some (drop k (ds ++ rest))) None) (digits-front ds rest h.all ends)
    ∙ ap (λ b. cond b (Some (drop (length ds) (ds ++ rest))) None) (both_true (is_le 1 (length ds) h.some) (is_le (length ds) 6 h.few))
    ∙ ap Some (drop-append_seam ds rest) where
      is_le : (a b : ℕ) → a ≤ b → nat_le a b ≡ true
      is_le a b le = grind (arith, nat_tests)

-- the parts behind the first number
abbrev second_parts : List HeaderPart
second_parts = Blanks ∷ Sign 44 ∷ Blanks ∷ Sign 121 ∷ Blanks ∷ Sign 61 ∷ Blanks ∷ Number ∷ []

header_read : (w h : ℕ) (ds es rule : List ℕ) → AreDigits w ds → AreDigits h es
    → is_header (120 ∷ 32 ∷ 61 ∷ 32 ∷ (ds ++ (44 ∷ 32 ∷ 121 ∷ 32 ∷ 61 ∷ 32 ∷ (es ++ (44 ∷ rule))))) ≡ true
header_read w h ds es rule width height =
    let second = es ++ (44 ∷ rule) in
    let between = 44 ∷ 32 ∷ 121 ∷ 32 ∷ 61 ∷ 32 ∷ second in
    let first = ds ++ between in
    ap (λ t. has_tail (behind_parts (Number ∷ second_parts) t)) (one_blank first (begins_with_digits ds between width.some width.all))
    ∙ ap (λ o. has_tail (option_and_then (behind_parts second_parts) o)) (number_read w ds between width refl)
    ∙ ap (λ t. has_tail (behind_parts (Number ∷ []) t)) (one_blank second (begins_with_digits es (44 ∷ rule) height.some height.all))
    ∙ ap (λ o. has_tail (option_and_then (behind_parts []) o)) (number_read h es (44 ∷ rule) height refl)

-- the header's line
abbrev header_line : ℕ → ℕ → List ℕ → List ℕ
header_line width height rule = codes "x = " ++ decimal width ++ codes ", y = " ++ decimal height ++ codes ", rule = " ++ rule

header_line-is : (width height : ℕ) (rule : List ℕ)
    → header_line width height rule ≡ 120 ∷ 32 ∷ 61 ∷ 32 ∷ (decimal width ++ (44 ∷ 32 ∷ 121 ∷ 32 ∷ 61 ∷ 32 ∷ (decimal height ++ (44 ∷ 32 ∷ 114 ∷ 117 ∷ 108 ∷ 101 ∷ 32 ∷ 61 ∷ 32 ∷ rule))))
header_line-is width height rule = simp append_assoc

digits_printed : (ds : List ℕ) → list_all is_ascii_digit ds ≡ true → list_all is_printed ds ≡ true
digits_printed [] all = refl
digits_printed (b ∷ bs) all =
    let parts = and_parts (is_ascii_digit b) (list_all is_ascii_digit bs) all in
    both_true (digit_printed b parts.0) (digits_printed bs parts.1) where
      digit_printed : (b : ℕ) → is_ascii_digit b ≡ true → is_printed b ≡ true
      digit_printed b e = grind (arith, nat_tests)

line_printed : (width height : ℕ) (rule : List ℕ) → width ≤ 64 → height ≤ 64 → list_all is_printed rule ≡ true → list_all is_printed (header_line width height rule) ≡ true
line_printed width height rule narrow low all =
    let w = digits_printed (decimal width) (AreDigits-decimal width (omega (arith, narrow))).all in
    let h = digits_printed (decimal height) (AreDigits-decimal height (omega (arith, low))).all in
    joined (codes "x = " ++ decimal width ++ codes ", y = " ++ decimal height ++ codes ", rule = ") rule
    (joined (codes "x = " ++ decimal width ++ codes ", y = " ++ decimal height) (codes ", rule = ")
    (joined (codes "x = " ++ decimal width ++ codes ", y = ") (decimal height) (joined (codes "x = " ++ decimal width) (codes ", y = ") (joined (codes "x = ") (decimal width) refl w) refl) h)
    refl)
    all

-- the tokens behind a printed header
pub body_of-printed : (width height : ℕ) (rule body : List ℕ) → width ≤ 64 → height ≤ 64 → list_all is_printed rule ≡ true
    → body_of 1 (lines_of (header_text width height rule ++ body)) ≡ Some (tokens_of_lines 2 (lines_of body))
body_of-printed width height rule body narrow low all =
    let line = header_line width height rule in
    let tail = 32 ∷ 114 ∷ 117 ∷ 108 ∷ 101 ∷ 32 ∷ 61 ∷ 32 ∷ rule in
    ap (λ bytes. body_of 1 (lines_of bytes)) (append_assoc line (10 ∷ []) body)
    ∙ ap (body_of 1) (lines_of-printed line body (line_printed width height rule narrow low all))
    ∙ ap (λ b. cond b (Some (tokens_of_lines 2 (lines_of body))) None)
    (ap is_header (header_line-is width height rule) ∙ header_read width height (decimal width) (decimal height) tail (AreDigits-decimal width (omega (arith, narrow))) (AreDigits-decimal height (omega (arith, low))))
