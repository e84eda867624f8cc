-- The header of an RLE text.
use Rattle.std.specs.Prelude.{ℕ, ◌==◌, ◌&&◌, nat_le, Bool, true, false, not, List, [], ◌∷◌, drop, Option, None, Some, option_and_then, if◌then◌else◌}
use Rattle.std.specs.List.{position_or_len}
use Rattle.std.specs.Char.{is_ascii_digit}
use Rattle.lls_text.specs.Words.{is_solid}
use Rattle.lls_rle.specs.declared.header.HeaderPart.{HeaderPart}
use Rattle.lls_rle.specs.declared.header.HeaderPart.TheVariants.{Sign, Blanks, Number}
use Rattle.lls_rle.specs.declared.header.TheConstants.{HEADER}

-- how many digits stand first
abbrev pub digits : List ℕ → ℕ
digits text = position_or_len (λ b. not (is_ascii_digit b)) text

abbrev pub behind_blanks : List ℕ → List ℕ
behind_blanks text = drop (position_or_len is_solid text) text

-- what stands behind a byte
abbrev pub behind_sign : ℕ → List ℕ → Option (List ℕ)
behind_sign sign [] = None
behind_sign sign (b ∷ bs) = if b == sign then Some bs else None

-- what stands behind a part, where the part stands first; a number has 1 to 6 digits
abbrev pub behind_part : HeaderPart → List ℕ → Option (List ℕ)
behind_part (Sign sign) text = behind_sign sign text
behind_part Blanks text = Some (behind_blanks text)
behind_part Number text = if nat_le 1 (digits text) && nat_le (digits text) 6 then Some (drop (digits text) text) else None

abbrev pub behind_parts : List HeaderPart → List ℕ → Option (List ℕ)
behind_parts [] text = Some text
behind_parts (part ∷ parts) text = option_and_then (behind_parts parts) (behind_part part text)

-- nothing, or a comma behind blanks, and then any bytes
abbrev pub is_begun_by : ℕ → List ℕ → Bool
is_begun_by sign [] = false
is_begun_by sign (b ∷ bs) = b == sign

abbrev pub is_tail : List ℕ → Bool
is_tail [] = true
is_tail (b ∷ bs) = is_begun_by 44 (behind_blanks (b ∷ bs))

abbrev pub has_tail : Option (List ℕ) → Bool
has_tail None = false
has_tail (Some text) = is_tail text

-- `x`, `=`, a number, a comma, `y`, `=`, a number, with blanks between, and a tail
abbrev pub is_header : List ℕ → Bool
is_header line = has_tail (behind_parts HEADER line)
