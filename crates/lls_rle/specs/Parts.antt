-- What a token is: a count, a tag, the end, or a byte that can't stand there.
use Rattle.std.specs.Prelude.{ℕ, ◌-◌, ◌==◌, nat_le, List, length, slice_index, if◌then◌else◌}
use Rattle.std.specs.Str.Parse.{digits_value}
use Rattle.lls_text.specs.Digits.{is_digits}
use Rattle.lls_rle.specs.declared.item.Tag.TheVariants.{Dead, Live, RowEnd}
use Rattle.lls_rle.specs.declared.parts.Part.{Part}
use Rattle.lls_rle.specs.declared.parts.Part.TheVariants as part

-- `b`, `o`, `$`, `!`, and no other byte
abbrev pub tag_part : ℕ → Part
tag_part b =
    if b == 98 then part.Run Dead else
    if b == 111 then part.Run Live else
    if b == 36 then part.Run RowEnd else
    if b == 33 then part.End else part.Bad 0

-- 1 to 6 digits, not zero: else how far the byte at fault stands from the first, the seventh digit or the last one
abbrev pub count_part : List ℕ → Part
count_part text =
    if nat_le 7 (length text) then part.Bad 6 else
    if digits_value 10 text == 0 then part.Bad (length text - 1) else part.Count (digits_value 10 text)

abbrev pub part_of : List ℕ → Part
part_of text = if is_digits text then count_part text else tag_part (slice_index text 0)
