-- The reading of a rule text into entries, or its first fault, and what is true of it.
use Rattle.std.specs.Prelude.{◌≡◌, ℕ, ◌+◌, ◌-◌, ◌==◌, nat_le, Bool, true, false, not, List, [], ◌∷◌, ◌++◌, length, drop, codes, slice_index, Result, Ok, Err, ◌&&◌, ◌||◌, if◌then◌else◌}
use Rattle.std.specs.Char.{is_ascii_lowercase}
use Rattle.std.specs.List.{take_while}
use Rattle.lls_base.specs.Results.{and_then}
use Rattle.lls_rule.specs.declared.rule.TheConstants.Rule.{NEIGHBOURS}
use Rattle.lls_hensel.specs.Class.{letter_among}
use Rattle.lls_hensel.specs.Entries.{Entry, Group, among}
use Rattle.lls_hensel.specs.Notation.{Form, IsSide, StandsFor, digit, text_of, entries_in, entries_of_side}
use Rattle.lls_hensel.specs.declared.read.RuleError.{RuleError}
use Rattle.lls_hensel.specs.declared.read.RuleError.TheVariants.{Empty, BadLetter, RepeatedDigit, RepeatedLetter, NoLetters, Stray}

-- a digit `0` to `8`
abbrev pub is_count : ℕ → Bool
is_count byte = nat_le (digit 0) byte && nat_le byte (digit NEIGHBOURS)

-- the letters of a group from a column on, after those before them: each a letter of the count, none twice
abbrev pub letters_read : ℕ → ℕ → List ℕ → List ℕ → Result (Unit {0}) RuleError
letters_read column count before [] = Ok tt
letters_read column count before (byte ∷ rest) =
    if not (is_ascii_lowercase byte) then Err (Stray column) else
    if not (letter_among count byte) then Err (BadLetter column) else
    if among before byte then Err (RepeatedLetter column) else letters_read (column + 1) count (before ++ byte ∷ []) rest

-- whether a letter stands first
abbrev pub letter_first : List ℕ → Bool
letter_first [] = false
letter_first (byte ∷ _) = is_ascii_lowercase byte

-- the group of a count whose letters begin at a column
abbrev pub listed : ℕ → ℕ → Bool → List ℕ → Result Group RuleError
listed column count minus letters =
    and_then (letters_read column count [] letters) (λ _. Ok (record { count = count; minus = minus; letters = letters }))

-- `-`
abbrev pub is_minus : ℕ → Bool
is_minus byte = byte == slice_index (codes "-") 0

-- the group of a count, from what stands between its digit and the next, which begins at a column
abbrev pub tail_read : ℕ → ℕ → List ℕ → Result Group RuleError
tail_read column count [] = Ok (record { count = count; minus = false; letters = [] })
tail_read column count (byte ∷ rest) =
    if is_minus byte then (if letter_first rest then listed (column + 1) count true rest else Err (NoLetters column)) else
    listed column count false (byte ∷ rest)

-- bytes, cut before each digit: what stands before the first, and each digit with what follows it
abbrev pub Cut : Type 0
Cut = List ℕ × List (ℕ × List ℕ)

abbrev pub cut_before : Bool → ℕ → Cut → Cut
cut_before is_digit byte rest = if is_digit then ([], (byte, rest.0) ∷ rest.1) else (byte ∷ rest.0, rest.1)

abbrev pub cut : List ℕ → Cut
cut [] = ([], [])
cut (byte ∷ rest) = cut_before (is_count byte) byte (cut rest)

-- what stands before the first digit
abbrev pub before_digit : List ℕ → List ℕ
before_digit bytes = (cut bytes).0

-- the group of a digit at a column, after the bytes before it on its side: no digit stands twice
abbrev pub group_read : ℕ → List ℕ → ℕ → List ℕ → Result Group RuleError
group_read column before byte tail =
    if among before byte then Err (RepeatedDigit column) else tail_read (column + 1) (byte - digit 0) tail

-- the groups of a side from a column on, after the bytes before them
abbrev pub groups_read : ℕ → List ℕ → List (ℕ × List ℕ) → Result (List Group) RuleError
groups_read column before [] = Ok []
groups_read column before ((byte, tail) ∷ rest) =
    and_then (group_read column before byte tail) (λ group.
    and_then (groups_read (column + (1 + length tail)) (before ++ byte ∷ tail) rest) (λ groups. Ok (group ∷ groups)))

-- the fault of a byte that stands before the first digit of a side
abbrev pub misplaced : ℕ → ℕ → RuleError
misplaced byte column = if is_ascii_lowercase byte then BadLetter column else Stray column

-- the groups of a side that begins at a column
abbrev pub side_read : ℕ → Cut → Result (List Group) RuleError
side_read column ([], groups) = groups_read column [] groups
side_read column (byte ∷ _, _) = Err (misplaced byte column)

-- the entries of a side that begins at a column
unfoldable pub side_entries : Bool → ℕ → List ℕ → Result (List Entry) RuleError
side_entries survival column side =
    and_then (side_read column (cut side)) (λ groups. Ok (entries_of_side survival groups))

-- the marks: `B` or `b`, `/`, `S` or `s`
abbrev pub is_birth_mark : ℕ → Bool
is_birth_mark byte = among (codes "Bb") byte

abbrev pub is_slash : ℕ → Bool
is_slash byte = among (codes "/") byte

abbrev pub is_survival_mark : ℕ → Bool
is_survival_mark byte = among (codes "Ss") byte

-- what stands after a mark of the survival side, with its column
abbrev pub after_mark : ℕ → List ℕ → Result (ℕ × List ℕ) RuleError
after_mark column [] = Err (Stray column)
after_mark column (byte ∷ rest) = if is_survival_mark byte then Ok (column + 1, rest) else Err (Stray column)

-- the survival side behind the birth side, with its column: a `/` may stand before its mark
abbrev pub survival_after : ℕ → List ℕ → Result (ℕ × List ℕ) RuleError
survival_after column [] = Err (Stray column)
survival_after column (byte ∷ rest) = if is_slash byte then after_mark (column + 1) rest else after_mark column (byte ∷ rest)

-- the birth side behind the survival side, with its column
abbrev pub birth_after : ℕ → List ℕ → Result (ℕ × List ℕ) RuleError
birth_after column [] = Err (Stray column)
birth_after column (byte ∷ rest) = Ok (column + 1, rest)

-- the entries of a first side with those of the side that was found behind it
abbrev pub both_sides : Bool → Result (List Entry) RuleError → Result (ℕ × List ℕ) RuleError → Result (List Entry) RuleError
both_sides survival first behind =
    and_then first (λ entries. and_then behind (λ second. and_then (side_entries survival second.0 second.1) (λ others. Ok (entries ++ others))))

-- the bytes of the side that ends before the first byte that passes a test
abbrev pub side_before : (ℕ → Bool) → List ℕ → List ℕ
side_before ends bytes = take_while (λ byte. not (ends byte)) bytes

-- the form with the birth side first, from behind its `B`
unfoldable pub birth_first : List ℕ → Result (List Entry) RuleError
birth_first bytes =
    let side = side_before (λ byte. is_slash byte || is_survival_mark byte) bytes in
    both_sides true (side_entries false 2 side) (survival_after (2 + length side) (drop (length side) bytes))

-- the form with the survival side first
unfoldable pub survival_first : List ℕ → Result (List Entry) RuleError
survival_first bytes =
    let side = side_before is_slash bytes in
    both_sides false (side_entries true 1 side) (birth_after (1 + length side) (drop (length side) bytes))

-- the entries for which a rule text stands, or its first fault
abbrev pub entries_of : List ℕ → Result (List Entry) RuleError
entries_of [] = Err Empty
entries_of (byte ∷ rest) = if is_birth_mark byte then birth_first rest else survival_first (byte ∷ rest)

-- the text of two sides is read as their entries
abbrev pub ReadsEachText : Type 0
ReadsEachText =
    (form : Form) (birth survival : List Group) → IsSide birth → IsSide survival →
    entries_of (text_of form birth survival) ≡ Ok (entries_in form birth survival)

-- what is read is the text of two sides, and the entries are theirs
abbrev pub ReadsTextsAlone : Type 0
ReadsTextsAlone = (text : List ℕ) (entries : List Entry) → entries_of text ≡ Ok entries → StandsFor text entries
