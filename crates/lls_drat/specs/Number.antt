-- The numbers of a lemma in bytes: seven bits a byte, the least first, and the top bit on each but the last.
use Rattle.std.specs.Prelude.{ℕ, ◌+◌, ◌*◌, ◌/◌, ◌%◌, ℤ, pos, Bool, ◌&&◌, ◌==◌, nat_le, nat_lt, List, [], ◌∷◌, Option, Some, None, if◌then◌else◌}
use Rattle.std.specs.List.{list_any}
use Rattle.lls_lit.specs.Literal.{negation}
use Rattle.lls_lit.specs.declared.var.TheConstants.Var.{MOST}

-- the bytes of a number, and the place of the first
pub record PlacedNumber : Type 0 where
  pub place : ℕ
  pub bytes : List ℕ

-- a byte without the top bit is the last of its number
abbrev pub is_last : ℕ → Bool
is_last b = nat_lt b 128

-- a byte of a number before those that follow
abbrev pub before_number : ℕ → ℕ → List PlacedNumber → List PlacedNumber
before_number place b [] = record { place = place; bytes = b ∷ [] } ∷ []
before_number place b (number ∷ numbers) = record { place = place; bytes = b ∷ number.bytes } ∷ numbers

abbrev pub before_numbers : ℕ → ℕ → List PlacedNumber → List PlacedNumber
before_numbers place b numbers = if is_last b then record { place = place; bytes = b ∷ [] } ∷ numbers else before_number place b numbers

-- the numbers that bytes write, of which the first has a place
abbrev pub numbers_from : ℕ → List ℕ → List PlacedNumber
numbers_from place [] = []
numbers_from place (b ∷ bs) = before_numbers place b (numbers_from (place + 1) bs)

-- a number that has its last byte
abbrev pub is_whole : List ℕ → Bool
is_whole bytes = list_any is_last bytes

abbrev pub number_value : List ℕ → ℕ
number_value [] = 0
number_value (b ∷ bs) = b % 128 + 128 * number_value bs

-- 2v is the literal v, and 2v + 1 is -v
abbrev pub literal_of_code : ℕ → ℤ
literal_of_code code = if code % 2 == 0 then pos (code / 2) else negation (pos (code / 2))

abbrev pub is_code : ℕ → Bool
is_code code = nat_le 1 (code / 2) && nat_le (code / 2) MOST

-- the literal that bytes write
abbrev pub literal_in_bytes : List ℕ → Option ℤ
literal_in_bytes bytes = if is_whole bytes && is_code (number_value bytes) then Some (literal_of_code (number_value bytes)) else None
