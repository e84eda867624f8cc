-- The numbers that words write.
use Rattle.std.specs.Prelude.{ℕ, zero, suc, ℤ, pos, negsuc, ◌&&◌, List, [], ◌∷◌, length, Option, Some, None, if◌then◌else◌, ◌==◌, nat_le}
use Rattle.std.specs.List.{list_all}
use Rattle.std.specs.Char.{is_ascii_digit}
use Rattle.std.specs.Str.Parse.{digits_value}
use Rattle.std.specs.Option.{option_map, option_and_then}
use Rattle.lls_cnf.specs.declared.number.TheConstants.{MOST_DIGITS}

-- decimal digits: at least one, and not too many
abbrev pub natural_number : List ℕ → Option ℕ
natural_number word =
    if nat_le 1 (length word) && (nat_le (length word) MOST_DIGITS && list_all is_ascii_digit word) then Some (digits_value 10 word) else None

-- the byte -
abbrev pub minus : ℕ
minus = 45

-- -n; zero has no negative
abbrev pub negative : ℕ → Option ℤ
negative zero = None
negative (suc n) = Some (negsuc n)

-- a natural number, or - and one that isn't zero
abbrev pub whole_number : List ℕ → Option ℤ
whole_number [] = None
whole_number (b ∷ bs) =
    if b == minus then option_and_then negative (natural_number bs) else option_map (λ n. pos n) (natural_number (b ∷ bs))
