-- The bytes of names.
use Rattle.std.proofs.Common.{◌≡◌, ◌<◌, ℕ, zero, suc, leb, Bool, true, false, ◌&&◌, ◌||◌, List, [], ◌∷◌, length, refl, arith, lit<}
use Rattle.std.specs.List.{list_all}
use Rattle.std.specs.Str.{IsAscii}
use Rattle.std.specs.Char.{is_ascii_alphabetic, is_ascii_alphanumeric}
use Rattle.std.proofs.lemmas.Bool.{and_parts, leb-true}
use Rattle.lls_search_file.specs.declared.posed.TheConstants.Names.{MOST_BYTES}
use Rattle.lls_search_file.specs.Posed.{is_name}

either_fits : (a b : Bool) (x y top : ℕ) → (a ≡ true → x < top) → (b ≡ true → x < top) → (a || b) ≡ true → x < top
either_fits true b x y top left right e = left refl
either_fits false b x y top left right e = right e

letter-lt : (b : ℕ) → is_ascii_alphabetic b ≡ true → b < 128
letter-lt b e =
    either_fits (leb 65 b && leb b 90) (leb 97 b && leb b 122) b b 128
    (λ t. omega (arith, leb-true b 90 (and_parts (leb 65 b) (leb b 90) t).1))
    (λ t. omega (arith, leb-true b 122 (and_parts (leb 97 b) (leb b 122) t).1)) e

letter_or_digit-lt : (b : ℕ) → is_ascii_alphanumeric b ≡ true → b < 128
letter_or_digit-lt b e =
    either_fits ((leb 48 b && leb b 57) || (leb 65 b && leb b 90)) (leb 97 b && leb b 122) b b 128
    (λ t. either_fits (leb 48 b && leb b 57) (leb 65 b && leb b 90) b b 128
    (λ d. omega (arith, leb-true b 57 (and_parts (leb 48 b) (leb b 57) d).1))
    (λ u. omega (arith, leb-true b 90 (and_parts (leb 65 b) (leb b 90) u).1)) t)
    (λ t. omega (arith, leb-true b 122 (and_parts (leb 97 b) (leb b 122) t).1)) e

all-lt : (bytes : List ℕ) → list_all is_ascii_alphanumeric bytes ≡ true → IsAscii bytes
all-lt [] e i = lit< tt
all-lt (b ∷ bytes) e zero = letter_or_digit-lt b (and_parts (is_ascii_alphanumeric b) (list_all is_ascii_alphanumeric bytes) e).0
all-lt (b ∷ bytes) e (suc i) = all-lt bytes (and_parts (is_ascii_alphanumeric b) (list_all is_ascii_alphanumeric bytes) e).1 i

pub name_ascii : (name : List ℕ) → is_name name ≡ true → IsAscii name
name_ascii [] e i = cc
name_ascii (b ∷ bytes) e zero =
    letter-lt b (and_parts (is_ascii_alphabetic b) (list_all is_ascii_alphanumeric bytes) (and_parts (is_ascii_alphabetic b && list_all is_ascii_alphanumeric bytes) (leb (length (b ∷ bytes)) MOST_BYTES) e).0).0
name_ascii (b ∷ bytes) e (suc i) =
    all-lt bytes (and_parts (is_ascii_alphabetic b) (list_all is_ascii_alphanumeric bytes) (and_parts (is_ascii_alphabetic b && list_all is_ascii_alphanumeric bytes) (leb (length (b ∷ bytes)) MOST_BYTES) e).0).1 i
