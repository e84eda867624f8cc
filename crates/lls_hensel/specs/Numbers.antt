-- For private contracts alone: eight neighbours as numbers, and how a class is found by them.
use Rattle.std.specs.Prelude.{ℕ, ◌-◌, ◌==◌, nat_lt, min, Bool, not, List, [], ◌∷◌, map, filter, find, option_and_then, Option, count_ones, ◌||◌, if◌then◌else◌}
use Rattle.std.specs.List.{list_any}
use Rattle.std.proofs.Math.Bool.{beq}
use Rattle.lls_rule.specs.declared.rule.TheConstants.Rule.{NEIGHBOURS}
use Rattle.lls_rule.specs.Rule.{number_of, answer}
use Rattle.lls_hensel.specs.Groups.{nine_number}
use Rattle.lls_hensel.specs.Printing.{named}
use Rattle.lls_hensel.specs.Neighbours.{eight_of, quarter_turn, mirror}
use Rattle.lls_hensel.specs.Class.{few_live}
use Rattle.lls_hensel.specs.declared.class.TheConstants.{HALF}
use Rattle.lls_hensel.specs.declared.class.Class.{Class}
use Rattle.lls_hensel.specs.declared.class.Representative.{Representative}

-- the number of the eight after a quarter turn
unfoldable pub turned : ℕ → ℕ
turned eight = number_of (quarter_turn (eight_of eight))

-- the number of the eight in the mirror
unfoldable pub mirrored : ℕ → ℕ
mirrored eight = number_of (mirror (eight_of eight))

-- the number of the eight with the dead for the live
unfoldable pub flipped : ℕ → ℕ
flipped eight = number_of (map not (eight_of eight))

-- whether turns and the mirror take the first number to the second
unfoldable pub images_by_number : ℕ → ℕ → Bool
images_by_number first second =
    list_any (λ n. n == second || mirrored n == second) (first ∷ turned first ∷ turned (turned first) ∷ turned (turned (turned first)) ∷ [])

-- the live neighbours, or the dead ones where those are fewer
unfoldable pub fewer_of : ℕ → ℕ
fewer_of eight = if nat_lt HALF (count_ones eight) then flipped eight else eight

-- the classes of a count up to four, with eight neighbours of each
unfoldable pub representatives_of_fewer : ℕ → List Representative
representatives_of_fewer count = map (λ p. record { letter = p.letter; eight = number_of p.eight }) (few_live count)

-- the classes of a count by their letters, each with at most four live neighbours
unfoldable pub representatives_of : ℕ → List Representative
representatives_of count = representatives_of_fewer (min count (NEIGHBOURS - count))

-- the class of a count that has these neighbours, of which at most four are live
unfoldable pub representative_by_number : ℕ → ℕ → Option Representative
representative_by_number count few = find (λ r. images_by_number r.eight few) (representatives_of count)

-- its letter
unfoldable pub letter_by_number : ℕ → ℕ → Option ℕ
letter_by_number count few = option_and_then (λ r. r.letter) (representative_by_number count few)

-- the class of the eight by the letters of their count
unfoldable pub class_by_number : ℕ → Class
class_by_number eight =
    record { count = count_ones eight; letter = letter_by_number (count_ones eight) (fewer_of eight) }

-- the neighbours of a class of a count, by its representative's with at most four live ones
unfoldable pub live_number : ℕ → ℕ → ℕ
live_number count eight = if nat_lt HALF count then flipped eight else eight

-- the answer of a side at a class of a count
unfoldable pub holds_by_number : List Bool → Bool → ℕ → Representative → Bool
holds_by_number table survival count representative = answer table (nine_number survival (live_number count representative.eight))

-- the classes of a count at which a side has this answer
unfoldable pub classes_by_number : List Bool → Bool → ℕ → Bool → List Representative
classes_by_number table survival count live =
    filter (λ r. beq (holds_by_number table survival count r) live) (representatives_of count)

-- the letter of a class, where a side has this answer and there is one
unfoldable pub letter_text : List Bool → Bool → ℕ → Bool → Representative → List ℕ
letter_text table survival count live representative =
    if beq (holds_by_number table survival count representative) live then named (representative.letter ∷ []) else []
