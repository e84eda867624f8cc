-- The canonical text of a rule, and where a rule is not isotropic.
use Rattle.std.specs.Prelude.{ℕ, ◌+◌, ◌==◌, nat_le, Bool, true, false, not, List, [], ◌∷◌, map, filter, find, flat_map, length, Option, Some, None, if◌then◌else◌}
use Rattle.std.specs.List.{range_with_len}
use Rattle.std.proofs.Math.Bool.{beq}
use Rattle.lls_rule.specs.declared.rule.TheConstants.Rule.{NEIGHBOURHOODS, NEIGHBOURS}
use Rattle.lls_rule.specs.Rule.{number_of, has_centre, answer, around}
use Rattle.lls_hensel.specs.Neighbours.{are_images}
use Rattle.lls_hensel.specs.Class.{Picture, pictures}
use Rattle.lls_hensel.specs.Entries.{Group}
use Rattle.lls_hensel.specs.Notation.{text_of}
use Rattle.lls_hensel.specs.Notation.Form.{BirthFirst}

-- the number of the neighbourhood of a centre and the eight round it
abbrev pub number_with : Bool → List Bool → ℕ
number_with centre (a ∷ b ∷ c ∷ d ∷ e ∷ f ∷ g ∷ h ∷ []) = number_of (a ∷ b ∷ c ∷ d ∷ centre ∷ e ∷ f ∷ g ∷ h ∷ [])
number_with centre _ = 0

-- the eight of the first picture
abbrev pub first_eight : List Picture → List Bool
first_eight [] = []
first_eight (picture ∷ _) = picture.eight

-- the eight that stand for the class of eight neighbours
unfoldable pub representative_eight : List Bool → List Bool
representative_eight eight =
    first_eight (filter (λ p. are_images p.eight eight) (flat_map pictures (range_with_len 0 (NEIGHBOURS + 1))))

-- the neighbourhood with the same centre that stands for the class of another
unfoldable pub representative_nine : ℕ → ℕ
representative_nine nine = number_with (has_centre nine) (representative_eight (around nine))

-- whether a neighbourhood's answer differs from that of its class's representative
unfoldable pub differs : List Bool → ℕ → Bool
differs table nine = not (beq (answer table nine) (answer table (representative_nine nine)))

-- the least neighbourhood whose answer does
unfoldable pub uneven : List Bool → Option ℕ
uneven table = find (differs table) (range_with_len 0 NEIGHBOURHOODS)

-- the letters of a count at whose classes a side has this answer
unfoldable pub letters_at : List Bool → Bool → ℕ → Bool → List (Option ℕ)
letters_at table survival count live =
    map (λ p. p.letter) (filter (λ p. beq (answer table (number_with survival p.eight)) live) (pictures count))

-- the letters without None
abbrev pub named : List (Option ℕ) → List ℕ
named [] = []
named (None ∷ rest) = named rest
named (Some letter ∷ rest) = letter ∷ named rest

abbrev pub listing : ℕ → Bool → List ℕ → Group
listing count minus letters = record { count = count; minus = minus; letters = letters }

-- the group of a count by its letters that are in and those that are out: none, the digit alone, the fewer letters
abbrev pub grouped : ℕ → List (Option ℕ) → List (Option ℕ) → List Group
grouped count inside outside =
    if length inside == 0 then [] else
    if length outside == 0 then (listing count false [] ∷ []) else
    if nat_le (length inside) (length outside) then (listing count false (named inside) ∷ []) else
    (listing count true (named outside) ∷ [])

-- the group of a count on a side, where a class of it is in
unfoldable pub canonical_group : List Bool → Bool → ℕ → List Group
canonical_group table survival count = grouped count (letters_at table survival count true) (letters_at table survival count false)

-- the groups of a side by ascending digit
unfoldable pub canonical_side : List Bool → Bool → List Group
canonical_side table survival = flat_map (canonical_group table survival) (range_with_len 0 (NEIGHBOURS + 1))

-- the canonical text: `B`, the birth side, `/S`, the survival side
unfoldable pub rule_text : List Bool → List ℕ
rule_text table = text_of (BirthFirst false true false) (canonical_side table false) (canonical_side table true)
