-- The eight neighbours of a cell as a list of bits, their turns and their mirror image.
use Rattle.std.specs.Prelude.{ℕ, Bool, List, [], ◌∷◌, ◌++◌, map}
use Rattle.std.specs.List.{list_any}
use Rattle.std.specs.Cmp.Lexicographic.{pointwise}
use Rattle.std.proofs.Math.Bool.{beq}
use Rattle.lls_rule.specs.Rule.{has_bit}

-- the eight bits of a number below 256, the greatest first
abbrev pub eight_of : ℕ → List Bool
eight_of n = map (has_bit n) (7 ∷ 6 ∷ 5 ∷ 4 ∷ 3 ∷ 2 ∷ 1 ∷ 0 ∷ [])

-- the eight neighbours after a quarter turn
abbrev pub quarter_turn : List Bool → List Bool
quarter_turn (a ∷ b ∷ c ∷ d ∷ e ∷ f ∷ g ∷ h ∷ []) = f ∷ d ∷ a ∷ g ∷ b ∷ h ∷ e ∷ c ∷ []
quarter_turn eight = eight

-- the eight neighbours in the mirror
abbrev pub mirror : List Bool → List Bool
mirror (a ∷ b ∷ c ∷ d ∷ e ∷ f ∷ g ∷ h ∷ []) = c ∷ b ∷ a ∷ e ∷ d ∷ h ∷ g ∷ f ∷ []
mirror eight = eight

-- what up to three quarter turns make of the eight
abbrev pub turns : List Bool → List (List Bool)
turns eight =
    eight ∷ quarter_turn eight ∷ quarter_turn (quarter_turn eight) ∷ quarter_turn (quarter_turn (quarter_turn eight)) ∷ []

-- whether up to three quarter turns and then perhaps the mirror take the first eight to the second
abbrev pub are_images : List Bool → List Bool → Bool
are_images first second = list_any (pointwise beq second) (turns first ++ map mirror (turns first))
