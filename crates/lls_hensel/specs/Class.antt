-- The classes of eight neighbours and their letters in Hensel notation.
use Rattle.std.specs.Prelude.{ℕ, ◌+◌, ◌-◌, ◌==◌, suc, zero, nat_le, Bool, true, false, not, List, [], ◌∷◌, map, filter, flat_map, codes, replicate, Option, Some, None, ◌&&◌, if◌then◌else◌}
use Rattle.std.specs.List.{range_with_len, zip, list_any}
use Rattle.lls_rule.specs.declared.rule.TheConstants.Rule.{NEIGHBOURS}
use Rattle.lls_rule.specs.Rule.{around}
use Rattle.lls_hensel.specs.Neighbours.{are_images}
use Rattle.lls_hensel.specs.declared.class.TheConstants.{HALF}
use Rattle.lls_hensel.specs.declared.class.Class.{Class}

-- the letters of a count up to half the neighbours, each with the number of a neighbourhood of its class whose centre is dead
abbrev pub lettered : ℕ → List (ℕ × ℕ)
lettered (suc zero) = zip (codes "ce") (1 ∷ 2 ∷ [])
lettered (suc (suc zero)) = zip (codes "aceikn") (3 ∷ 5 ∷ 10 ∷ 40 ∷ 33 ∷ 68 ∷ [])
lettered (suc (suc (suc zero))) = zip (codes "aceijknqry") (11 ∷ 69 ∷ 42 ∷ 7 ∷ 14 ∷ 98 ∷ 13 ∷ 70 ∷ 41 ∷ 97 ∷ [])
lettered (suc (suc (suc (suc zero)))) =
    zip (codes "aceijknqrtwyz") (15 ∷ 325 ∷ 170 ∷ 45 ∷ 106 ∷ 99 ∷ 71 ∷ 102 ∷ 43 ∷ 105 ∷ 78 ∷ 101 ∷ 108 ∷ [])
lettered _ = []

-- a letter, or none, with eight neighbours of its class
pub record Picture : Type 0 where
  pub letter : Option ℕ
  pub eight : List Bool

-- the classes of a count up to half the neighbours
abbrev pub few_live : ℕ → List Picture
few_live zero = record { letter = None; eight = replicate NEIGHBOURS false } ∷ []
few_live count = map (λ p. record { letter = Some p.0; eight = around p.1 }) (lettered count)

-- the classes of a count: above half, those of as many dead neighbours with the same letters
abbrev pub pictures : ℕ → List Picture
pictures count =
    if nat_le count HALF then few_live count else
    if nat_le count NEIGHBOURS then map (λ p. record { letter = p.letter; eight = map not p.eight }) (few_live (NEIGHBOURS - count)) else []

abbrev pub same_letter : Option ℕ → Option ℕ → Bool
same_letter None None = true
same_letter (Some a) (Some b) = a == b
same_letter _ _ = false

-- whether eight neighbours are of a class
abbrev pub is_of_class : List Bool → Class → Bool
is_of_class eight class =
    list_any (λ p. are_images p.eight eight && same_letter p.letter class.letter) (pictures class.count)

-- the 51 classes by count
abbrev pub classes : List Class
classes =
    flat_map (λ count. map (λ p. record { count = count; letter = p.letter }) (pictures count)) (range_with_len 0 (NEIGHBOURS + 1))

-- those of the 51 classes that eight neighbours are of
unfoldable pub classes_of : List Bool → List Class
classes_of eight = filter (is_of_class eight) classes

-- whether a byte is one of the letters of a count
abbrev pub letter_among : ℕ → ℕ → Bool
letter_among count byte = list_any (λ p. same_letter p.letter (Some byte)) (pictures count)
