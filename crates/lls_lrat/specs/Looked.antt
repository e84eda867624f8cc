-- The hints of an addition that unit propagation looks at.
use Rattle.std.specs.Prelude.{ℤ, List, [], ◌∷◌, map, Option, find, is_none}
use Rattle.lls_lit.specs.Formula.{Clause}
use Rattle.lls_prooflog.specs.UnitWalk.{Live, unit_walk}

-- the beginnings of a list, the shorter ones first
abbrev pub beginnings : {X : Type 0} → List X → List (List X)
beginnings [] = [] ∷ []
beginnings (x ∷ xs) = [] ∷ map (λ front. x ∷ front) (beginnings xs)

-- the shortest beginning of the hints along which unit propagation leads to a conflict, where one does
abbrev pub looked_at : Live → Clause → List ℤ → Option (List ℤ)
looked_at live lits hints = find (λ front. is_none (unit_walk live lits front)) (beginnings hints)
