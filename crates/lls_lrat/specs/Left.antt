-- What is left of a clause: no literal, one, or several that differ.
use Rattle.std.specs.Prelude.{◌≤◌, ℕ, ℤ, List, [], ◌∷◌, if◌then◌else◌}
use Rattle.std.specs.List.{list_all}
use Rattle.std.specs.Ordering.{int_eq}
use Rattle.lls_lit.specs.Literal.{variable_of}
use Rattle.lls_lrat.specs.declared.walk.Left.{Left}
use Rattle.lls_lrat.specs.declared.walk.Left.TheVariants.{Nothing, One, More}

abbrev pub left_in : List ℤ → Left
left_in [] = Nothing
left_in (l ∷ ls) = if list_all (int_eq l) ls then One l else More

abbrev pub IsOneWithin : ℕ → Left → Type 0
IsOneWithin vars (One l) = variable_of l ≤ vars
IsOneWithin vars Nothing = Unit {0}
IsOneWithin vars More = Unit {0}
