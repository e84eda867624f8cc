-- For private contracts alone: the values of variables are kept for each literal, at its place.
use Rattle.std.specs.Prelude.{Bool, true, false, not, ◌&&◌, List, [], ◌∷◌, Option, Some, None, option_map}
use Rattle.lls_store.specs.declared.truths.Truth.{Truth}
use Rattle.lls_store.specs.declared.truths.Truth.TheVariants.{Unset, True, False}

abbrev pub value_in : Truth → Option Bool
value_in Unset = None
value_in True = Some true
value_in False = Some false

-- the values of the variables, each at its variable; its negation follows
abbrev pub values_in : List Truth → List (Option Bool)
values_in [] = []
values_in (straight ∷ []) = []
values_in (straight ∷ turned ∷ rest) = value_in straight ∷ values_in rest

-- whether the second is the truth of the negation
abbrev pub is_turned : Truth → Truth → Bool
is_turned Unset Unset = true
is_turned True False = true
is_turned False True = true
is_turned a b = false

-- each variable is followed by its negation
abbrev pub are_paired : List Truth → Bool
are_paired [] = true
are_paired (straight ∷ []) = false
are_paired (straight ∷ turned ∷ rest) = is_turned straight turned && are_paired rest

-- the value of a literal with that sign, where that of its variable is known
abbrev pub answer_for : Bool → Option Bool → Option Bool
answer_for true value = value
answer_for false value = option_map not value
