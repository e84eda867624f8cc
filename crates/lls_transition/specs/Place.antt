-- A place of a transition: a known value, or a cell's literal.
use Rattle.std.specs.Prelude.{ℕ, Bool, true, List}
use Rattle.lls_lit.specs.Formula.{is_literal_of, is_true}
use Rattle.lls_transition.specs.declared.place.Place.{Place}
use Rattle.lls_transition.specs.declared.place.Place.TheVariants.{Known, Of}

-- a literal at a place is one of the variables from 1 to `vars`
abbrev pub place_within : ℕ → Place → Bool
place_within vars (Known value) = true
place_within vars (Of literal) = is_literal_of vars literal

-- the value of a place under an assignment
abbrev pub value_of : List Bool → Place → Bool
value_of values (Known value) = value
value_of values (Of literal) = is_true values literal
