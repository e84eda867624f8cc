-- For private contracts alone: how the code keeps a group, and the eight neighbours in a neighbourhood's number.
use Rattle.std.specs.Prelude.{ℕ, ◌+◌, ◌*◌, ◌/◌, Bool, bit_and, bit_or, if◌then◌else◌}
use Rattle.lls_hensel.specs.declared.group.Group as code
use Rattle.lls_hensel.specs.declared.nine.TheConstants.{ABOVE, BELOW, CENTRE}
use Rattle.lls_hensel.specs.Entries.{Group}

-- the group that the code keeps with its letters borrowed
abbrev pub seen_group : code.Group → Group
seen_group group = record { count = group.count; minus = group.minus; letters = group.letters.now }

-- the number of a neighbourhood's eight others
unfoldable pub around_number : ℕ → ℕ
around_number nine = bit_or (bit_and (nine / 2) ABOVE) (bit_and nine BELOW)

-- the number of the neighbourhood of eight by their number and a centre
unfoldable pub nine_number : Bool → ℕ → ℕ
nine_number centre eight = bit_and eight ABOVE * 2 + bit_and eight BELOW + (if centre then CENTRE else 0)
