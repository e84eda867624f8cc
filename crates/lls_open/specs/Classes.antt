-- The classes that two rules leave open, in their order.
use Rattle.std.specs.Prelude.{ℕ, Bool, true, false, not, List, ◌++◌, map, filter, slice_index_or, None, ◌&&◌}
use Rattle.std.specs.List.{list_any, range_with_len}
use Rattle.lls_rule.specs.declared.rule.TheConstants.Rule.{NEIGHBOURHOODS}
use Rattle.lls_rule.specs.Rule.{answer}
use Rattle.lls_hensel.specs.Class.{classes}
use Rattle.lls_hensel.specs.Entries.{Entry, tells}
use Rattle.lls_open.specs.declared.class.SideClass.{SideClass}

abbrev pub entry_of : SideClass → Entry
entry_of class = record { survival = class.survival; class = class.class }

-- whether a neighbourhood is of the class: its centre has the side, and the eight others the class
abbrev pub is_of : SideClass → ℕ → Bool
is_of class nine = tells nine (entry_of class)

-- the classes of a side, by count and then by letter
unfoldable pub side_classes : Bool → List SideClass
side_classes survival = map (λ class. record { survival = survival; class = class }) classes

-- those of birth, and behind them those of survival
abbrev pub all_classes : List SideClass
all_classes = side_classes false ++ side_classes true

-- whether a rule gives 1 at a neighbourhood of the class; an isotropic rule then does at all of them
unfoldable pub gives : List Bool → SideClass → Bool
gives rule class = list_any (λ nine. is_of class nine && answer rule nine) (range_with_len 0 NEIGHBOURHOODS)

-- the low rule gives 0 at the class, and the high one 1
abbrev pub is_open : List Bool → List Bool → SideClass → Bool
is_open low high class = not (gives low class) && gives high class

unfoldable pub open_classes : List Bool → List Bool → List SideClass
open_classes low high = filter (is_open low high) all_classes

-- the kth of some classes; past the end one of birth
abbrev pub class_number : List SideClass → ℕ → SideClass
class_number among k = slice_index_or among k (record { survival = false; class = record { count = 0; letter = None } })
