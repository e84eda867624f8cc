use Rattle.std.proofs.Common.{◌≡◌, ◌++◌, Bool, map, take}
use Rattle.std.specs.Prelude.{filter}
use Rattle.lls_hensel.specs.declared.class.Class.{Class}
use Rattle.lls_open.specs.declared.class.SideClass.{SideClass}
use Rattle.lls_open.specs.Classes.{is_open}
use Rattle.lls_open.proofs.class.push_side.Given as goal

-- the class on a side
abbrev pub on_side : Bool → Class → SideClass
on_side survival class = record { survival = survival; class = class }

-- the open ones of the classes so far
abbrev pub invariant-loop-class : goal.invariant-loop-class
invariant-loop-class l =
    l.classes.items ≡ l.fn.classes.items ++ filter (is_open l.low l.high) (map (on_side l.survival) (take l.class-index l.class-items))
