use Rattle.std.proofs.Common.{◌≡◌, false, take}
use Rattle.std.specs.List.{list_any}
use Rattle.lls_open.specs.Classes.{is_of}
use Rattle.lls_open.proofs.table.is_of_any.Given as goal

-- the neighbourhood is of none of those looked at
abbrev pub invariant-loop-class : goal.invariant-loop-class
invariant-loop-class l = list_any (λ class. is_of class l.nine) (take l.class-index l.classes) ≡ false
