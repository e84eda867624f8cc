-- So many of the literals have been put.
use Rattle.std.proofs.Common.{◌≡◌, ◌++◌}
use Rattle.std.specs.Prelude.{◌-◌, take}
use Rattle.lls_watch.proofs.watches.Watches.append_all.Given as goal

abbrev pub invariant-loop-k : goal.invariant-loop-k
invariant-loop-k l =
    l.self ≡ record l.fn.self { arena = record l.fn.self.arena { tail = l.fn.self.arena.tail ++ take l.k l.lits; spare_lits = l.fn.self.arena.spare_lits - l.k } }
