use Rattle.std.proofs.Common.{◌≡◌, take, length}
use Rattle.lls_lrat.specs.Entered.{AreEntered}
use Rattle.lls_lrat.proofs.assumed.take_back.Given as goal

abbrev pub invariant-loop-entries : goal.invariant-loop-entries
invariant-loop-entries l =
    AreEntered l.marks l.entries.items × (take l.len l.entries.items ≡ take l.len l.initial.entries.items) × (l.marks.vars ≡ l.initial.marks.vars)

abbrev pub decreases-loop-entries : goal.decreases-loop-entries
decreases-loop-entries l = length l.entries.items
