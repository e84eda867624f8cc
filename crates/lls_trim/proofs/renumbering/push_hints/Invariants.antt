use Rattle.std.proofs.Common.{◌≡◌, ◌++◌, map, take}
use Rattle.lls_trim.specs.Marking.{hint_by}
use Rattle.lls_trim.proofs.renumbering.push_hints.Given as goal

abbrev pub invariant-loop-source : goal.invariant-loop-source
invariant-loop-source l = l.hints.items ≡ l.initial.hints.items ++ map (hint_by l.ids) (take l.source-index l.sources)
