use Rattle.std.proofs.Common.{◌≡◌, ◌++◌, flat_map, take}
use Rattle.lls_hensel.specs.Numbers.{letter_text, representatives_of}
use Rattle.lls_hensel.proofs.print.push_letters.Given as goal

abbrev pub invariant-loop-representative : goal.invariant-loop-representative
invariant-loop-representative l =
    l.text.items ≡ l.fn.text.items ++ flat_map (letter_text l.rule l.survival l.count l.live) (take l.representative-index (representatives_of l.count))
