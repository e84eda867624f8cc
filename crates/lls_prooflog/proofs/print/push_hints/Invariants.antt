use Rattle.std.proofs.Common.{◌≡◌, ◌++◌, take}
use Rattle.std.specs.Prelude.{codes}
use Rattle.std.specs.List.{flat_map}
use Rattle.std.specs.Fmt.{signed_decimal}
use Rattle.lls_prooflog.specs.Lent.{hints_of}
use Rattle.lls_prooflog.proofs.print.push_hints.Given as goal

abbrev pub invariant-loop-k : goal.invariant-loop-k
invariant-loop-k l = l.text.items ≡ l.initial.text.items ++ flat_map (λ n. signed_decimal n ++ codes " ") (take l.k (hints_of l.hints))
