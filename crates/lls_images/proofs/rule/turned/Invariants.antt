use Rattle.std.proofs.Common.{◌≡◌, false, get_or, map}
use Rattle.std.specs.List.{range_with_len}
use Rattle.lls_rule.specs.Rule.{number_of}
use Rattle.lls_images.specs.Same.{nine_of, ninth}
use Rattle.lls_images.proofs.rule.turned.Given as goal

-- the cells so far
abbrev pub invariant-loop-k : goal.invariant-loop-k
invariant-loop-k l = l.number ≡ number_of (map (λ k. get_or (nine_of l.nine) (ninth l.motion k) false) (range_with_len 0 l.k))
