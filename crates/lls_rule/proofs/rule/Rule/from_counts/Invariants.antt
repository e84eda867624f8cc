use Rattle.std.proofs.Common.{◌≡◌, ℕ, ◌<◌, length}
use Rattle.lls_rule.specs.Rule.{answer, by_counts}
use Rattle.lls_rule.proofs.rule.Rule.from_counts.Given as goal

abbrev pub invariant-loop-nine : goal.invariant-loop-nine
invariant-loop-nine l =
    (length l.rule ≡ 512) × ((n : ℕ) → n < l.nine → answer l.rule n ≡ by_counts l.birth l.survive n)
