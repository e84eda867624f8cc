use Rattle.std.proofs.Common.{◌≡◌, ◌||◌, ◌<◌, ℕ, length}
use Rattle.lls_rule.specs.Rule.{answer}
use Rattle.lls_open.specs.Decoding.{is_chosen}
use Rattle.lls_open.proofs.decoding.chosen_rule.Given as goal

-- the answers so far
abbrev pub invariant-loop-nine : goal.invariant-loop-nine
invariant-loop-nine l =
    (length l.rule ≡ 512) × ((n : ℕ) → n < l.nine → answer l.rule n ≡ (answer l.problem.rule n || is_chosen l.problem l.classes l.values n))
