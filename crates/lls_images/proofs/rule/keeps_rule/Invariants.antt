use Rattle.std.proofs.Common.{◌≡◌, true}
use Rattle.std.specs.List.{list_all, range_with_len}
use Rattle.lls_images.specs.Same.{is_answer_kept}
use Rattle.lls_images.proofs.rule.keeps_rule.Given as goal

-- the neighbourhoods so far are answered alike
abbrev pub invariant-loop-nine : goal.invariant-loop-nine
invariant-loop-nine l = list_all (is_answer_kept l.motion l.rule) (range_with_len 0 l.nine) ≡ true
