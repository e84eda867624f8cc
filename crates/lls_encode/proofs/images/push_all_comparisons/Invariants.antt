use Rattle.std.proofs.Common.{◌≡◌, drop}
use Rattle.lls_encode.proofs.Compared.{with_motions}
use Rattle.lls_encode.proofs.images.push_all_comparisons.Given as goal

-- what is there, and what the motions that are left give, is what all give
abbrev pub invariant-loop-n : goal.invariant-loop-n
invariant-loop-n l = with_motions l.problem l.formula (drop l.n l.motions) ≡ with_motions l.problem l.fn.formula l.motions
