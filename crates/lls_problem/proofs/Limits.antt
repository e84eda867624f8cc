-- The constants of the code are the limits of the definitions.
use Rattle.std.proofs.Common.{◌≡◌, refl}
use Rattle.lls_problem.specs.declared.bounds.TheConstants.Bound.{MOST}
use Rattle.lls_problem.specs.declared.bounds.TheConstants.Bounds.{MOST_COUNTERS}
use Rattle.lls_problem.specs.Bounds.{most_end, most_counters}

pub most_end-is : MOST ≡ most_end
most_end-is = refl

pub most_counters-is : MOST_COUNTERS ≡ most_counters
most_counters-is = refl
