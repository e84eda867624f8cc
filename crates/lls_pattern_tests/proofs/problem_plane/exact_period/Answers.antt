use Rattle.lls_pattern_tests.proofs.ExactPlane.{no_shorter}
use Rattle.lls_pattern_tests.proofs.problem_plane.exact_period.Goals as goal

pub returns : goal.returns
returns c = no_shorter
