use Rattle.lls_pattern_tests.proofs.ListOfAll.{begins_listed}
use Rattle.lls_pattern_tests.proofs.problem_plane.list_of_all.Goals as goal

pub returns : goal.returns
returns c = begins_listed
