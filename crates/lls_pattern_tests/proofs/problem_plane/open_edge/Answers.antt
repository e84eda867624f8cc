use Rattle.lls_pattern_tests.proofs.WorkedPlane as worked
use Rattle.lls_pattern_tests.proofs.problem_plane.open_edge.Goals as goal

pub returns-clause-solves : goal.returns-clause-solves
returns-clause-solves c = worked.gone_solves

pub returns-clause-unmarked : goal.returns-clause-unmarked
returns-clause-unmarked c = worked.open_unmarked

pub returns-clause-disobeys : goal.returns-clause-disobeys
returns-clause-disobeys c = worked.gone_disobeys
