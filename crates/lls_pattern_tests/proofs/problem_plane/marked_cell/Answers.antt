use Rattle.lls_pattern_tests.proofs.WorkedPlane as worked
use Rattle.lls_pattern_tests.proofs.problem_plane.marked_cell.Goals as goal

pub returns-clause-solves : goal.returns-clause-solves
returns-clause-solves c = worked.from_nothing_solves

pub returns-clause-disobeys : goal.returns-clause-disobeys
returns-clause-disobeys c = worked.from_nothing_disobeys
