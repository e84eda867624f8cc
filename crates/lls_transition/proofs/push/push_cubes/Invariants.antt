use Rattle.std.proofs.Common.{◌≡◌, take}
use Rattle.lls_transition.specs.Clause.{with_clauses, cube_clauses}
use Rattle.lls_transition.proofs.push.push_cubes.Given as goal

-- the clauses of the cubes so far
abbrev pub invariant-loop-cube : goal.invariant-loop-cube
invariant-loop-cube l = l.formula ≡ with_clauses l.fn.formula (cube_clauses l.inputs (take l.cube-index l.cubes))
