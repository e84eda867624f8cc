use Rattle.std.proofs.Common.{◌≡◌, take}
use Rattle.lls_transition.specs.Clause.{with_clauses, distinct, cube_clauses}
use Rattle.lls_transition.proofs.once.push_cubes_once.Given as goal

-- the distinct clauses of the cubes so far
abbrev pub invariant-loop-cube : goal.invariant-loop-cube
invariant-loop-cube l = l.formula ≡ with_clauses l.fn.formula (distinct (cube_clauses l.inputs (take l.cube-index l.cubes)))
