use Rattle.std.proofs.Common.{◌≡◌, ◌≤◌, take, length}
use Rattle.lls_transition.proofs.Written.{Goes}
use Rattle.lls_transition.proofs.clause.write_clause.Given as goal

-- the literals so far
abbrev pub invariant-loop-i : goal.invariant-loop-i
invariant-loop-i l = record { few : l.len ≤ l.i; room : length l.clause ≡ 11; goes : Goes l.inputs l.cube l.i (take l.len l.clause) }
