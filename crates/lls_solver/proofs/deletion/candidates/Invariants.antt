use Rattle.std.specs.Prelude.{All}
use Rattle.lls_solver.specs.declared.deletion.Candidate.{Candidate}
use Rattle.lls_solver.specs.Deletion.{MayGo}
use Rattle.lls_solver.proofs.deletion.candidates.Given as goal

abbrev pub invariant-loop-c : goal.invariant-loop-c
invariant-loop-c g l = record { may_go : All (λ (x : Candidate). MayGo (g.S.Store.state l.store).live l.reasons l.last x.number) l.candidates.items }
