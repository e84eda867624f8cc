use Rattle.std.proofs.Common.{◌≡◌, ℕ, true, length, map, take}
use Rattle.std.specs.Prelude.{All, Contains}
use Rattle.lls_solver.specs.declared.deletion.Candidate.{Candidate}
use Rattle.lls_solver.specs.Deletion.{is_marked}
use Rattle.lls_solver.proofs.deletion.mark_numbers.Given as goal

abbrev pub invariant-loop-candidate : goal.invariant-loop-candidate
invariant-loop-candidate l = record {
  len : length l.marks ≡ length l.initial.marks;
  marked : (c : ℕ) → is_marked l.marks c ≡ true → Contains (map (λ (x : Candidate). x.number) (take l.candidate-index l.candidates)) c;
  each : All (λ (x : Candidate). is_marked l.marks x.number ≡ true) (take l.candidate-index l.candidates);
}
