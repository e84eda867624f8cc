use Rattle.std.proofs.Common.{◌≢◌, ◌<◌, ℕ, []}
use Rattle.std.specs.Prelude.{slice_index_or}
use Rattle.lls_problem.proofs.listed.first_listed.Given as goal

-- the patterns so far have other cells
abbrev pub invariant-loop-n : goal.invariant-loop-n
invariant-loop-n l = (m : ℕ) → m < l.n → slice_index_or l.patterns m [] ≢ l.cells
