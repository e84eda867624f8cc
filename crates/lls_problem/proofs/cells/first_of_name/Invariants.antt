use Rattle.std.proofs.Common.{◌≡◌, ◌<◌, ℕ, Some}
use Rattle.lls_search_file.specs.Posed.{name_of}
use Rattle.lls_problem.specs.Solution.{cell_number}
use Rattle.lls_problem.proofs.cells.first_of_name.Given as goal

-- no cell so far has the name
abbrev pub invariant-loop-j : goal.invariant-loop-j
invariant-loop-j l = (i : ℕ) → i < l.j → name_of (cell_number l.cells i).kind ≡ Some l.name → ⊥
