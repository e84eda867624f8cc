-- A list that leaves no solution over has generation 0 of each.
use Rattle.std.proofs.Common.{◌≡◌, ◌≢◌, ◌<◌, ◌⊎◌, ℕ, suc, Bool, true, false, List, [], ◌∷◌, length, refl, sym, arith, inl, inr}
use Rattle.std.proofs.Math.Bool.{beq}
use Rattle.std.specs.Prelude.{slice_index_or}
use Rattle.std.specs.Cmp.Lexicographic.{pointwise}
use Rattle.std.specs.List.{All}
use Rattle.std.proofs.lemmas.List.Elements.{All-nil, All-cons}
use Rattle.lls_grid.specs.History.{History, cells_of_rows, rows_at}
use Rattle.lls_problem.specs.Problem.{Pattern, PosedProblem, but}
use Rattle.lls_problem.specs.Solution.{IsAbsent, IsSolution, IsUnlisted}
use Rattle.lls_problem.proofs.FirstListed.{same_cells, other_cells}

-- a pattern of a list that has those cells
abbrev IsListed : List Pattern → List Bool → Type 0
IsListed patterns cells = (n : ℕ) × (n < length patterns) × (slice_index_or patterns n [] ≡ cells)

later : (pattern : Pattern) (patterns : List Pattern) (cells : List Bool) → pattern ≢ cells → All (λ other. cells ≢ other) patterns ⊎ IsListed patterns cells
    → All (λ other. cells ≢ other) (pattern ∷ patterns) ⊎ IsListed (pattern ∷ patterns) cells
later pattern patterns cells other (inl none) = inl (All-cons (λ p. cells ≢ p) pattern patterns (λ same. other (sym same)) none)
later pattern patterns cells other (inr found) = inr (suc found.0, omega (arith, found.1), found.2)

-- some pattern has them, or none
looked_up : (patterns : List Pattern) (cells : List Bool) → All (λ other. cells ≢ other) patterns ⊎ IsListed patterns cells
looked_up [] cells = inl (All-nil (λ p. cells ≢ p))
looked_up (pattern ∷ patterns) cells =
    elim (pointwise beq pattern cells) as (λ b. pointwise beq pattern cells ≡ b → All (λ other. cells ≢ other) (pattern ∷ patterns) ⊎ IsListed (pattern ∷ patterns) cells) [
      | true ↦ λ same. inr (0, omega arith, same_cells pattern cells same)
      | false ↦ λ other. later pattern patterns cells (other_cells pattern cells other) (looked_up patterns cells)
    ] refl

-- a solution that is none of the patterns is one of the problem with their list
unlisted_solution : (problem : PosedProblem) (patterns : List Pattern) (history : History) → IsSolution problem history → IsUnlisted (but problem patterns) history → IsSolution (but problem patterns) history
unlisted_solution problem patterns history solution unlisted = record {
  sizes = solution.sizes;
  cells = solution.cells;
  symmetric = solution.symmetric;
  moved = solution.moved;
  rule = solution.rule;
  populated = solution.populated;
  differ = λ pair is.
      let place = solution.differ pair is in
      let cell = place.1.1 in
      (place.0, (place.1.0, record { row = cell.row; column = cell.column; differs = cell.differs }));
  exact = solution.exact;
  unlisted = unlisted;
}

pub begins_listed : (problem : PosedProblem) (patterns : List Pattern) → IsAbsent (but problem patterns) → (history : History) → IsSolution problem history → IsListed patterns (cells_of_rows (rows_at history 0))
begins_listed problem patterns absent history solution = elim (looked_up patterns (cells_of_rows (rows_at history 0))) [
  | inl none ↦ absurd (absent history (unlisted_solution problem patterns history solution none))
  | inr found ↦ found
]
