-- For private contracts alone: how often literals stand in clauses.
use Rattle.std.specs.Prelude.{◌≡◌, ◌≤◌, ℕ, ◌+◌, ℤ, List, [], ◌∷◌, Option, Some, None, slice_index_or, if◌then◌else◌}
use Rattle.std.specs.Option.{ForSome}
use Rattle.std.specs.Ordering.{int_eq}
use Rattle.lls_lit.specs.Literal.{literal_at}
use Rattle.lls_lit.specs.Formula.{Clause}
use Rattle.lls_prooflog.specs.UnitWalk.{Live}

abbrev pub times_in : ℤ → Clause → ℕ
times_in l [] = 0
times_in l (m ∷ ms) = (if int_eq l m then 1 else 0) + times_in l ms

abbrev pub times_of : ℤ → Option Clause → ℕ
times_of l None = 0
times_of l (Some clause) = times_in l clause

abbrev pub times_among : ℤ → Live → ℕ
times_among l [] = 0
times_among l (pair ∷ rest) = times_in l pair.1 + times_among l rest

-- the count at a place of a table, and 0 beyond its end
abbrev pub count_at : List ℕ → ℕ → ℕ
count_at counts i = slice_index_or counts i 0

-- no count is less than how often its literal stands in the clauses
abbrev pub AreCounts : Live → List ℕ → Type 0
AreCounts live counts = (i : ℕ) → times_among (literal_at i) live ≤ count_at counts i

abbrev pub IsCounted : Live → Option (List ℕ) → Type 0
IsCounted live counts = ForSome counts (AreCounts live)

-- what stands in the clauses was counted too
abbrev pub HasCounted : Live → List ℕ → List ℕ → Type 0
HasCounted live before after = (i : ℕ) → count_at before i + times_among (literal_at i) live ≤ count_at after i

-- where there are counts, there were, and a clause was counted too
abbrev pub CountsMore : Clause → Option (List ℕ) → Option (List ℕ) → Type 0
CountsMore lits before after = (counts : List ℕ) → after ≡ Some counts → (known : List ℕ) × ((before ≡ Some known) × ((i : ℕ) → count_at counts i ≡ count_at known i + times_in (literal_at i) lits))
