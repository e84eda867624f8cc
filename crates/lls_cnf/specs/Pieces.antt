-- For private contracts alone: clauses in one buffer, which ends cut into pieces.
use Rattle.std.specs.Prelude.{◌≡◌, ◌≤◌, ℕ, ◌-◌, List, [], ◌∷◌, take, drop, ℤ}
use Rattle.lls_lit.specs.Formula.{Clause}

-- the pieces that end at the ends, the first of which begins at from
abbrev pub pieces : ℕ → List ℕ → List ℤ → List Clause
pieces from [] buffer = []
pieces from (e ∷ es) buffer = take (e - from) (drop from buffer) ∷ pieces e es buffer

-- no end stands before from or an earlier end, and the last is the buffer's
abbrev pub AreEnds : ℕ → List ℕ → ℕ → Type 0
AreEnds from [] total = from ≡ total
AreEnds from (e ∷ es) total = (from ≤ e) × AreEnds e es total
