-- A worked trail over worked clauses, and what tests keep of a store.
use Rattle.std.specs.Prelude.{◌≡◌, ◌≤◌, ℕ, ℤ, pos, negsuc, List, [], ◌∷◌, All, Some, None}
use Rattle.std.specs.FinSet as set
use Rattle.lls_store.specs.Trail.{TrailState}
use Rattle.lls_store.specs.Clauses.{Literals, LiveClause}
use Rattle.lls_store.specs.Store.{StoreState}

abbrev pub lits : List ℤ → Literals
lits ls = set.from_list ls

-- -1 2
abbrev pub first_clause : LiveClause
first_clause = record { number = 0; id = 1; lits = lits (negsuc 0 ∷ pos 2 ∷ []) }

-- -2 -4 3
abbrev pub second_clause : LiveClause
second_clause = record { number = 1; id = 2; lits = lits (negsuc 1 ∷ negsuc 3 ∷ pos 3 ∷ []) }

-- -3 -2
abbrev pub third_clause : LiveClause
third_clause = record { number = 2; id = 3; lits = lits (negsuc 2 ∷ negsuc 1 ∷ []) }

abbrev pub worked_clauses : List LiveClause
worked_clauses = first_clause ∷ second_clause ∷ third_clause ∷ []

-- 4 is decided, then 1; 2 and 3 follow, and the third clause is a conflict
abbrev pub worked_trail : TrailState
worked_trail = record {
  vars = 4;
  current = 2;
  entries = record { lit = pos 4; level = 1; reason = None }
      ∷ record { lit = pos 1; level = 2; reason = None }
      ∷ record { lit = pos 2; level = 2; reason = Some 0 }
      ∷ record { lit = pos 3; level = 2; reason = Some 1 }
      ∷ [];
}

-- nothing is being built, and the ids are those up to the number of clauses that came
pub record IsAtRest (store : StoreState) : Type 0 where
  pub no_tail : store.tail ≡ []
  pub ids : All (λ clause. clause.id ≤ store.count) store.live

-- nothing is being built, and no id is above this one
pub record IsResting (store : StoreState) (most : ℕ) : Type 0 where
  pub no_tail : store.tail ≡ []
  pub ids : All (λ clause. clause.id ≤ most) store.live
