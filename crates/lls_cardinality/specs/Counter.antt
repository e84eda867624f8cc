-- A sequential counter in clauses, in both directions (C. Sinz, Towards an Optimal CNF Encoding of Boolean Cardinality
-- Constraints, CP 2005): a row of variables for each cell says how many of the cells up to it are live.
use Rattle.std.specs.Prelude.{◌≡◌, ◌<◌, ℕ, zero, suc, ◌+◌, ◌*◌, ℤ, pos, Bool, true, nat_le, List, [], ◌∷◌, ◌++◌, length, take, slice_index_or}
use Rattle.std.specs.List.{count_by, flat_map, range_with_len}
use Rattle.lls_lit.specs.Literal.{negation}
use Rattle.lls_lit.specs.Formula.{Clause, Cnf, is_true, satisfies}

-- The variable that says that at least j + 1 of the first k + 1 cells are live. `base` variables come before the counter's.
abbrev pub at_least : ℕ → ℕ → ℕ → ℕ → ℤ
at_least base top k j = pos (base + k * top + j + 1)

-- Of the cells up to one at least j + 1 are live (`this`) exactly where of those before it at least j + 1 are (`more`), or
-- at least j are (`fewer`) and so is the cell. Four clauses say that.
abbrev pub inner_clauses : ℤ → ℤ → ℤ → ℤ → List Clause
inner_clauses cell this more fewer =
    (negation more ∷ this ∷ [])
    ∷ (negation cell ∷ negation fewer ∷ this ∷ [])
    ∷ (negation this ∷ more ∷ cell ∷ [])
    ∷ (negation this ∷ more ∷ fewer ∷ []) ∷ []

-- For j = 0 `fewer` is true. A clause with a literal that is true is left out, and a literal that is false is dropped.
abbrev pub first_count_clauses : ℤ → ℤ → ℤ → List Clause
first_count_clauses cell this more =
    (negation more ∷ this ∷ []) ∷ (negation cell ∷ this ∷ []) ∷ (negation this ∷ more ∷ cell ∷ []) ∷ []

-- before the first cell `more` is false, and for any other j so is `fewer`
abbrev pub first_cell_clauses : ℤ → ℤ → List Clause
first_cell_clauses cell this = (negation this ∷ cell ∷ []) ∷ (negation this ∷ []) ∷ []

-- both, for the first cell and j = 0
abbrev pub corner_clauses : ℤ → ℤ → List Clause
corner_clauses cell this = (negation cell ∷ this ∷ []) ∷ (negation this ∷ cell ∷ []) ∷ []

-- the clauses of the variable for the kth cell and the count j + 1
abbrev pub place_clauses : ℕ → ℕ → ℤ → ℕ → ℕ → List Clause
place_clauses base top cell zero zero = corner_clauses cell (at_least base top 0 0)
place_clauses base top cell zero (suc j) = first_cell_clauses cell (at_least base top 0 (suc j))
place_clauses base top cell (suc k) zero = first_count_clauses cell (at_least base top (suc k) 0) (at_least base top k 0)
place_clauses base top cell (suc k) (suc j) =
    inner_clauses cell (at_least base top (suc k) (suc j)) (at_least base top k (suc j)) (at_least base top k j)

-- those of the kth cell, count by count
abbrev pub row_clauses : ℕ → ℕ → List ℤ → ℕ → List Clause
row_clauses base top cells k = flat_map (place_clauses base top (slice_index_or cells k (pos 0)) k) (range_with_len 0 top)

-- those of a counter, cell by cell
unfoldable pub counter_clauses : ℕ → ℕ → List ℤ → List Clause
counter_clauses base top cells = flat_map (row_clauses base top cells) (range_with_len 0 (length cells))

-- the formula with the counter's variables and clauses behind its own
abbrev pub with_counter : Cnf → ℕ → List ℤ → Cnf
with_counter formula top cells = record {
  vars = formula.vars + length cells * top;
  clauses = formula.clauses ++ counter_clauses formula.vars top cells;
}

-- how many of the first n cells are live
abbrev pub live_among : List Bool → List ℤ → ℕ → ℕ
live_among values cells n = count_by (is_true values) (take n cells)

-- each of the counter's variables is true exactly where at least j + 1 of the first k + 1 cells are live
abbrev pub Counts : List Bool → ℕ → ℕ → List ℤ → Type 0
Counts values base top cells =
    (k j : ℕ) → k < length cells → j < top → is_true values (at_least base top k j) ≡ nat_le (j + 1) (live_among values cells (k + 1))

-- values of the counter's variables that, behind those of the others, satisfy its clauses
pub record HasCounts (values : List Bool) (base top : ℕ) (cells : List ℤ) : Type 0 where
  pub more : List Bool
  pub count : length more ≡ length cells * top
  pub satisfied : satisfies (values ++ more) (counter_clauses base top cells) ≡ true
