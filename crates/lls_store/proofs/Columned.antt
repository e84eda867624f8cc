-- The columns of a table of rows, as rows are written.
use Rattle.std.proofs.Common.{◌≡◌, ℕ, List, map, get_or, set, ap, ◌∙◌}
use Rattle.std.specs.Prelude.{Option}
use Rattle.std.proofs.lemmas.List.{map-set}
use Rattle.std.proofs.Math.Seq.{map-set_same}
use Rattle.lls_store.specs.declared.rows.Row.{Row}
use Rattle.lls_store.specs.RowColumns.{columns_of}

-- a whole row
pub columns_of-set : (rows : List Row) (i : ℕ) (row : Row) → columns_of (set rows i row) ≡ record {
  levels = set (map (λ r. r.level) rows) i row.level;
  places = set (map (λ r. r.place) rows) i row.place;
  reasons = set (map (λ r. r.reason) rows) i row.reason;
}
columns_of-set rows i row =
    ap (λ (ls : List ℕ). record { levels = ls; places = map (λ (r : Row). r.place) (set rows i row); reasons = map (λ (r : Row). r.reason) (set rows i row) }) (map-set (λ (r : Row). r.level) rows i row)
    ∙ ap (λ (ps : List ℕ). record { levels = set (map (λ (r : Row). r.level) rows) i row.level; places = ps; reasons = map (λ (r : Row). r.reason) (set rows i row) }) (map-set (λ (r : Row). r.place) rows i row)
    ∙ ap (λ (rs : List (Option ℕ)). record { levels = set (map (λ (r : Row). r.level) rows) i row.level; places = set (map (λ (r : Row). r.place) rows) i row.place; reasons = rs }) (map-set (λ (r : Row). r.reason) rows i row)

-- the reason of a row alone
pub columns_of-reason : (rows : List Row) (i : ℕ) (old : Row) (reason : Option ℕ) → old ≡ get_or rows i old → columns_of (set rows i (record { level = old.level; place = old.place; reason = reason })) ≡ record {
  levels = map (λ r. r.level) rows;
  places = map (λ r. r.place) rows;
  reasons = set (map (λ r. r.reason) rows) i reason;
}
columns_of-reason rows i old reason read =
    let row : Row = record { level = old.level; place = old.place; reason = reason } in
    ap (λ (ls : List ℕ). record { levels = ls; places = map (λ (r : Row). r.place) (set rows i row); reasons = map (λ (r : Row). r.reason) (set rows i row) }) (map-set_same (λ (r : Row). r.level) rows i row old (ap (λ (r : Row). r.level) read))
    ∙ ap (λ (ps : List ℕ). record { levels = map (λ (r : Row). r.level) rows; places = ps; reasons = map (λ (r : Row). r.reason) (set rows i row) }) (map-set_same (λ (r : Row). r.place) rows i row old (ap (λ (r : Row). r.place) read))
    ∙ ap (λ (rs : List (Option ℕ)). record { levels = map (λ (r : Row). r.level) rows; places = map (λ (r : Row). r.place) rows; reasons = rs }) (map-set (λ (r : Row). r.reason) rows i row)
