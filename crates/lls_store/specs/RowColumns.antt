-- For private contracts alone: the columns of a table of rows.
use Rattle.std.specs.Prelude.{List, map}
use Rattle.lls_store.specs.declared.rows.Row.{Row}
use Rattle.lls_store.specs.Columns.{Columns}

abbrev pub columns_of : List Row → Columns
columns_of rows = record { levels = map (λ r. r.level) rows; places = map (λ r. r.place) rows; reasons = map (λ r. r.reason) rows }
