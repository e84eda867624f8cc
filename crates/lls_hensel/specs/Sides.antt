-- For private contracts alone: a side of a rule text as it is read from a place on, and a table with what its entries say.
use Rattle.std.specs.Prelude.{ℕ, ◌+◌, Bool, List, take, drop, Result, Ok, ◌||◌}
use Rattle.lls_base.specs.Results.{and_then}
use Rattle.lls_rule.specs.Rule.{answer, table_of}
use Rattle.lls_hensel.specs.Entries.{Entry, Group, next_of}
use Rattle.lls_hensel.specs.Notation.{entries_of_side}
use Rattle.lls_hensel.specs.Reading.{cut, groups_read}
use Rattle.lls_hensel.specs.declared.read.RuleError.{RuleError}

-- a table with what entries say beside it
unfoldable pub with_entries : List Bool → List Entry → List Bool
with_entries table entries = table_of (λ nine. answer table nine || next_of entries nine)

-- the groups of a side that begins at a column, from a place on at which a digit stands
unfoldable pub groups_at : ℕ → List ℕ → ℕ → Result (List Group) RuleError
groups_at column side at = groups_read (column + at) (take at side) (cut (drop at side)).1

-- a table with what groups say beside it
unfoldable pub table_read : Bool → List Bool → Result (List Group) RuleError → Result (List Bool) RuleError
table_read survival table read = and_then read (λ groups. Ok (with_entries table (entries_of_side survival groups)))
