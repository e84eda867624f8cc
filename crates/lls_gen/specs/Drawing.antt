-- What a number says of a cell.
use Rattle.std.specs.Prelude.{ℕ, ◌/◌, ◌%◌, ◌^◌, ◌==◌, Bool, false, if◌then◌else◌, List, ◌++◌, map}
use Rattle.lls_search_file.specs.declared.cell.Cell.{Cell}
use Rattle.lls_search_file.specs.declared.cell.Kind.{Kind}
use Rattle.lls_search_file.specs.declared.cell.Kind.TheVariants.{Dead, Live, Free}

-- by the highest of its 64 bits
abbrev pub is_live : ℕ → Bool
is_live number = number / 2 ^ 63 == 1

-- by the three bits below
abbrev pub is_unknown : ℕ → Bool
is_unknown number = number / 2 ^ 60 % 8 == 0

-- a cell whose value is fixed
abbrev pub known : Bool → Kind
known live = if live then Live else Dead

-- the cell of a number
abbrev pub drawn : ℕ → Kind
drawn number = if is_unknown number then Free else known (is_live number)

-- without a mark
abbrev pub plain : Kind → Cell
plain kind = record { mark = false; kind = kind }

-- the cells of numbers, and behind them cells whose values are fixed
abbrev pub cells_of_both : List ℕ → List Bool → List Cell
cells_of_both numbers next = map (λ number. plain (drawn number)) numbers ++ map (λ live. plain (known live)) next
