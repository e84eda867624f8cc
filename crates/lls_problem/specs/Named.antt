-- For private contracts alone: the value that a cell says its name has.
use Rattle.std.specs.Prelude.{Bool, not}
use Rattle.lls_search_file.specs.declared.cell.Kind.{Kind}
use Rattle.lls_search_file.specs.declared.cell.Kind.TheVariants.{Dead, Live, Free, Named, Negated}

-- a cell with `-` says the other value; a cell without a name says its own
abbrev pub named_value : Kind → Bool → Bool
named_value Dead value = value
named_value Live value = value
named_value Free value = value
named_value (Named n) value = value
named_value (Negated n) value = not value
