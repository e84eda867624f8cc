-- For private contracts alone: what they see of a side or a group that borrows its bytes.
use Rattle.std.specs.Prelude.{ℕ, List, Result, Ok, Err}
use Rattle.lls_hensel.specs.declared.group.Group as code
use Rattle.lls_hensel.specs.declared.read.Side.{Side}
use Rattle.lls_hensel.specs.declared.read.RuleError.{RuleError}
use Rattle.lls_hensel.specs.Entries.{Group}
use Rattle.lls_hensel.specs.Groups.{seen_group}

abbrev pub seen_side : Result Side RuleError → Result (ℕ × List ℕ) RuleError
seen_side (Ok side) = Ok (side.column, side.bytes.now)
seen_side (Err fault) = Err fault

abbrev pub seen_result : Result code.Group RuleError → Result Group RuleError
seen_result (Ok group) = Ok (seen_group group)
seen_result (Err fault) = Err fault
