-- The exit statuses.
use Rattle.std.specs.Prelude.{ℕ}
use Rattle.lls_hinting.specs.declared.status.Status.{Status}
use Rattle.lls_hinting.specs.declared.status.Status.TheVariants as statuses

abbrev pub code_of : Status → ℕ
code_of statuses.Done = 0
code_of statuses.Refused = 1
code_of statuses.Words = 2
code_of statuses.Content = 3
code_of statuses.Outside = 4
code_of statuses.Memory = 5
code_of statuses.Limit = 6
