-- The exit statuses.
use Rattle.std.specs.Prelude.{ℕ}
use Rattle.lls_answers.specs.declared.status.Status.{Status}
use Rattle.lls_answers.specs.declared.status.Status.TheVariants as statuses

abbrev pub code_of : Status → ℕ
code_of statuses.Done = 0
code_of statuses.Refused = 1
code_of statuses.Words = 2
code_of statuses.Content = 3
code_of statuses.Outside = 4
code_of statuses.Memory = 5
code_of statuses.Limit = 6
code_of statuses.Pattern = 10
code_of statuses.NoPattern = 20
code_of statuses.Undecided = 30
