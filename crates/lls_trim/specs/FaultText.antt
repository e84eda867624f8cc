-- The text of a refusal, and the error that a refused proof makes.
use Rattle.std.specs.Prelude.{ℕ, List, ◌++◌, codes}
use Rattle.std.specs.Fmt.{decimal}
use Rattle.lls_lrat.specs.declared.error.CheckError.{CheckError}
use Rattle.lls_lrat.specs.declared.error.CheckError.TheVariants as checks
use Rattle.lls_lrat.specs.FaultText.{check_error_text}
use Rattle.lls_trim.specs.declared.error.TrimError.{TrimError}
use Rattle.lls_trim.specs.declared.error.TrimError.TheVariants as errors

abbrev pub trim_error_text : TrimError → List ℕ
trim_error_text (errors.Refused error) = check_error_text error
trim_error_text (errors.RatStep line) = codes "RatStep " ++ decimal line
trim_error_text errors.Memory = codes "Memory"

-- want of memory is one answer, whoever lacked it
abbrev pub refused : CheckError → TrimError
refused (checks.Line line fault) = errors.Refused (checks.Line line fault)
refused (checks.Step line fault) = errors.Refused (checks.Step line fault)
refused checks.NoEmpty = errors.Refused checks.NoEmpty
refused checks.Memory = errors.Memory
