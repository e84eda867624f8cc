use Rattle.std.proofs.Common.{◌≡◌, All, take}
use Rattle.std.specs.Prelude.{fold}
use Rattle.lls_prooflog.specs.StepText.{greatest_with}
use Rattle.lls_prooflog.specs.Log.{log_text}
use Rattle.lls_prooflog.proofs.PrintedLogs.{IsReadable}
use Rattle.lls_prooflog.proofs.print.print_log.Given as goal

abbrev pub invariant-loop-k : goal.invariant-loop-k
invariant-loop-k l = record {
  text : l.text.items ≡ log_text (take l.k l.log.steps);
  greatest : l.greatest ≡ fold greatest_with 0 (take l.k l.log.steps);
  readable : All IsReadable (take l.k l.log.steps);
}
