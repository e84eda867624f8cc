use Rattle.std.proofs.Common.{subst, arith}
use Rattle.lls_prooflog.specs.StepText.{AreLiterals}
use Rattle.lls_prooflog.proofs.PrintedSteps.{step_of_line-step_line}
use Rattle.lls_prooflog.proofs.StepLines.{lines_of-step_text}
use Rattle.lls_prooflog.proofs.print.print_step.Goals as goal

pub returns-clause-one_line : goal.returns-clause-one_line
returns-clause-one_line c = lines_of-step_text 0 c.args.step.now (omega arith) (subst AreLiterals c.lend.ensures c.in_ok-push_step.ensures.literals) c.requires

pub returns-clause-read_again : goal.returns-clause-read_again
returns-clause-read_again c = step_of_line-step_line 0 c.args.step.now (omega arith) (subst AreLiterals c.lend.ensures c.in_ok-push_step.ensures.literals) c.requires
