use Rattle.lls_formula_tests.proofs.WorkedLogs.{one_learnt_spent, another_budget, weaker_copy, deleted_early, without_propagation}
use Rattle.lls_formula_tests.proofs.prooflog_spent.spent_logs.Goals as goal

pub returns-clause-spent : goal.returns-clause-spent
returns-clause-spent c = one_learnt_spent

pub returns-clause-another_budget : goal.returns-clause-another_budget
returns-clause-another_budget c = another_budget

pub returns-clause-weaker_copy : goal.returns-clause-weaker_copy
returns-clause-weaker_copy c = weaker_copy

pub returns-clause-deleted_early : goal.returns-clause-deleted_early
returns-clause-deleted_early c = deleted_early

pub returns-clause-without_propagation : goal.returns-clause-without_propagation
returns-clause-without_propagation c = without_propagation
