use Rattle.lls_counting.proofs.deciding.deciding_budget.Goals as goal
use Rattle.lls_counting.proofs.Sets.{numbered, numbers_tell}
use Rattle.lls_counting.proofs.Logs.{added_are_few, additions_are_few, budgets_decide, fresh_differs, kept_budgets_decide}

pub returns-clause-decides : goal.returns-clause-decides
returns-clause-decides c = budgets_decide

pub returns-clause-kept : goal.returns-clause-kept
returns-clause-kept c = kept_budgets_decide

pub returns-clause-fresh : goal.returns-clause-fresh
returns-clause-fresh c = fresh_differs

pub returns-clause-numbered : goal.returns-clause-numbered
returns-clause-numbered c = numbered

pub returns-clause-told : goal.returns-clause-told
returns-clause-told c = numbers_tell

pub returns-clause-live : goal.returns-clause-live
returns-clause-live c = added_are_few

pub returns-clause-additions : goal.returns-clause-additions
returns-clause-additions c = additions_are_few
