use Rattle.std.proofs.Common.{[], ◌∷◌, refl, arith}
use Rattle.std.specs.Prelude.{pos}
use Rattle.lls_prooflog.specs.Worked.{searched}
use Rattle.lls_prooflog.proofs.FreshClauses.{no_weaker_clause, no_hints_refute}
use Rattle.lls_formula_tests.proofs.WorkedLogs.{first_fresh, resolvent_not_fresh}
use Rattle.lls_formula_tests.proofs.prooflog_spent.fresh_clauses.Goals as goal

pub returns-clause-fresh : goal.returns-clause-fresh
returns-clause-fresh c = first_fresh

pub returns-clause-copy : goal.returns-clause-copy
returns-clause-copy c =
    no_weaker_clause searched.clauses (pos 1 ∷ pos 2 ∷ pos 3 ∷ []) (pos 1 ∷ pos 2 ∷ pos 3 ∷ []) (0, omega arith, refl) refl

pub returns-clause-weaker_copy : goal.returns-clause-weaker_copy
returns-clause-weaker_copy c =
    no_weaker_clause ((pos 1 ∷ pos 2 ∷ []) ∷ []) (pos 3 ∷ pos 2 ∷ pos 1 ∷ []) (pos 1 ∷ pos 2 ∷ []) (0, omega arith, refl) refl

pub returns-clause-resolvent : goal.returns-clause-resolvent
returns-clause-resolvent c = resolvent_not_fresh

pub returns-clause-no_weaker : goal.returns-clause-no_weaker
returns-clause-no_weaker c = no_weaker_clause

pub returns-clause-unrefuted : goal.returns-clause-unrefuted
returns-clause-unrefuted c = no_hints_refute
