-- What a search came to that spent its budget.
use Rattle.std.proofs.Common.{ℕ, Bool, List, Ok, Err, refl, arith}
use Rattle.lls_base.specs.declared.memory.Memory.{Memory}
use Rattle.lls_lit.specs.Formula.{Cnf}
use Rattle.lls_prooflog.specs.declared.step.Step.{Step}
use Rattle.lls_counting.proofs.Logs.{budgets_decide, kept_budgets_decide}
use Rattle.lls_solver.specs.declared.outcome.Outcome.TheVariants.{Undecided}
use Rattle.lls_solver.specs.Searching.{IsExhausted, IsOutcome, KeepsAll}

-- no budget that is great enough is spent
pub exhausted_outcome : (formula : Cnf) (budget : ℕ) (keep_all : Bool) (steps : List Step) → IsExhausted formula budget steps → KeepsAll keep_all steps → IsOutcome formula budget keep_all steps (Ok Undecided)
exhausted_outcome formula budget keep_all steps exhausted kept = record {
  sat = λ values is. absurd (cc is);
  learnt = λ values is. absurd (cc is);
  unsat = λ is. absurd (cc is);
  undecided = λ _. exhausted;
  memory = tt;
  all_kept = kept;
  decides = λ enough _. let below = budgets_decide formula steps budget exhausted.spent in omega (arith, enough, below);
  decides_kept = λ keeps enough _. let below = kept_budgets_decide formula steps budget exhausted.spent (kept keeps) in omega (arith, enough, below);
}

-- where memory lacks behind a spent log, that log is what was learnt
pub lacking_outcome : (formula : Cnf) (budget : ℕ) (keep_all : Bool) (steps : List Step) (lack : Memory) → IsOutcome formula budget keep_all steps (Ok Undecided)
    → IsOutcome formula budget keep_all steps (Err lack)
lacking_outcome formula budget keep_all steps lack spent =
    let exhausted = spent.undecided refl in
    let all = exhausted.spent.budgeted in
    record {
      sat = λ values is. absurd (cc is);
      learnt = λ values is. absurd (cc is);
      unsat = λ is. absurd (cc is);
      undecided = λ is. absurd (cc is);
      memory = record { log = exhausted.log; within = omega (arith, all) };
      all_kept = spent.all_kept;
      decides = λ enough is. absurd (cc is);
      decides_kept = λ keeps enough is. absurd (cc is);
    }
