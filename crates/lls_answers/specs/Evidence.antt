-- What a search leaves in its file: its log, which shows that there is nothing to find, or that its budget is spent.
use Rattle.std.specs.Prelude.{◌≡◌, true, List}
use Rattle.std.specs.List.{list_all}
use Rattle.lls_lit.specs.Formula.{Cnf}
use Rattle.lls_prooflog.specs.declared.step.Step.{Step}
use Rattle.lls_prooflog.specs.Log.{log_text}
use Rattle.lls_prooflog.specs.Spent.{IsSpent, is_addition}
use Rattle.lls_solver.specs.Searching.{IsRefutation}
use Rattle.lls_lrat.specs.Verdict.{Accepted, verdict}
use Rattle.lls_answers.specs.declared.effort.Effort.{Effort}
use Rattle.lls_answers.specs.declared.answer_file.AnswerFile.{AnswerFile}

-- the file has the text of these steps, none of which is a deletion where all clauses are kept
pub record HasLog (effort : Effort) (steps : List Step) (file : AnswerFile) : Type 0 where
  pub file_is : file ≡ record { name = effort.proof; bytes = log_text steps }
  pub all_kept : effort.keep_all ≡ true → list_all is_addition steps ≡ true

-- the log of a search that refuted the formula: what it learnt within its budget, each clause by unit propagation and fresh, and the empty clause
-- behind that. None of its steps is a deletion where all clauses are kept
pub record IsEvidence (formula : Cnf) (effort : Effort) (steps : List Step) : Type 0 where
  pub refutes : IsRefutation formula effort.budget steps
  pub all_kept : effort.keep_all ≡ true → list_all is_addition steps ≡ true

-- the log of a search that refuted the formula, whole, as a text that the checker accepts
pub record HasProof (formula : Cnf) (effort : Effort) (file : AnswerFile) : Type 0 where
  pub steps : List Step
  pub log : HasLog effort steps file
  pub refutes : IsRefutation formula effort.budget steps
  pub accepted : verdict formula file.bytes ≡ Accepted

-- the log of a search that learnt as many clauses as it may, each of them fresh, and wasn't done
pub record HasSpentLog (formula : Cnf) (effort : Effort) (file : AnswerFile) : Type 0 where
  pub steps : List Step
  pub log : HasLog effort steps file
  pub spent : IsSpent formula steps effort.budget
