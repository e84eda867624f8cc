-- What a trim makes of an accepted proof.
use Rattle.std.specs.Prelude.{◌≡◌, ◌≤◌, true, length, count_by}
use Rattle.std.specs.List.{list_all}
use Rattle.lls_lit.specs.Formula.{Cnf}
use Rattle.lls_prooflog.specs.Spent.{EachStep, IsGood, is_addition, log_start}
use Rattle.lls_prooflog.specs.Steps.{are_accepted, numbered}
use Rattle.lls_trim.specs.declared.trimming.Trimming.{Trimming}
use Rattle.lls_trim.specs.Placed.{Placed, steps_in, steps_of_log}
use Rattle.lls_trim.specs.Inferences.{inferences_of}
use Rattle.lls_trim.specs.Trimmed.{IsTrimmed}
use Rattle.lls_trim.specs.Kept.{AreUsed, EndsEmpty, IsSublist, clauses_added}

-- what the empty clause of a proof rests on, and how many additions the proof has up to and with that. It is an accepted proof too, by unit
-- propagation and without a deletion, no longer than the given one and with some of its clauses in their order; each but the last is of use, and the
-- last alone is empty; and nothing can be trimmed from it
pub record IsTrimmingOf (formula : Cnf) (given : Placed) (trimming : Trimming) : Type 0 where
  pub trimmed : IsTrimmed formula given trimming.log.steps
  pub counted : trimming.additions ≡ length (inferences_of formula given)
  pub accepted : are_accepted (numbered formula.clauses) trimming.log.steps ≡ true
  pub good : EachStep IsGood (log_start formula) trimming.log.steps
  pub additions : list_all is_addition trimming.log.steps ≡ true
  pub sublist : IsSublist (clauses_added trimming.log.steps) (clauses_added (steps_in given))
  pub fewer : length trimming.log.steps ≤ count_by is_addition (steps_in given)
  pub within : length trimming.log.steps ≤ trimming.additions
  pub used : AreUsed trimming.log.steps
  pub empty : EndsEmpty trimming.log.steps
  pub again : IsTrimmed formula (steps_of_log trimming.log.steps) trimming.log.steps
