-- What a trim needs of a formula's log.
use Rattle.std.specs.Prelude.{◌<◌, List, length}
use Rattle.lls_lit.specs.Formula.{Cnf}
use Rattle.lls_trim.specs.Inferences.{Inference}
use Rattle.lls_trim.specs.Marking.{AreOrdered, AreGivenWithin}

-- the formula, and the additions of an accepted log up to the empty clause
pub record RecordedState : Type 0 where
  pub formula : Cnf
  pub inferences : List Inference

-- there is an addition, and each comes from additions before it and from clauses of the formula
pub record IsRecorded (formula : Cnf) (inferences : List Inference) : Type 0 where
  pub some : 0 < length inferences
  pub ordered : AreOrdered inferences
  pub given : AreGivenWithin (length formula.clauses) inferences
