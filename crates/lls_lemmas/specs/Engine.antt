-- For private contracts: what holds of the parts of an engine.
use Rattle.std.specs.Prelude.{◌≡◌, ℕ, Bool, true, false, List, length, Option}
use Rattle.lls_lit.specs.Formula.{Cnf, IsUnsatisfiable}
use Rattle.lls_prooflog.specs.Spent.{EachStep, IsGood, log_start}
use Rattle.lls_prooflog.specs.declared.step.Step.{Step}
use Rattle.lls_store.specs.Trail.{TrailState}
use Rattle.lls_store.specs.Store.{StoreState}
use Rattle.lls_lemmas.specs.Lemmas.{AreRising, EndsEmpty, HasNoFault}
use Rattle.lls_lemmas.specs.Indexed.{IsFound}
use Rattle.lls_lemmas.specs.declared.index.Index.{Index}
use Rattle.lls_lemmas.specs.Units.{HasSettled, IsAtRest}

-- nothing is wrong with the steps, and they end with the empty clause or agree with the store, where each clause is found
pub record IsEngine (formula : Cnf) (steps : List Step) (store : StoreState) (trail : TrailState) (units : List (Option ℕ)) (index : Index) (done last : ℕ) (has_redundant settled refuted : Bool) (marks : ℕ) : Type 0 where
  pub well : EachStep HasNoFault (log_start formula) steps
  pub good : has_redundant ≡ false → EachStep IsGood (log_start formula) steps
  pub rising : AreRising (length formula.clauses) steps
  pub ends : refuted ≡ true → EndsEmpty steps
  pub unsatisfiable : refuted ≡ true → IsUnsatisfiable formula
  pub rest : refuted ≡ false → IsAtRest formula steps store trail units done last
  pub found : refuted ≡ false → IsFound trail.vars index store.live
  pub open_ : refuted ≡ false → settled ≡ true → HasSettled store trail done
  pub marks_vars : marks ≡ trail.vars
