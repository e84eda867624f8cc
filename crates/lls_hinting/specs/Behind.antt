-- The steps of a log behind lemmas of a proof, and the deletions that were passed over.
use Rattle.std.specs.Prelude.{◌≡◌, ◌⊎◌, ◌+◌, ℕ, true, List, [], ◌∷◌}
use Rattle.lls_lit.specs.Formula.{Clause, Cnf}
use Rattle.lls_prooflog.specs.declared.step.Step.{Step}
use Rattle.lls_drat.specs.declared.kind.Kind.{Kind}
use Rattle.lls_drat.specs.declared.kind.Kind.TheVariants.{Addition, Deletion}
use Rattle.lls_drat.specs.Lemma.{NumberedLemma}
use Rattle.lls_lemmas.specs.Lemmas.{is_tautology, AddsLemma, AddsUnits, Begins, DeletesOne, EndsEmpty, GoesOnWell, HasClause, HoldsForGood, IsLive, IsNotImplied, KeepsLive, KeepsPlain}

-- a log goes on by steps with which nothing is wrong, and what was live stays so
abbrev pub Grows : Cnf → List Step → List Step → Type 0
Grows formula old new = GoesOnWell formula old new × KeepsLive formula old new

-- how far lemmas were taken: the log's steps, and how many deletions were passed over, of clauses of which a literal holds for good, and of clauses
-- that aren't live
pub record Progress : Type 0 where
  pub steps : List Step
  pub reasons : ℕ
  pub unknown : ℕ

-- no lemma was taken yet
abbrev pub progress_start : List Step → Progress
progress_start steps = record { steps = steps; reasons = 0; unknown = 0 }

-- so many more deletions were passed over
abbrev pub PassedMore : ℕ → ℕ → Progress → Progress → Type 0
PassedMore reasons unknown old new = (new.reasons ≡ old.reasons + reasons) × (new.unknown ≡ old.unknown + unknown)

-- a deletion changes no step, and one more is passed over: it names no live clause, or one of which a literal holds for good
abbrev pub PassesOver : Cnf → Clause → Progress → Progress → Type 0
PassesOver formula lits old new =
    (new.steps ≡ old.steps)
    × (((HasClause formula old.steps lits → ⊥) × PassedMore 0 1 old new) ⊎ (HasClause formula old.steps lits × HoldsForGood formula old.steps lits × PassedMore 1 0 old new))

-- a lemma that is added is live then, and beside it came no more than unit clauses and the empty clause, or these made the empty clause; one with a literal
-- beside its negation changes nothing
abbrev pub TakesIn : Cnf → Clause → List Step → List Step → Type 0
TakesIn formula lits old new =
    Grows formula old new
    × ((IsLive formula new lits × AddsLemma formula old new lits)
    ⊎ ((is_tautology lits ≡ true) × (new ≡ old))
    ⊎ (EndsEmpty new × (AddsUnits formula old new ⊎ AddsLemma formula old new lits)))

-- a lemma was taken: one that is added was taken in; one that is deleted took a live clause of its literals out, or was passed over
abbrev pub Takes : Cnf → Kind → Clause → Progress → Progress → Type 0
Takes formula Addition lits old new = TakesIn formula lits old.steps new.steps × PassedMore 0 0 old new
Takes formula Deletion lits old new = (DeletesOne formula old.steps new.steps lits × PassedMore 0 0 old new) ⊎ PassesOver formula lits old new

-- lemmas were taken, one after another, each where no hints led to the empty clause
abbrev pub TakesAll : Cnf → List NumberedLemma → Progress → Progress → Type 0
TakesAll formula [] old new = new ≡ old
TakesAll formula (first ∷ lemmas) old new =
    (between : Progress) × IsNotImplied formula old.steps [] × Takes formula first.lemma.kind first.lemma.lits old between × TakesAll formula lemmas between new

-- how far a formula and lemmas of its proof lead. The log begins with the deletion of clauses that hold for any values
pub record IsBehind (formula : Cnf) (lemmas : List NumberedLemma) (now : Progress) : Type 0 where
  pub start : List Step
  pub well : GoesOnWell formula [] start
  pub keeps : KeepsPlain formula [] start
  pub begins : Begins formula start
  pub taken : TakesAll formula lemmas (progress_start start) now
