-- Lemmas that are taken, one after another.
use Rattle.std.proofs.Common.{◌≡◌, ℕ, Bool, true, false, List, [], ◌∷◌, ◌++◌, Result, Ok, Err, refl, sym, subst, ◌∙◌, inl, inr}
use Rattle.lls_lit.specs.Formula.{Clause, Cnf}
use Rattle.lls_drat.specs.declared.kind.Kind.{Kind}
use Rattle.lls_drat.specs.Lemma.{NumberedLemma}
use Rattle.lls_lemmas.specs.Lemmas.{IsNotImplied, LemmasState}
use Rattle.lls_hinting.specs.declared.fault.Fault.{Fault}
use Rattle.lls_hinting.specs.declared.fault.Fault.TheVariants as faults
use Rattle.lls_hinting.specs.declared.fault.OutsideFault.TheVariants as outside
use Rattle.lls_hinting.specs.Behind.{Progress, Takes, TakesAll}
use Rattle.lls_hinting.specs.Judging.{IsResting, JudgeSays, LemmaSays, StopsAfter}
use Rattle.lls_hinting.specs.Place.{Passes, Place}
use Rattle.lls_hinting.specs.Steps.{Stops}

-- one more
pub takes_more : (formula : Cnf) (front : List NumberedLemma) (l : NumberedLemma) (old between new : Progress) → TakesAll formula front old between → IsNotImplied formula between.steps []
    → Takes formula l.lemma.kind l.lemma.lits between new → TakesAll formula (front ++ l ∷ []) old new
takes_more formula [] l old between new all open_ one =
    (new, subst (λ (p : Progress). IsNotImplied formula p.steps []) all open_, subst (λ (p : Progress). Takes formula l.lemma.kind l.lemma.lits p new) all one, refl)
takes_more formula (first ∷ front) l old between new all open_ one = (all.0, all.1, all.2, takes_more formula front l all.0 between new all.3 open_ one)

-- a lemma that ends it
pub lemma_refused : (formula : Cnf) (vars number : ℕ) (kind : Kind) (lits : Clause) (old between new : Progress) (before now : Place) (front : List NumberedLemma)
    → Passes (front ++ record { number = number; lemma = record { kind = kind; lits = lits } } ∷ []) before now → TakesAll formula front old between
    → LemmaSays formula vars kind lits between new (Ok false) → StopsAfter formula number old new before now
lemma_refused formula vars number kind lits old between new before now front passes taken says = record {
  front = front;
  lits = lits;
  passes = subst (λ (k : Kind). Passes (front ++ record { number = number; lemma = record { kind = k; lits = lits } } ∷ []) before now) says.0 passes;
  taken = subst (λ (p : Progress). TakesAll formula front old p) (sym says.1) taken;
  not_implied = says.2;
  not_addable = says.3;
}

-- a lemma that can't be taken
pub lemma_stops : (formula : Cnf) (vars number : ℕ) (kind : Kind) (lits : Clause) (old between new : Progress) (before now : Place) (front : List NumberedLemma) (fault : Fault) (faults_then faults_now : ℕ)
    → Passes (front ++ record { number = number; lemma = record { kind = kind; lits = lits } } ∷ []) before now → faults_now ≡ faults_then
    → LemmaSays formula vars kind lits between new (Err fault) → Stops fault (λ f. JudgeSays formula vars old new before now (Err f)) faults_then faults_now
lemma_stops formula vars number kind lits old between new before now front faults.Memory faults_then faults_now passes same says = tt
lemma_stops formula vars number kind lits old between new before now front (faults.Outside outside.Changed) faults_then faults_now passes same says =
    (record { front = front; lemma = record { number = number; lemma = record { kind = kind; lits = lits } }; passes = passes; greater = says }, same)
lemma_stops formula vars number kind lits old between new before now front (faults.Outside outside.NoFile) faults_then faults_now passes same says = absurd says
lemma_stops formula vars number kind lits old between new before now front (faults.Outside outside.OpenFailed) faults_then faults_now passes same says = absurd says
lemma_stops formula vars number kind lits old between new before now front (faults.Outside outside.ReadFailed) faults_then faults_now passes same says = absurd says
lemma_stops formula vars number kind lits old between new before now front (faults.Outside outside.CreateFailed) faults_then faults_now passes same says = absurd says
lemma_stops formula vars number kind lits old between new before now front (faults.Outside outside.WriteFailed) faults_then faults_now passes same says = absurd says
lemma_stops formula vars number kind lits old between new before now front (faults.Outside outside.OutFailed) faults_then faults_now passes same says = absurd says
lemma_stops formula vars number kind lits old between new before now front (faults.Dimacs f) faults_then faults_now passes same says = absurd says
lemma_stops formula vars number kind lits old between new before now front (faults.Proof f) faults_then faults_now passes same says = absurd says
lemma_stops formula vars number kind lits old between new before now front (faults.TooLong limit) faults_then faults_now passes same says = absurd says

-- what a lemma came to, by other names of its parts
pub says_of : (formula formula' : Cnf) (vars : ℕ) (kind : Kind) (lits lits' : Clause) (old new : Progress) (result : Result Bool Fault) → formula ≡ formula' → lits ≡ lits'
    → LemmaSays formula vars kind lits old new result → LemmaSays formula' vars kind lits' old new result
says_of formula formula' vars kind lits lits' old new result same_formula same_lits says =
    subst (λ (f : Cnf). LemmaSays f vars kind lits' old new result) same_formula (subst (λ (ls : Clause). LemmaSays formula vars kind ls old new result) same_lits says)

-- unit propagation has come to its end where the empty clause hasn't come
pub settled_of : (state : LemmasState) → IsResting state → state.refuted ≡ false → state.settled ≡ true
settled_of state (inl refuted) going = let clash : true ≡ false = sym refuted ∙ going in absurd cc
settled_of state (inr settled) going = settled
